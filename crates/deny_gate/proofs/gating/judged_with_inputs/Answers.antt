use Rattle.std.proofs.Common.{◌++◌, ◌∷◌, [], subst}
use Rattle.deny_cfg.specs.PolicyView.{policy_view}
use Rattle.deny_spans.specs.Seen.{lock_file}
use Rattle.deny_gate.specs.Gating.{IsTableFor}
use Rattle.deny_gate.specs.private.Gating.{Extras, AreGraphResults}
use Rattle.deny_gate.proofs.gating.judged_with_inputs.Goals as goal

pub returns-clause-results : goal.returns-clause-results
returns-clause-results g c =
    let krates = c.args.krates.now in
    let old = g.D.PackageFiles.seen c.args.disk.now in
    let new = g.D.PackageFiles.seen c.judged_on.new.disk in
    subst (λ (extras : Extras). AreGraphResults old new c.args.policy.now krates extras
    (c.args.files.now ++ lock_file krates.root krates ∷ []) c.judged_on.new.files c.in_ok-judged.judged.checked)
    c.extras_of-extras.ensures c.in_ok-judged.ensures.results

pub returns-clause-table : goal.returns-clause-table
returns-clause-table g c =
    subst (λ (extras : Extras). IsTableFor (policy_view c.args.policy.now.bans) extras.replacements)
    c.extras_of-extras.ensures c.in_ok-check_asked_table.ensures.ok
