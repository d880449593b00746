use Rattle.std.proofs.Common.{refl, subst, sym}
use Rattle.deny_base.specs.declared.check.Which.TheVariants.{Policy, Metadata, Replacements}
use Rattle.deny_gate.specs.Gating.{InputTexts}
use Rattle.deny_cli.specs.Causes.{AreInputsOf}
use Rattle.deny_cli.specs.private.Commands.{check_view}
use Rattle.deny_cli.specs.Arguments.{check}
use Rattle.deny_cli.proofs.ReadingLemmas.{handed_on, metadata_asked_for, policy_asked_for, read_if_named_since}
use Rattle.deny_cli.proofs.ReadingLemmas.{read_since, replacements_asked_for}
use Rattle.deny_cli.proofs.program.read_inputs.Goals as goal
use Rattle.deny_base_disk.proofs.PieceLemmas.{later_same, later_then}

pub returns-in_err-policy-clause-stop : goal.returns-in_err-policy-clause-stop
returns-in_err-policy-clause-stop g c =
    let old = g.D.PackageFiles.seen c.args.disk.now in
    let asked = check_view c.args.asked in
    handed_on old old _ asked Policy _ c.from_residual.result c.in_err-policy.field-0.0
    c.from_residual.ensures.1 (later_same old) (policy_asked_for old asked) c.in_err-policy.ensures.stop

pub returns-in_err-metadata-clause-stop : goal.returns-in_err-metadata-clause-stop
returns-in_err-metadata-clause-stop g c =
    let old = g.D.PackageFiles.seen c.args.disk.now in
    let asked = check_view c.args.asked in
    handed_on old _ _ asked Metadata _ c.from_residual-in_err-metadata.result c.in_err-metadata.field-0.0
    c.from_residual-in_err-metadata.ensures.1 c.in_ok-policy.ensures.later
    (metadata_asked_for old asked _ c.in_ok-policy.ensures.read) c.in_err-metadata.ensures.stop

pub returns-in_err-replacements-clause-stop : goal.returns-in_err-replacements-clause-stop
returns-in_err-replacements-clause-stop g c =
    let old = g.D.PackageFiles.seen c.args.disk.now in
    let between = g.D.PackageFiles.seen c.read_text.new.disk in
    let asked = check_view c.args.asked in
    let first = c.in_ok-policy.ensures in
    let second = c.in_ok-metadata.ensures in
    let stop = c.in_err-replacements.ensures.stop in
    handed_on old _ _ asked Replacements stop.0 c.from_residual-in_err-replacements.result
    c.in_err-replacements.field-0.0 c.from_residual-in_err-replacements.ensures.1
    (later_then old between _ first.later second.later)
    (replacements_asked_for old between asked _ _ _ stop.1 first.later first.read second.read) stop.2

pub returns-in-Ok-clause-read : goal.returns-in-Ok-clause-read
returns-in-Ok-clause-read g c =
    let old = g.D.PackageFiles.seen c.args.disk.now in
    let between = g.D.PackageFiles.seen c.read_text.new.disk in
    let asked = check_view c.args.asked in
    let first = c.in_ok-policy.ensures in
    let second = c.in_ok-metadata.ensures in
    subst (λ (texts : InputTexts). AreInputsOf old (check asked) texts) (sym c.in-Ok.ensures) (record {
      policy = first.read;
      metadata = read_since old between _ _ first.later second.read;
      replacements = read_if_named_since old _ _ _ (later_then old between _ first.later second.later)
          c.in_ok-replacements.ensures.read;
      home = refl;
      registries = refl;
      today = refl;
    })
