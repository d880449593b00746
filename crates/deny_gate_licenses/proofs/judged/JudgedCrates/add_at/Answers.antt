use Rattle.std.proofs.Common.{◌++◌, ℕ, List, ap, ◌∙◌, subst}
use Rattle.deny_base.specs.declared.finding.Pack.{Pack}
use Rattle.deny_base_lists.specs.First.{FindsFirst}
use Rattle.deny_base_lists.proofs.Results.{on_ok_then}
use Rattle.deny_cfg.specs.LicensingView.{licensing_view}
use Rattle.deny_gate_licenses.specs.declared.granter.Granter.{Granter}
use Rattle.deny_gate_licenses.specs.private.Witnesses.{place_in, same_granter}
use Rattle.deny_gate_licenses.proofs.JudgedLemmas.{pack-there, witnessed-there}
use Rattle.deny_gate_licenses.proofs.judged.JudgedCrates.add_at.Goals as goal

pub returns-in_ok-judgement_of-in-Some-clause-packs : goal.returns-in_ok-judgement_of-in-Some-clause-packs
returns-in_ok-judgement_of-in-Some-clause-packs c = on_ok_then c.add.result c.add.ensures.packs (λ added.
    added ∙ ap (λ (ps : List Pack). c.args.self.now.packs ++ ps)
    (pack-there (licensing_view c.args.granting.now.cfg.now) c.args.krates.now c.in-Some.krate.now c.args.place _
    c.in-Some.ensures c.in_ok-judgement_of-in-Some.ensures))

pub returns-in_ok-judgement_of-in-Some-clause-witnesses : goal.returns-in_ok-judgement_of-in-Some-clause-witnesses
returns-in_ok-judgement_of-in-Some-clause-witnesses c =
    on_ok_then c.add.result c.add.ensures.witnesses (λ adds entries finds.
    subst (λ (ws : List (Granter × ℕ)). FindsFirst same_granter (entries ++ ws) (place_in c.add.new.self.witnesses))
    (witnessed-there (licensing_view c.args.granting.now.cfg.now) c.args.krates.now c.in-Some.krate.now c.args.place _
    c.in-Some.ensures c.in_ok-judgement_of-in-Some.ensures) (adds entries finds))
