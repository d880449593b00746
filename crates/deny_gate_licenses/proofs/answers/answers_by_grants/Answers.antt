use Rattle.std.proofs.Common.{◌++◌, ◌∷◌, [], Option, arith, is_some, map, ap, ◌∙◌}
use Rattle.std.specs.List.{flat_map}
use Rattle.std.proofs.lemmas.List.{take_all}
use Rattle.deny_gate_licenses.specs.declared.granter.Granter.{Granter}
use Rattle.deny_gate_licenses.specs.private.Answers.{granter_from, granters_by, notes_by}
use Rattle.deny_gate_licenses.proofs.MapLemmas.{flat-more, mapped-more}
use Rattle.deny_gate_licenses.proofs.answers.answers_by_grants.Goals as goal

pub loop-requirement-preserved : goal.loop-requirement-preserved
loop-requirement-preserved c =
    let from = granter_from c.args.excepted.now c.args.granting.now in
    let rs = c.args.requirements.now in
    let i = c.loop-requirement.requirement-index in
    let r = c.requirement-item.result in
    let old = c.loop-requirement.answers in
    let new = c.add.new.self in
    record {
      allowed = mapped-more (λ q. is_some (from q)) rs i r old.allowed new.allowed
          (omega (arith, c.loop-requirement-test.true)) c.requirement-item.is c.loop-requirement.invariant.allowed
          (c.in_ok-add.ensures.allowed
          ∙ ap (λ (o : Option Granter). old.allowed ++ is_some o ∷ []) c.in_ok-by.ensures);
      granters = flat-more (λ q. granters_by (from q)) rs i r old.granters new.granters
          (omega (arith, c.loop-requirement-test.true)) c.requirement-item.is c.loop-requirement.invariant.granters
          (c.in_ok-add.ensures.granters
          ∙ ap (λ (o : Option Granter). old.granters ++ granters_by o) c.in_ok-by.ensures);
      notes = flat-more (λ q. notes_by (from q) q) rs i r old.notes new.notes
          (omega (arith, c.loop-requirement-test.true)) c.requirement-item.is c.loop-requirement.invariant.notes
          (c.in_ok-add.ensures.notes
          ∙ ap (λ (o : Option Granter). old.notes ++ notes_by o r) c.in_ok-by.ensures);
    }

pub returns-clause-allowed : goal.returns-clause-allowed
returns-clause-allowed c =
    let from = granter_from c.args.excepted.now c.args.granting.now in
    c.loop-requirement.invariant.allowed
    ∙ ap (map (λ q. is_some (from q))) (take_all c.loop-requirement.requirement-index c.args.requirements.now
    (omega (arith, c.loop-requirement-test.false)))

pub returns-clause-granters : goal.returns-clause-granters
returns-clause-granters c =
    let from = granter_from c.args.excepted.now c.args.granting.now in
    c.loop-requirement.invariant.granters
    ∙ ap (flat_map (λ q. granters_by (from q))) (take_all c.loop-requirement.requirement-index c.args.requirements.now
    (omega (arith, c.loop-requirement-test.false)))

pub returns-clause-notes : goal.returns-clause-notes
returns-clause-notes c =
    let from = granter_from c.args.excepted.now c.args.granting.now in
    c.loop-requirement.invariant.notes
    ∙ ap (flat_map (λ q. notes_by (from q) q)) (take_all c.loop-requirement.requirement-index c.args.requirements.now
    (omega (arith, c.loop-requirement-test.false)))
