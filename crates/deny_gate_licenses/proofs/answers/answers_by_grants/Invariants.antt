use Rattle.std.proofs.Common.{◌≡◌, is_some, map, take}
use Rattle.std.specs.List.{flat_map}
use Rattle.deny_gate_licenses.specs.private.Answers.{granter_from, granters_by, notes_by}
use Rattle.deny_gate_licenses.proofs.answers.answers_by_grants.Given as goal

abbrev pub invariant-loop-requirement : goal.invariant-loop-requirement
invariant-loop-requirement l =
    record {
      allowed : l.answers.allowed
          ≡ map (λ r. is_some (granter_from l.excepted l.granting r)) (take l.requirement-index l.requirements);
      granters : l.answers.granters
          ≡ flat_map (λ r. granters_by (granter_from l.excepted l.granting r))
          (take l.requirement-index l.requirements);
      notes : l.answers.notes
          ≡ flat_map (λ r. notes_by (granter_from l.excepted l.granting r) r)
          (take l.requirement-index l.requirements);
    }
