use Rattle.std.proofs.Common.{take}
use Rattle.std.specs.List.{flat_map}
use Rattle.deny_base_lists.specs.First.{FindsFirst}
use Rattle.deny_gate_licenses.specs.private.Granting.{grants_at}
use Rattle.deny_gate_licenses.specs.private.Grants.{granter_in, same_wanted}
use Rattle.deny_gate_licenses.proofs.granting.excepted_at.Given as goal

abbrev pub invariant-loop-number : goal.invariant-loop-number
invariant-loop-number l =
    FindsFirst same_wanted (flat_map (grants_at l.exceptions l.krate) (take l.number-index l.numbers))
    (granter_in l.grants)
