use Rattle.std.proofs.Common.{map, take}
use Rattle.deny_base_lists.specs.First.{FindsFirst}
use Rattle.deny_gate_licenses.specs.private.Grants.{allowance_grant, granter_in, same_wanted}
use Rattle.deny_gate_licenses.proofs.grants.Grants.of_allowances.Given as goal

abbrev pub invariant-loop-licence : goal.invariant-loop-licence
invariant-loop-licence l =
    FindsFirst same_wanted (map allowance_grant (take l.licence-index l.licences)) (granter_in l.grants)
