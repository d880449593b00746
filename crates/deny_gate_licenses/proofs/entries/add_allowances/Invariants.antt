use Rattle.std.proofs.Common.{◌≡◌, ◌++◌, map, take}
use Rattle.deny_gate_licenses.specs.private.Granters.{allowance_granter}
use Rattle.deny_gate_licenses.proofs.entries.add_allowances.Given as goal

abbrev pub invariant-loop-licence : goal.invariant-loop-licence
invariant-loop-licence l = l.granters ≡ l.fn.granters ++ map allowance_granter (take l.licence-index l.licences)
