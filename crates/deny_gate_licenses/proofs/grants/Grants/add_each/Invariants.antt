use Rattle.std.proofs.Common.{◌++◌, List, map, take}
use Rattle.deny_base_lists.specs.First.{FindsFirst}
use Rattle.deny_gate_licenses.specs.declared.granter.Granter.{Granter}
use Rattle.deny_gate_licenses.specs.declared.grants.WantedLicence.{WantedLicence}
use Rattle.deny_gate_licenses.specs.private.Grants.{grant_by, granter_in, same_wanted}
use Rattle.deny_gate_licenses.proofs.grants.Grants.add_each.Given as goal

abbrev pub invariant-loop-licence : goal.invariant-loop-licence
invariant-loop-licence l = (entries : List (WantedLicence × Granter))
    → FindsFirst same_wanted entries (granter_in l.fn.self)
    → FindsFirst same_wanted (entries ++ map (grant_by l.by) (take l.licence-index l.licences)) (granter_in l.self)
