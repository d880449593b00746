use Rattle.std.proofs.Common.{◌++◌, ℕ, List, take}
use Rattle.deny_base_lists.specs.First.{FindsFirst}
use Rattle.deny_gate_licenses.specs.declared.granter.Granter.{Granter}
use Rattle.deny_gate_licenses.specs.private.Witnesses.{place_in, same_granter, witnessed}
use Rattle.deny_gate_licenses.proofs.witnesses.Witnesses.add_each.Given as goal

abbrev pub invariant-loop-by : goal.invariant-loop-by
invariant-loop-by l = (entries : List (Granter × ℕ)) → FindsFirst same_granter entries (place_in l.fn.self)
    → FindsFirst same_granter (entries ++ witnessed (take l.by-index l.granters) l.place) (place_in l.self)
