use Rattle.std.proofs.Common.{◌≡◌, drop}
use Rattle.std.specs.List.{list_any, list_all}
use Rattle.deny_spdx.specs.Truth.{truth}
use Rattle.deny_spdx.proofs.expression.+truth.Given as goal

abbrev pub invariant-all_hold-loop-part : goal.invariant-all_hold-loop-part
invariant-all_hold-loop-part l = list_all (truth l.allowed) (drop l.part-index l.parts)
    ≡ list_all (truth l.allowed) l.parts

abbrev pub invariant-any_holds-loop-part : goal.invariant-any_holds-loop-part
invariant-any_holds-loop-part l = list_any (truth l.allowed) (drop l.part-index l.parts)
    ≡ list_any (truth l.allowed) l.parts
