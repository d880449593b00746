use Rattle.std.proofs.Common.{◌≡◌, ◌++◌, Some, drop, map}
use Rattle.std.specs.Prelude.{slice_get}
use Rattle.std.specs.List.{flat_map}
use Rattle.deny_krates.specs.Nodes.{own_leading, sources_of_feature}
use Rattle.deny_krates.specs.private.Sources.{parent_of}
use Rattle.deny_krates.proofs.RowLemmas.{row_parents}
use Rattle.deny_krates.proofs.incoming.parents_of_feature.Given as goal
use Rattle.deny_spec.specs.Graph.{Crate}

abbrev pub invariant-loop-direct : goal.invariant-loop-direct
invariant-loop-direct l = (x : Crate) → slice_get l.krates.crates l.place ≡ Some x
    → l.parents ++ flat_map (row_parents l.krates (sources_of_feature l.krates x l.feature))
    (drop l.direct-index l.dependents)
    ≡ map (parent_of l.krates) (own_leading x l.feature)
    ++ flat_map (row_parents l.krates (sources_of_feature l.krates x l.feature)) l.dependents
