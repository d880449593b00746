use Rattle.std.proofs.Common.{◌≡◌, ◌++◌, Some, drop, map}
use Rattle.std.specs.Prelude.{slice_get}
use Rattle.std.specs.List.{flat_map}
use Rattle.deny_krates.specs.Nodes.{own_features, sources_of_crate}
use Rattle.deny_krates.specs.private.Sources.{parent_of}
use Rattle.deny_krates.proofs.RowLemmas.{row_parents}
use Rattle.deny_krates.proofs.incoming.parents_of_crate.Given as goal
use Rattle.deny_spec.specs.Graph.{Crate}

abbrev pub invariant-loop-direct : goal.invariant-loop-direct
invariant-loop-direct l = (x : Crate) → slice_get l.krates.crates l.place ≡ Some x
    → l.parents ++ flat_map (row_parents l.krates (sources_of_crate l.krates x)) (drop l.direct-index l.dependents)
    ≡ map (parent_of l.krates) (own_features x)
    ++ flat_map (row_parents l.krates (sources_of_crate l.krates x)) l.dependents
