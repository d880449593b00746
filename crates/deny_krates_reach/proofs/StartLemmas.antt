-- The crates that execute at build time, by the targets that the metadata gives.
use Rattle.std.proofs.Common.{◌≡◌, ◌∙◌, ℕ, List, ap}
use Rattle.std.specs.List.{list_any}
use Rattle.deny_base_lists.proofs.Filters.{any-map}
use Rattle.deny_spec.specs.Graph.{Crate}
use Rattle.deny_krates.specs.Crates.{crate_view, crates_from, target_view}
use Rattle.deny_krates.specs.krate.Krate.{Krate}
use Rattle.deny_krates_reach.specs.Reached.{executes_at_build_time}
use Rattle.deny_krates_reach.specs.private.Executing.{has_executed_kind, places_executing}

pub executes_by_view : (place : ℕ) (k : Krate) → list_any (λ t. has_executed_kind (target_view t)) k.targets
    ≡ executes_at_build_time (crate_view place k)
unfolding executes_at_build_time
executes_by_view place k = any-map has_executed_kind target_view k.targets

-- where a walk starts, by the crates of the graph
pub starts_are : (ks : List Krate) (crates : List Crate) (places roots : List ℕ) → crates_from 0 ks ≡ crates
    → roots ≡ places → places ≡ places_executing (crates_from 0 ks) → roots ≡ places_executing crates
starts_are ks crates places roots same is are = is ∙ (are ∙ ap places_executing same)
