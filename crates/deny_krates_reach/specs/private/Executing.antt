-- The crates from which a walk along dependencies starts.
use Rattle.std.specs.Prelude.{ℕ, Bool, List, filter, map}
use Rattle.std.specs.List.{list_any}
use Rattle.deny_spec.specs.Graph.{Crate, Target}
use Rattle.deny_krates_reach.specs.Reached.{executes_at_build_time, is_executed_kind}

abbrev pub has_executed_kind : Target → Bool
has_executed_kind t = list_any is_executed_kind t.kind

-- the places of the crates that execute at build time
abbrev pub places_executing : List Crate → List ℕ
places_executing cs = map (λ c. c.place) (filter executes_at_build_time cs)
