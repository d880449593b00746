-- The crates that lead to build time.
use Rattle.std.specs.Prelude.{ℕ, ◌≡◌, ◌||◌, ◌↔◌, Bool, IsTrue, List, [], ◌∷◌, Contains, codes, length, sum_by}
use Rattle.std.specs.List.{list_any}
use Rattle.std.specs.Str.{bytes_eq}
use Rattle.deny_base_lists.specs.Walk.{is_marked}
use Rattle.deny_spec.specs.Graph.{Crate, Graph, dependencies, dependents}

-- a target of this kind is a build script or a procedural macro
unfoldable pub is_executed_kind : List ℕ → Bool
is_executed_kind kind = bytes_eq kind (codes "custom-build") || bytes_eq kind (codes "proc-macro")

-- the crate has a target of such a kind
unfoldable pub executes_at_build_time : Crate → Bool
executes_at_build_time c = list_any (λ t. list_any is_executed_kind t.kind) c.targets

-- from a crate, each one of a list is a direct dependent of the one before it
abbrev pub AreDependentsInTurn : Graph → Crate → List Crate → Type 0
AreDependentsInTurn g c [] = Unit {0}
AreDependentsInTurn g c (d ∷ ds) = Contains (dependents g c.place) d × AreDependentsInTurn g d ds

-- the last crate of a crate and those that follow it
abbrev pub last_from : Crate → List Crate → Crate
last_from c [] = c
last_from c (d ∷ ds) = last_from d ds

-- dependents, maybe none, lead in turn from the crate to one that executes at build time
pub record IsReached (g : Graph) (c : Crate) : Type 0 where
  pub above : List Crate
  pub in_turn : AreDependentsInTurn g c above
  pub ends : IsTrue (executes_at_build_time (last_from c above))

-- a mark for each crate, by its place: whether dependents lead from it to build time
pub record AreReached (g : Graph) (marks : List Bool) : Type 0 where
  pub long : length marks ≡ length g.crates
  pub each : (c : Crate) → Contains g.crates c → IsTrue (is_marked marks c.place) ↔ IsReached g c

-- how many pairs of a parent and a child there are, whatever the number of edges between the two
abbrev pub pair_count : Graph → ℕ
pair_count g = sum_by (λ parent. length (dependencies g parent.place)) g.crates
