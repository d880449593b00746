-- The crates that the members reach by edges of all kinds but one.
use Rattle.std.specs.Prelude.{◌≡◌, ◌<◌, ◌↔◌, ℕ, Bool, false, IsTrue, List, length, slice_index_or}
use Rattle.deny_base.specs.declared.edge.DepKind.{DepKind}
use Rattle.deny_spec.specs.Counting.{IsReachedWithout}
use Rattle.deny_spec.specs.Graph.{Graph}

abbrev pub is_marked : List Bool → ℕ → Bool
is_marked marks place = slice_index_or marks place false

-- a mark for each crate: whether a member reaches it by edges of other kinds
pub record AreMarks (kind : DepKind) (g : Graph) (marks : List Bool) : Type 0 where
  pub long : length marks ≡ length g.crates
  pub each : (place : ℕ) → place < length g.crates → IsTrue (is_marked marks place) ↔ IsReachedWithout kind g place
