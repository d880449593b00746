-- The reduced groups of names, by marks: one for each crate that is in the reduced group of its name.
use Rattle.std.specs.Prelude.{◌≡◌, ◌&&◌, ◌||◌, ◌==◌, ℕ, Bool, not, List, filter, map, length}
use Rattle.deny_spec.specs.Facts.{Facts}
use Rattle.deny_spec.specs.Graph.{Crate, Graph}
use Rattle.deny_spec.specs.Groups.{has_name, is_internal, is_marked, is_in_skipped_tree, may_duplicate, reduced}
use Rattle.deny_spec.specs.Policy.{Policy}
use Rattle.deny_rules_match.specs.Marks.{marked}
use Rattle.deny_rules_match.specs.declared.groups.Groups.{Groups}

-- a crate passes, and it is the only one of its name that does or it has a dependent of another name
unfoldable pub is_left : Graph → (Crate → Bool) → Crate → Bool
is_left g holds c = holds c && (length (filter (λ d. has_name c.name d && holds d) g.crates) == 1 || not
    (is_internal g c.name c))

-- which crates a skip matches, which are in skipped trees, and which are in the reduced groups of their names
pub record AreGroups (p : Policy) (g : Graph) (facts : Facts) (groups : Groups) : Type 0 where
  pub marked : groups.marked ≡ map (is_marked p) g.crates
  pub in_skipped_tree : groups.in_skipped_tree ≡ map (is_in_skipped_tree p facts) g.crates
  pub reduced : groups.reduced ≡ map (is_left g (may_duplicate p facts)) g.crates

-- the length of the reduced group of a name, for any policy and facts whose groups these are
pub record IsReducedLength (g : Graph) (groups : Groups) (name : List ℕ) (size : ℕ) : Type 0 where
  pub is : (p : Policy) (facts : Facts) → AreGroups p g facts groups → size ≡ length (reduced p g facts name)
