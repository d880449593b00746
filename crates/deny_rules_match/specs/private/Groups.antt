-- Reduced groups while they are worked out, crate by crate.
use Rattle.std.specs.Prelude.{◌≡◌, ◌&&◌, ◌||◌, ◌<◌, ◌≤◌, ◌++◌, ◌-◌, ℕ, Bool, false, not, List, map}
use Rattle.std.specs.Prelude.{length, take, drop, slice_get}
use Rattle.std.specs.List.{list_all}
use Rattle.std.specs.Option.{option_map_or}
use Rattle.deny_krates.specs.krate.DirectDependent.{DirectDependent}
use Rattle.deny_krates.specs.krate.Krate.{Krate}
use Rattle.deny_spec.specs.Graph.{Graph, dependents}
use Rattle.deny_spec.specs.Groups.{has_name}
use Rattle.deny_spec.specs.Text.{same_text}
use Rattle.deny_rules_match.specs.Marks.{mark_at, marked}
use Rattle.deny_rules_match.specs.Groups.{is_left}

-- the crate at a place counts, and a skip matches it or no skipped tree has it, by the marks at its place
unfoldable pub may_duplicate_at : List Bool → List Bool → List Bool → ℕ → Bool
may_duplicate_at counts skipped in_skipped_tree place = mark_at counts place
    && (mark_at skipped place || not (mark_at in_skipped_tree place))

-- the crate at a place has this name
unfoldable pub has_name_at : List Krate → List ℕ → ℕ → Bool
has_name_at krates name place = option_map_or (λ k. same_text k.name name) (slice_get krates place) false

-- all these direct dependents have this name
unfoldable pub all_have_name : List Krate → List ℕ → List DirectDependent → Bool
all_have_name krates name ds = list_all (λ d. has_name_at krates name d.place) ds

-- the crate at a place has a mark, and is the only one of its name that has (`alone`) or has a dependent of another
-- name
unfoldable pub is_left_at : Graph → List Bool → List ℕ → Bool → ℕ → Bool
is_left_at g candidates name alone place = mark_at candidates place && (alone || not
    (list_all (has_name name) (dependents g place)))

-- the marks of the crates from a place to the next are appended
pub record AddsLeft (g : Graph) (candidates : List Bool) (place next : ℕ) (old new : List Bool) : Type 0 where
  pub added : new ≡ old ++ map (is_left g (marked candidates)) (take (next - place) (drop place g.crates))
  pub up : place < next
  pub within : next ≤ length g.crates
