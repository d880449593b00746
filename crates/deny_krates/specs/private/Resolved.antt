-- The declarations that resolve to a crate, in order of that crate and the crate that declares.
use Rattle.std.specs.Prelude.{◌≡◌, ◌&&◌, ◌||◌, ◌==◌, ◌+◌, ℕ, Bool, List, [], ◌∷◌, Contains, nat_lt, option_map, Some}
use Rattle.std.specs.List.{cons_option, flat_map}
use Rattle.std.specs.Option.{option_and_then}
use Rattle.std.specs.Ordering.{nat_cmp, on, then_cmp}
use Rattle.std.specs.declared.cmp.Ordering.{Ordering}
use Rattle.deny_base_lists.specs.Ascending.{Lists}
use Rattle.deny_krates.specs.declared.resolved.ResolvedAt.{ResolvedAt}
use Rattle.deny_spec.specs.Graph.{Crate, Dependency, Graph}
use Rattle.deny_spec.specs.Resolution.{declaration_at, resolution}

-- a pair of numbers is before another, in the order of the first numbers and then of the second
unfoldable pub is_before : ℕ → ℕ → ℕ → ℕ → Bool
is_before first second other_first other_second =
    nat_lt first other_first || (first == other_first) && nat_lt second other_second

abbrev pub resolved_cmp : ResolvedAt → ResolvedAt → Ordering
resolved_cmp = then_cmp (on (λ r. r.child) nat_cmp) (then_cmp (on (λ r. r.parent) nat_cmp) (on (λ r. r.index) nat_cmp))

abbrev pub resolved_to : ℕ → ℕ → ℕ → ResolvedAt
resolved_to parent index child = record { child = child; parent = parent; index = index }

-- the declarations of a crate that resolve, given the index of the first declaration
abbrev pub resolved_from : Graph → ℕ → ℕ → List Dependency → List ResolvedAt
resolved_from g parent index [] = []
resolved_from g parent index (d ∷ ds) = cons_option (option_map (resolved_to parent index) (resolution g parent d))
    (resolved_from g parent (index + 1) ds)

abbrev pub resolved_in : Graph → List Crate → List ResolvedAt
resolved_in g = flat_map (λ c. resolved_from g c.place 0 c.deps)

-- the declarations of all crates that resolve, ascending
abbrev pub AreResolved : Graph → List ResolvedAt → Type 0
AreResolved g = Lists resolved_cmp (Contains (resolved_in g g.crates))

-- the declaration of a crate resolves to a crate
abbrev pub IsResolvedAt : Graph → ResolvedAt → Type 0
IsResolvedAt g r = option_and_then (resolution g r.parent) (declaration_at g r.parent r.index) ≡ Some r.child

-- the declarations of one crate that resolve to another
pub record AreBetween (g : Graph) (child parent : ℕ) (rs : List ResolvedAt) : Type 0 where
  pub whole : (index : ℕ) → IsResolvedAt g (resolved_to parent index child)
      → Contains rs (resolved_to parent index child)
  pub sound : (r : ResolvedAt) → Contains rs r
      → (r.child ≡ child) × (r.parent ≡ parent) × IsResolvedAt g r
