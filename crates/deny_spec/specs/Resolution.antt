-- The crate that cargo resolved a declared dependency to.
use Rattle.std.specs.Prelude.{ℕ, ◌&&◌, ◌==◌, Bool, false, List, Option, filter, find, map, slice_get}
use Rattle.std.specs.Option.{option_and_then, option_eq, option_map_or, option_or}
use Rattle.semver.specs.EvalViews.{matches_views}
use Rattle.deny_base.specs.Edge.{kind_number}
use Rattle.deny_spec.specs.Graph.{Crate, Dependency, Graph}
use Rattle.deny_spec.specs.Groups.{has_name}
use Rattle.deny_spec.specs.Text.{same_text}
use Rattle.deny_spec.specs.declared.target_edge.TargetEdge.{TargetEdge}

-- what a test says of the crate at a place
abbrev pub passes_at : (Crate → Bool) → List Crate → ℕ → Bool
passes_at test crates place = option_map_or test (slice_get crates place) false

-- whether a target edge may be a declaration's: of its kind, for its target, and to a crate of its name
unfoldable pub suits : List Crate → Dependency → TargetEdge → Bool
suits crates d e =
    (kind_number e.kind == kind_number d.kind)
    && (option_eq same_text e.target d.target && passes_at (has_name d.name) crates e.child)

-- the places of the crates among which a declaration of the crate at a place resolves, ascending as
-- target edges do
unfoldable pub agreeing : Graph → ℕ → Dependency → List ℕ
agreeing g parent d = map (λ e. e.child) (filter (suits g.crates d) (filter (λ e. e.parent == parent) g.target_edges))

-- whether a declaration's requirement matches the version of the crate at a place
abbrev pub is_wanted : List Crate → Dependency → ℕ → Bool
is_wanted crates d = passes_at (λ c. matches_views d.req c.version) crates

-- the first of these places whose crate's version matches, or else the first of them
unfoldable pub resolution : Graph → ℕ → Dependency → Option ℕ
resolution g parent d = option_or (find (is_wanted g.crates d) (agreeing g parent d))
    (slice_get (agreeing g parent d) 0)

-- a declaration of the crate at a place
abbrev pub declaration_at : Graph → ℕ → ℕ → Option Dependency
declaration_at g place index = option_and_then (λ c. slice_get c.deps index) (slice_get g.crates place)
