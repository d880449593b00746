-- Sources of edges as they are collected, with the ids by which they are ordered.
use Rattle.std.specs.Prelude.{◌≡◌, ◌&&◌, ℕ, Bool, false, not, List, Option, Some, map, slice_get}
use Rattle.std.specs.Cmp.Lexicographic.{slice_cmp}
use Rattle.std.specs.List.{list_any}
use Rattle.std.specs.Option.{option_and_then, option_cmp, option_map_or}
use Rattle.std.specs.Ordering.{nat_cmp, on, then_cmp}
use Rattle.std.specs.declared.cmp.Ordering.{Ordering}
use Rattle.deny_base.specs.Edge.{kind_cmp}
use Rattle.deny_base.specs.declared.edge.DepKind.{DepKind}
use Rattle.deny_krates_graph.specs.Crates.{crate_view, dependency_view}
use Rattle.deny_krates_graph.specs.Dependents.{id_at}
use Rattle.deny_krates.specs.Nodes.{Incoming, Node, asked, entries_of, is_of_kind, leads_over, node_in}
use Rattle.deny_krates.specs.declared.incoming.Parent.{Parent}
use Rattle.deny_krates_graph.specs.declared.krate.Krate.{Krate}
use Rattle.deny_krates.specs.declared.resolved.ResolvedAt.{ResolvedAt}
use Rattle.deny_spec.specs.Graph.{Crate, Dependency, Graph}
use Rattle.deny_spec.specs.Text.{same_text}

-- the order of sources with their ids: by feature, none first, then by crate id, kind and place
abbrev pub parent_cmp : Parent → Parent → Ordering
parent_cmp =
    then_cmp (on (λ p. p.feature) (option_cmp (slice_cmp nat_cmp))) (then_cmp (on (λ p. p.id) (slice_cmp nat_cmp))
    (then_cmp (on (λ p. p.kind) (option_cmp kind_cmp)) (on (λ p. p.place) nat_cmp)))

-- a source with the id of its crate
abbrev pub parent_of : Graph → Incoming → Parent
parent_of g i = record {
  feature = i.node.feature;
  id = id_at g i.node.place;
  kind = i.kind;
  place = i.node.place;
}

abbrev pub source_of : Parent → Incoming
source_of p = record { node = record { place = p.place; feature = p.feature }; kind = p.kind }

-- a feature of a crate, or the crate, as a source
abbrev pub parent_in : Crate → Option DepKind → Option (List ℕ) → Parent
parent_in c kind feature = record { feature = feature; id = c.id; kind = kind; place = c.place }

-- the declaration at an index passes a test
abbrev pub passes_there : List Dependency → (Dependency → Bool) → ResolvedAt → Bool
passes_there ds test r = option_map_or test (slice_get ds r.index) false

-- one of the declarations at these indices is of a kind and passes a test
abbrev pub any_there : List Dependency → DepKind → (Dependency → Bool) → List ResolvedAt → Bool
any_there ds kind test = list_any (passes_there ds (λ d. is_of_kind kind d && test d))

-- the node of the crate at a place, or of a feature of it if it is enabled
abbrev pub node_here : Graph → ℕ → Option (List ℕ) → Option Node
node_here g place feature = option_and_then (node_in feature) (slice_get g.crates place)

-- a source that is a node of the graph
abbrev pub IsThere : Graph → Parent → Type 0
IsThere g p = node_here g p.place p.feature ≡ Some (record { place = p.place; feature = p.feature })

-- none of the features that a declaration asks for is among these
abbrev pub asks_for_none : List (List ℕ) → Dependency → Bool
asks_for_none enabled d = not (list_any (λ feature. list_any (same_text feature) enabled) (asked d))

-- the list of a crate's feature leads over one of the declarations at these indices to a feature
unfoldable pub is_led_over : Krate → List ResolvedAt → DepKind → List ℕ → List ℕ → Bool
is_led_over k run kind feature from = any_there (map dependency_view k.deps) kind
    (λ d. list_any (leads_over d feature) (entries_of (crate_view 0 k) from)) run
