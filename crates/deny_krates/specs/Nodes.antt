-- The nodes of a graph, which are its crates and their enabled features, and the edges between them.
use Rattle.std.specs.Prelude.{ℕ, ◌&&◌, ◌||◌, ◌==◌, ◌++◌, ◌∷◌, Bool, false, not, List, [], Option, Some, None, codes}
use Rattle.std.specs.Prelude.{filter, map, nat_eq, slice_get, unwrap_or, if◌then◌else◌}
use Rattle.std.specs.Cmp.Lexicographic.{slice_cmp}
use Rattle.std.specs.FinMap as finite
use Rattle.std.specs.List.{after_first, before_first, flat_map, list_any, starts_with}
use Rattle.std.specs.Option.{option_and_then, option_cmp, option_map_or}
use Rattle.std.specs.Ordering.{nat_cmp, on, then_cmp}
use Rattle.std.specs.declared.cmp.Ordering.{Ordering}
use Rattle.deny_base.specs.Edge.{kind_cmp, kind_number}
use Rattle.deny_base.specs.declared.edge.DepKind.{DepKind}
use Rattle.deny_base.specs.declared.edge.DepKind.TheVariants.{Normal, Dev, Build}
use Rattle.deny_krates_graph.specs.Dependents.{id_at}
use Rattle.deny_krates_graph.specs.Ids.{crate_of}
use Rattle.deny_krates.specs.InOrder.{in_order}
use Rattle.deny_krates.specs.declared.nodes.InEdge.{InEdge}
use Rattle.deny_spec.specs.Graph.{Crate, Dependency, Graph, dependents, leads}
use Rattle.deny_spec.specs.Resolution.{resolution}
use Rattle.deny_spec.specs.Text.{same_text}

-- ---- nodes

-- the crate at a place, or a feature of it
pub record Node : Type 0 where
  pub place : ℕ
  pub feature : Option (List ℕ)

abbrev pub crate_node : Crate → Node
crate_node c = record { place = c.place; feature = None }

abbrev pub feature_node : Crate → List ℕ → Node
feature_node c feature = record { place = c.place; feature = Some feature }

abbrev pub feature_nodes : Crate → List Node
feature_nodes c = map (feature_node c) c.enabled

-- the crates in order, and then crate by crate their enabled features, ascending: a node's number is its
-- index here, so that a crate's is its place
unfoldable pub nodes_of : Graph → List Node
nodes_of g = map crate_node g.crates ++ flat_map feature_nodes g.crates

-- the node of a number
unfoldable pub node_at : Graph → ℕ → Node
node_at g number = unwrap_or (slice_get (nodes_of g) number) (record { place = 0; feature = None })

unfoldable pub is_enabled : Crate → List ℕ → Bool
is_enabled c feature = list_any (same_text feature) c.enabled

-- the node of a crate, or of a feature of it if it is enabled
unfoldable pub node_in : Option (List ℕ) → Crate → Option Node
node_in None c = Some (crate_node c)
node_in (Some feature) c = if is_enabled c feature then Some (feature_node c feature) else None

-- the node of the crate of an id, or of a feature of it if it is enabled
unfoldable pub node_named : Graph → List ℕ → Option (List ℕ) → Option Node
node_named g id feature = option_and_then (node_in feature) (crate_of g id)

-- ---- sources of edges

-- the source of an edge, and the kind of the dependency; none where the source is a feature of the same crate
pub record Incoming : Type 0 where
  pub node : Node
  pub kind : Option DepKind

abbrev pub from_own : Crate → List ℕ → Incoming
from_own c feature = record { node = feature_node c feature; kind = None }

abbrev pub from_crate : Crate → DepKind → Incoming
from_crate p kind = record { node = crate_node p; kind = Some kind }

abbrev pub from_feature : Crate → DepKind → List ℕ → Incoming
from_feature p kind feature = record { node = feature_node p feature; kind = Some kind }

-- the source of an edge, by the number of its node
abbrev pub incoming_at : Graph → InEdge → Incoming
incoming_at g e = record { node = node_at g e.node.0; kind = e.kind }

-- the order of sources: crates first, by id, and then features by name, crate id and kind; an edge without a kind
-- is before those with one. No two crates share an id; in a graph where two did, their places would decide
unfoldable pub incoming_cmp : Graph → Incoming → Incoming → Ordering
incoming_cmp g =
    then_cmp (on (λ i. i.node.feature) (option_cmp (slice_cmp nat_cmp)))
    (then_cmp (on (λ i. id_at g i.node.place) (slice_cmp nat_cmp))
    (then_cmp (on (λ i. i.kind) (option_cmp kind_cmp)) (on (λ i. i.node.place) nat_cmp)))

-- ---- what a feature enables

-- the list of a crate's feature
unfoldable pub entries_of : Crate → List ℕ → List (List ℕ)
entries_of c feature = unwrap_or (finite.get c.features feature) []

abbrev pub is_slash : ℕ → Bool
is_slash byte = byte == 47

-- an entry that is a feature of the crate itself: neither a dependency nor a feature of one
unfoldable pub is_plain : List ℕ → Bool
is_plain entry = not (starts_with nat_eq entry (codes "dep:")) && not (list_any is_slash entry)

-- the list of a feature contains another as a plain entry
unfoldable pub holds_plain : Crate → List ℕ → List ℕ → Bool
holds_plain c other feature = is_plain other && list_any (same_text other) (entries_of c feature)

-- the name of a dependency in the features and the code of a crate
unfoldable pub manifest_name : Dependency → List ℕ
manifest_name d = unwrap_or d.rename d.name

-- `n` or `n?`, where n is a dependency's name
unfoldable pub is_called : Dependency → List ℕ → Bool
is_called d text = same_text text (manifest_name d) || same_text text (manifest_name d ++ codes "?")

-- an entry `n/f` or `n?/f`: the feature f of the dependency n
unfoldable pub leads_over : Dependency → List ℕ → List ℕ → Bool
leads_over d feature entry = list_any is_slash entry
    && (same_text (after_first is_slash entry) feature && is_called d (before_first is_slash entry))

-- ---- what crates declare

abbrev pub default_feature : List ℕ
default_feature = codes "default"

-- the features that a declaration asks for
unfoldable pub asked : Dependency → List (List ℕ)
asked d = if d.uses_default_features then d.features ++ default_feature ∷ [] else d.features

unfoldable pub asks_for : List ℕ → Dependency → Bool
asks_for feature d = list_any (same_text feature) (asked d)

-- none of the features that a declaration asks for is enabled in the crate
unfoldable pub asks_in_vain : Crate → Dependency → Bool
asks_in_vain c d = not (list_any (is_enabled c) (asked d))

unfoldable pub resolves_to : Graph → Crate → Crate → Dependency → Bool
resolves_to g p c d = option_map_or (λ place. place == c.place) (resolution g p.place d) false

-- the declarations of one crate that resolve to another
unfoldable pub declared : Graph → Crate → Crate → List Dependency
declared g p c = filter (resolves_to g p c) p.deps

abbrev pub is_of_kind : DepKind → Dependency → Bool
is_of_kind kind d = kind_number d.kind == kind_number kind

-- some declaration of this kind, of one crate to another, passes a test
unfoldable pub declares : Graph → Crate → Crate → DepKind → (Dependency → Bool) → Bool
declares g p c kind test = list_any (λ d. is_of_kind kind d && test d) (declared g p c)

-- an edge of this kind leads from one crate to another
unfoldable pub has_edge : Graph → Crate → Crate → DepKind → Bool
has_edge g p c kind = list_any (λ e. leads p.place c.place e && (kind_number e.kind == kind_number kind)) g.edges

-- ---- edges

abbrev pub all_kinds : List DepKind
all_kinds = Normal ∷ Dev ∷ Build ∷ []

-- each enabled feature leads to its crate
unfoldable pub own_features : Crate → List Incoming
own_features c = map (from_own c) c.enabled

-- each enabled feature leads to another of its crate that its list contains as a plain entry
unfoldable pub own_leading : Crate → List ℕ → List Incoming
own_leading c feature = map (from_own c) (filter (holds_plain c feature) c.enabled)

-- for an edge, and a declaration of its kind that resolves to its child, the parent leads to each enabled
-- feature that the declaration asks for
unfoldable pub leads_by_asking : Graph → Crate → List ℕ → Crate → DepKind → Bool
leads_by_asking g c feature p kind = has_edge g p c kind && declares g p c kind (asks_for feature)

-- for an edge, and a declaration of its kind that resolves to its child and asks for no enabled feature, the parent
-- leads to the crate
unfoldable pub leads_in_vain : Graph → Crate → Crate → DepKind → Bool
leads_in_vain g c p kind = has_edge g p c kind && declares g p c kind (asks_in_vain c)

-- for an edge of a kind of which no declaration resolves to the child, the parent leads to the crate
unfoldable pub leads_undeclared : Graph → Crate → Crate → DepKind → Bool
leads_undeclared g c p kind = has_edge g p c kind && not (list_any (is_of_kind kind) (declared g p c))

-- a feature whose list contains `n/f` or `n?/f` leads to the enabled feature f of the crate that a declaration of
-- n resolves to, with the declaration's kind
unfoldable pub feature_leads : Graph → Crate → List ℕ → Crate → DepKind → List ℕ → Bool
feature_leads g c feature p kind from =
    declares g p c kind (λ d. list_any (leads_over d feature) (entries_of p from))

-- ---- the sources of a node

-- the sources of a crate that are one parent with one kind
unfoldable pub sources_of_crate : Graph → Crate → Crate → DepKind → List Incoming
sources_of_crate g c p kind =
    if leads_in_vain g c p kind || leads_undeclared g c p kind then from_crate p kind ∷ [] else []

-- the sources of a feature that are one parent, or a feature of it, with one kind
unfoldable pub sources_of_feature : Graph → Crate → List ℕ → Crate → DepKind → List Incoming
sources_of_feature g c feature p kind =
    (if leads_by_asking g c feature p kind then from_crate p kind ∷ [] else [])
    ++ map (from_feature p kind) (filter (feature_leads g c feature p kind) p.enabled)

-- the sources that are direct dependents or their features: a declaration resolves along an edge only
unfoldable pub of_parents : Graph → Crate → (Crate → DepKind → List Incoming) → List Incoming
of_parents g c sources = flat_map (λ p. flat_map (sources p) all_kinds) (dependents g c.place)

unfoldable pub sources_at : Graph → Option (List ℕ) → Crate → List Incoming
sources_at g None c = own_features c ++ of_parents g c (sources_of_crate g c)
sources_at g (Some feature) c = own_leading c feature ++ of_parents g c (sources_of_feature g c feature)

-- the sources of the edges that end at a node, in order, each pair of a source and a kind once
unfoldable pub incoming_in : Graph → Node → List Incoming
incoming_in g node = in_order (incoming_cmp g)
    (option_map_or (sources_at g node.feature) (slice_get g.crates node.place) [])
