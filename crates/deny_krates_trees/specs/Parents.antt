-- The nodes above a node of a tree.
use Rattle.std.specs.Prelude.{ℕ, ◌&&◌, ◌==◌, Bool, true, false, List, [], map, Option, None, Some, nat_lt, slice_get}
use Rattle.std.specs.Option.{option_eq, option_map_or}
use Rattle.deny_base.specs.declared.edge.DepKind.{DepKind}
use Rattle.deny_base.specs.declared.edge.DepKind.TheVariants.{Normal, Dev, Build}
use Rattle.deny_krates.specs.InOrder.{in_order}
use Rattle.deny_krates.specs.Nodes.{Incoming, Node, from_crate, has_edge, incoming_cmp, incoming_in}
use Rattle.deny_spec.specs.Graph.{Crate, Graph, dependents}
use Rattle.deny_spec.specs.Text.{same_text}

-- whether two nodes are one
unfoldable pub same_node : Node → Node → Bool
same_node a b = (a.place == b.place) && option_eq same_text a.feature b.feature

-- the least kind, by whether there are edges of the kinds normal and dev
abbrev pub least_of : Bool → Bool → DepKind
least_of true is_dev = Normal
least_of false true = Dev
least_of false false = Build

-- the least kind of the edges from one crate to another
unfoldable pub least_kind : Graph → Crate → Crate → DepKind
least_kind g p c = least_of (has_edge g p c Normal) (has_edge g p c Dev)

-- the direct dependents of a crate, by id, each once with its least kind
unfoldable pub dependents_of : Graph → Crate → List Incoming
dependents_of g c = in_order (incoming_cmp g) (map (λ p. from_crate p (least_kind g p c)) (dependents g c.place))

unfoldable pub dependents_in : Graph → Node → List Incoming
dependents_in g node = option_map_or (dependents_of g) (slice_get g.crates node.place) []

-- whether features are shown above a node of this depth; none stands for no bound
abbrev pub is_below : Option ℕ → ℕ → Bool
is_below None depth = true
is_below (Some most) depth = nat_lt depth most

-- the nodes above a node: the sources of its edges, or else the direct dependents of its crate
abbrev pub parents_if : Bool → Graph → Node → List Incoming
parents_if true g node = incoming_in g node
parents_if false g node = dependents_in g node

unfoldable pub parents_in : Graph → Option ℕ → ℕ → Node → List Incoming
parents_in g most depth node = parents_if (is_below most depth) g node
