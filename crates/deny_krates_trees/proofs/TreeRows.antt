-- Small cases of trees and their texts worked out, so that the definitions can be read against them.
use lib.Utf8.{encode}
use Rattle.std.proofs.Common.{◌≡◌, ℕ, List, [], ◌∷◌, true, false, Option, Some, None, codes, refl}
use Rattle.std.specs.FinMap as finite
use Rattle.std.specs.Fmt.{digits}
use Rattle.std.specs.Prelude.{⊤, encode_utf8_all}
use Rattle.deny_base_lists.proofs.TextMapLemmas.{get-from_entries}
use Rattle.deny_base.specs.Edge.{kind_number}
use Rattle.deny_base.specs.declared.edge.DepKind.{DepKind}
use Rattle.deny_base.specs.declared.edge.DepKind.TheVariants.{Normal, Dev, Build}
use Rattle.deny_base.specs.declared.edge.Edge.{Edge}
use Rattle.deny_base.specs.declared.finding.GraphNode as base
use Rattle.deny_krates.specs.InOrder.{in_order}
use Rattle.deny_krates.specs.Nodes.{asked, asks_for, asks_in_vain, declared, declares, entries_of, feature_leads}
use Rattle.deny_krates.specs.Nodes.{has_edge, holds_plain, incoming_cmp, incoming_in, is_called, is_enabled, is_plain}
use Rattle.deny_krates.specs.Nodes.{leads_by_asking, leads_in_vain, leads_over, leads_undeclared, manifest_name}
use Rattle.deny_krates.specs.Nodes.{node_in, node_named, nodes_of, of_parents, own_features, own_leading, resolves_to}
use Rattle.deny_krates.specs.Nodes.{sources_at, sources_of_crate, sources_of_feature}
use Rattle.deny_spec.specs.Graph.{Crate, Dependency, Graph, dependents, leads}
use Rattle.deny_spec.specs.Groups.{has_name}
use Rattle.deny_spec.specs.Resolution.{agreeing, resolution, suits}
use Rattle.deny_krates_trees.specs.Parents.{dependents_in, dependents_of, least_kind, parents_in, same_node}
use Rattle.deny_krates_trees.specs.Text.{parents_text, tree_text}
use Rattle.deny_krates_trees.specs.Tree.{graph_of, grow, grow_each, headed_tree, inner_of, is_met, node_with, tree_of}
use Rattle.deny_krates_trees.specs.declared.node.GraphNode.{GraphNode}
use Rattle.deny_krates_trees.specs.declared.node.NodeInner.TheVariants.{Krate, Feature}
use Rattle.deny_krates_trees.proofs.LevelLemmas.{text-node}

crate : ℕ → List ℕ → List ℕ → List (List ℕ × List (List ℕ)) → List (List ℕ) → List Dependency → Crate
crate place name id table enabled deps = record {
  place = place;
  name = name;
  version = (1, 0, 0, [], []);
  id = id;
  source = None;
  source_text = None;
  license = None;
  manifest_path = codes "/Cargo.toml";
  publish = None;
  rust_version = None;
  features = finite.from_entries table;
  targets = [];
  deps = deps;
  enabled = enabled;
}

-- a crate without features, whose id is its name
plain : ℕ → List ℕ → Crate
plain place name = crate place name name [] [] []

edge : ℕ → ℕ → DepKind → Edge
edge parent child kind = record { parent = parent; child = child; kind = kind }

graph : List Crate → List Edge → Graph
graph crates edges = record { root = []; crates = crates; members = 0 ∷ []; edges = edges; target_edges = [] }

named : List ℕ → base.GraphNode
named id = record { kid = record { 0 = id }; feature = None }

-- the tree of a crate of version 1.0.0, and a repeat of one
shown : List ℕ → Option DepKind → List GraphNode → GraphNode
shown name kind parents = node_with (Krate name (codes "1.0.0") kind) false parents

again : List ℕ → Option DepKind → GraphNode
again name kind = node_with (Krate name (codes "1.0.0") kind) true []

unfoldable on_cases : ⊤
unfolding crate plain edge graph named shown again
    graph_of headed_tree tree_of grow grow_each is_met inner_of same_node parents_in dependents_in dependents_of
    least_kind node_named node_in nodes_of in_order incoming_cmp incoming_in sources_at own_features own_leading
    of_parents sources_of_crate sources_of_feature leads_by_asking leads_in_vain leads_undeclared feature_leads declares
    declared resolves_to has_edge asks_for asks_in_vain asked leads_over is_called manifest_name holds_plain is_plain
    entries_of is_enabled dependents leads resolution agreeing suits has_name kind_number digits
on_cases = tt

-- ---- crates alone

-- `app` depends on `x`
app_x : Graph
app_x = graph (plain 0 (codes "app") ∷ plain 1 (codes "x") ∷ []) (edge 0 1 Normal ∷ [])

leads_to_x : graph_of app_x (Some 0) (named (codes "x"))
    ≡ Some (shown (codes "x") None (shown (codes "app") None [] ∷ []))
unfolding on_cases app_x
leads_to_x = refl

-- `b` depends on `a` too, for its tests: `b` is met twice, and its parents are shown once
ring : Graph
ring = graph (plain 0 (codes "a") ∷ plain 1 (codes "b") ∷ []) (edge 0 1 Normal ∷ edge 1 0 Dev ∷ [])

around : graph_of ring (Some 0) (named (codes "b"))
    ≡ Some (shown (codes "b") None (shown (codes "a") None (again (codes "b") (Some Dev) ∷ []) ∷ []))
unfolding on_cases ring
around = refl

-- `a` depends on `b` and `c`, which both depend on `d`: the nodes that lead to `a` are shown where it is met first
diamond : List ℕ → List ℕ → Graph
diamond b c = graph (plain 0 (codes "a") ∷ crate 1 (codes "b") b [] [] [] ∷ crate 2 (codes "c") c [] [] []
    ∷ plain 3 (codes "d") ∷ []) (edge 0 1 Normal ∷ edge 0 2 Build ∷ edge 1 3 Normal ∷ edge 2 3 Normal ∷ [])

two_ways : graph_of (diamond (codes "b") (codes "c")) (Some 0) (named (codes "d"))
    ≡ Some (shown (codes "d") None (shown (codes "b") None (shown (codes "a") None [] ∷ [])
    ∷ shown (codes "c") None (again (codes "a") (Some Build) ∷ []) ∷ []))
unfolding on_cases diamond
two_ways = refl

-- parents are in the order of their ids, also where their places are in the other order
by_ids : graph_of (diamond (codes "y") (codes "x")) (Some 0) (named (codes "d"))
    ≡ Some (shown (codes "d") None (shown (codes "c") None (shown (codes "a") (Some Build) [] ∷ [])
    ∷ shown (codes "b") None (again (codes "a") None ∷ []) ∷ []))
unfolding on_cases diamond
by_ids = refl

-- a normal and a dev edge: without features one parent, of the least kind; with them one for each, of which the
-- second is a repeat, though it has no parents at all
two_kinds : Graph
two_kinds = graph (plain 0 (codes "app") ∷ plain 1 (codes "x") ∷ []) (edge 0 1 Normal ∷ edge 0 1 Dev ∷ [])

least_alone : graph_of two_kinds (Some 0) (named (codes "x"))
    ≡ Some (shown (codes "x") None (shown (codes "app") None [] ∷ []))
unfolding on_cases two_kinds
least_alone = refl

one_each : graph_of two_kinds (Some 1) (named (codes "x"))
    ≡ Some (shown (codes "x") None (shown (codes "app") None [] ∷ again (codes "app") (Some Dev) ∷ []))
unfolding on_cases two_kinds
one_each = refl

-- a crate that is not in the graph has no tree
not_there : graph_of app_x (Some 0) (named (codes "y")) ≡ None
unfolding on_cases app_x
not_there = refl

-- ---- features

-- `app` depends on `x` with its `default`, which enables `std`
with_std : Graph
with_std = record (graph (crate 0 (codes "app") (codes "app") [] [] (record {
  name = codes "x";
  req = [];
  kind = Normal;
  rename = None;
  target = None;
  path = None;
  features = [];
  uses_default_features = true;
} ∷ []) ∷ crate 1 (codes "x") (codes "x") ((codes "default", codes "std" ∷ []) ∷ (codes "std", []) ∷ [])
    (codes "default" ∷ codes "std" ∷ []) [] ∷ []) (edge 0 1 Normal ∷ [])) {
      target_edges = record { parent = 0; child = 1; kind = Normal; target = None } ∷ [];
    }

std_of_x : base.GraphNode
std_of_x = record { kid = record { 0 = codes "x" }; feature = Some (codes "std") }

feature : List ℕ → List GraphNode → GraphNode
feature name parents = node_with (Feature (codes "x") name) false parents

-- a feature is put under its crate, and the nodes that lead to it above
under_its_crate : graph_of with_std None std_of_x
    ≡ Some (shown (codes "x") None (feature (codes "std")
    (feature (codes "default") (shown (codes "app") None [] ∷ []) ∷ []) ∷ []))
unfolding on_cases with_std std_of_x feature
under_its_crate = simp get-from_entries

-- above a feature at the greatest depth the dependents of its crate are shown
no_deeper : graph_of with_std (Some 0) std_of_x
    ≡ Some (shown (codes "x") None (feature (codes "std") (shown (codes "app") None [] ∷ []) ∷ []))
unfolding on_cases with_std std_of_x feature
no_deeper = refl

-- ---- texts

unfoldable on_texts : ⊤
unfolding shown again feature parents_text encode
on_texts = tt

a_with_parent : tree_text (node_with (Krate (codes "a") (codes "1.0.0") None) false
    (node_with (Krate (codes "b") (codes "0.1.0") None) false [] ∷ []))
    ≡ encode_utf8_all (codes "a v1.0.0\n└── b v0.1.0\n")
unfolding on_texts
a_with_parent = simp text-node

feature_text : tree_text (shown (codes "x") None (feature (codes "std")
    (feature (codes "default") (shown (codes "app") None [] ∷ []) ∷ []) ∷ []))
    ≡ encode_utf8_all (codes "x v1.0.0\n└── x feature 'std' \n    └── x feature 'default' \n        └── app v1.0.0\n")
unfolding on_texts
feature_text = simp text-node

branches : tree_text (shown (codes "d") None (shown (codes "b") (Some Dev) (shown (codes "a") None [] ∷ [])
    ∷ shown (codes "c") None (again (codes "a") (Some Build) ∷ []) ∷ []))
    ≡ encode_utf8_all (codes
    "d v1.0.0\n├── (dev) b v1.0.0\n│   └── a v1.0.0\n└── c v1.0.0\n    └── (build) a v1.0.0 (*)\n")
unfolding on_texts
branches = simp text-node
