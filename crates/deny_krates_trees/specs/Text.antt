-- A tree as text: a line for each node, with branches that join nodes to those above them.
use Rattle.std.specs.Prelude.{ℕ, ◌++◌, Bool, true, false, List, [], ◌∷◌, Option, None, Some, codes, encode_utf8_all}
use Rattle.deny_base.specs.declared.edge.DepKind.{DepKind}
use Rattle.deny_base.specs.declared.edge.DepKind.TheVariants.{Normal, Dev, Build}
use Rattle.deny_krates_trees.specs.declared.node.GraphNode.{GraphNode, GraphNode-F, fold-GraphNode}
use Rattle.deny_krates_trees.specs.declared.node.NodeInner.{NodeInner}
use Rattle.deny_krates_trees.specs.declared.node.NodeInner.TheVariants.{Krate, Feature}

abbrev pub kind_text : Option DepKind → List ℕ
kind_text None = []
kind_text (Some Normal) = []
kind_text (Some Dev) = codes "(dev) "
kind_text (Some Build) = codes "(build) "

abbrev pub inner_text : NodeInner → List ℕ
inner_text (Krate name version kind) = kind_text kind ++ (name ++ (codes " v" ++ version))
inner_text (Feature crate_name name) = crate_name ++ (codes " feature '" ++ (name ++ codes "' "))

abbrev pub repeat_text : Bool → List ℕ
repeat_text true = codes " (*)"
repeat_text false = []

abbrev pub line_text : NodeInner → Bool → List ℕ
line_text inner repeat = inner_text inner ++ (repeat_text repeat ++ codes "\n")

-- the branch to a parent, and the trunk past it to the lines above it, which goes on where other parents follow
abbrev pub branch : Bool → List ℕ
branch true = encode_utf8_all (codes "└── ")
branch false = encode_utf8_all (codes "├── ")

abbrev pub trunk : Bool → List ℕ
trunk true = codes "    "
trunk false = encode_utf8_all (codes "│   ")

abbrev pub is_last : {T : Type 0} → List T → Bool
is_last [] = true
is_last (other ∷ others) = false

-- the texts of parents under each other, each a function of the text before its lines
unfoldable pub parents_text : List ℕ → List (List ℕ → List ℕ) → List ℕ
parents_text before [] = []
parents_text before (parent ∷ others) =
    (before ++ (branch (is_last others) ++ parent (before ++ trunk (is_last others)))) ++ parents_text before others

abbrev pub node_text : GraphNode-F (List ℕ → List ℕ) → List ℕ → List ℕ
node_text node before = line_text node.inner node.repeat ++ parents_text before node.parents

-- the text of a tree, given the text before the lines above its root
abbrev pub text_after : GraphNode → List ℕ → List ℕ
text_after = fold-GraphNode (List ℕ → List ℕ) node_text

abbrev pub tree_text : GraphNode → List ℕ
tree_text tree = text_after tree []
