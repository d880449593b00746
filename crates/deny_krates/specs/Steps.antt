-- Steps along the edges of a graph, or against them.
use Rattle.std.specs.Prelude.{◌≡◌, ℕ, Contains}
use Rattle.deny_base.specs.declared.edge.Edge.{Edge}
use Rattle.deny_spec.specs.Graph.{Graph}

-- an edge leads from one place to another
abbrev pub HasEdge : Graph → ℕ → ℕ → Type 0
HasEdge g parent child = (e : Edge) × Contains g.edges e × (e.parent ≡ parent) × (e.child ≡ child)

-- an edge leads to `child` from `parent`
abbrev pub HasEdgeFrom : Graph → ℕ → ℕ → Type 0
HasEdgeFrom g child parent = HasEdge g parent child
