-- Edges of a graph, by the crates that they lead to.
use Rattle.std.specs.Prelude.{◌≡◌, ℕ, IsTrue, List, Option, Some, slice_get, Contains}
use Rattle.deny_base.specs.declared.edge.Edge.{Edge}
use Rattle.deny_spec.specs.Graph.{Graph}
use Rattle.deny_base_lists.specs.Walk.{has_distance}

-- the edge is a given one, and the graph has it
pub record IsGivenEdge (g : Graph) (edge : Edge) (e : Edge) : Type 0 where
  pub holds : Contains g.edges e
  pub is : e ≡ edge

-- the edge leads from one crate to another
pub record IsBetween (g : Graph) (parent child : ℕ) (e : Edge) : Type 0 where
  pub holds : Contains g.edges e
  pub from : e.parent ≡ parent
  pub to : e.child ≡ child

-- the edge leads to a crate
pub record IsTo (g : Graph) (child : ℕ) (e : Edge) : Type 0 where
  pub holds : Contains g.edges e
  pub to : e.child ≡ child

-- the edge leads to one of these crates
pub record IsToOne (g : Graph) (children : List ℕ) (e : Edge) : Type 0 where
  pub holds : Contains g.edges e
  pub to : Contains children e.child

-- the edge of this number leads to a crate that has a distance
pub record IsReachedNumber (distances : List (Option ℕ)) (edges : List Edge) (number : ℕ) : Type 0 where
  pub edge : Edge
  pub numbered : slice_get edges number ≡ Some edge
  pub reached : IsTrue (has_distance distances edge.child)
