-- Facts: what the rules ask of chains of edges, as tests, and what makes these tests true of a policy and a graph.
use Rattle.std.specs.Prelude.{Bool, IsTrue, Contains, ◌↔◌}
use Rattle.deny_spec.specs.Counting.{Counts}
use Rattle.deny_spec.specs.Graph.{Crate, Graph}
use Rattle.deny_spec.specs.Policy.{Policy, Root}
use Rattle.deny_spec.specs.Roots.{IsInTree}

pub record Facts : Type 0 where
  -- which crates count
  pub counts : Crate → Bool
  -- which crates lie in an entry's tree
  pub in_tree : Root → Crate → Bool

pub record AreFacts (p : Policy) (g : Graph) (facts : Facts) : Type 0 where
  pub counts : (c : Crate) → Contains g.crates c → IsTrue (facts.counts c) ↔ Counts p.include_dev g c
  pub in_tree : (t : Root) → Contains p.skip_tree t → (c : Crate) → Contains g.crates c
      → IsTrue (facts.in_tree t c) ↔ IsInTree g t c
