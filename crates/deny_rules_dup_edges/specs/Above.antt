-- The crates that lead to others.
use Rattle.std.specs.Prelude.{ℕ, length}
use Rattle.deny_spec.specs.Counting.{Chain}
use Rattle.deny_spec.specs.Graph.{Graph}

-- a chain of any length leads from one place to another
pub record HasChain (g : Graph) (from to : ℕ) : Type 0 where
  pub length : ℕ
  pub chain : Chain g.edges from to length
