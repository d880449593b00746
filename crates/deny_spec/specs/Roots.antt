-- Skipped trees: how far below the crates of an entry they reach.
use Rattle.std.specs.Prelude.{◌<◌, ℕ, max, Option, None, Some, IsTrue, Contains, ⊤}
use Rattle.deny_spec.specs.Counting.{Chain}
use Rattle.deny_spec.specs.Graph.{Crate, Graph}
use Rattle.deny_spec.specs.Match.{matches}
use Rattle.deny_spec.specs.Policy.{Root}

-- a crate so many edges away is near enough; a depth of 0 counts as 1, and without a depth every crate is near
abbrev pub IsNear : Option ℕ → ℕ → Type 0
IsNear None n = ⊤
IsNear (Some depth) n = n < max depth 1

-- a chain of edges of all kinds that is short enough leads to the crate from one that matches
pub record IsInTree (g : Graph) (t : Root) (c : Crate) : Type 0 where
  pub root : Crate
  pub known : Contains g.crates root
  pub matched : IsTrue (matches t.spec root)
  pub edges : ℕ
  pub near : IsNear t.depth edges
  pub chain : Chain g.edges root.place c.place edges
