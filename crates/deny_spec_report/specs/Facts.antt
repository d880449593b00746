-- Facts: the tests that a report rests on besides its circumstances, and what makes them true.
use Rattle.std.specs.Prelude.{◌↔◌, Bool, Contains, IsTrue}
use Rattle.deny_spec.specs.Facts as chains
use Rattle.deny_spec.specs.Graph.{Crate, Graph}
use Rattle.deny_krates_reach.specs.Reached.{IsReached}
use Rattle.deny_spec_report.specs.Circumstances.{Circumstances}

pub record Facts : Type 0 where
  pub chains : chains.Facts
  -- which crates are reached from one that is executed at build time
  pub reached : Crate → Bool

abbrev pub TestsReached : Graph → (Crate → Bool) → Type 0
TestsReached g reached = (c : Crate) → Contains g.crates c → IsTrue (reached c) ↔ IsReached g c

pub record AreFacts (c : Circumstances) (facts : Facts) : Type 0 where
  pub chains : chains.AreFacts c.policy c.graph facts.chains
  pub reached : TestsReached c.graph facts.reached
