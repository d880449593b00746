-- A test of whether two target keys agree. Definitions take it as a parameter, so that they compute.
use Rattle.std.specs.Prelude.{ℕ, ◌↔◌, Bool, IsTrue, List}
use Rattle.deny_spans_cfg_expr.specs.Grammar.{Agree}

-- the test is true of exactly the target keys that agree
pub record ReportsAgreement (agrees : List ℕ → List ℕ → Bool) : Type 0 where
  pub at : (one other : List ℕ) → IsTrue (agrees one other) ↔ Agree one other
