-- Starts while globs are added.
use Rattle.std.specs.Prelude.{ℕ, ◌≡◌, ◌⊎◌, ◌↔◌, List}
use Rattle.deny_globs.specs.declared.starts.Starts.{Starts}
use Rattle.deny_globs.specs.declared.token.Token.{Token}
use Rattle.deny_globs.specs.Fits.{Fits}
use Rattle.deny_globs.specs.Starts.{AreStarts, Starting}

-- No state was added.
pub record KeepsStarts (old new : Starts) : Type 0 where
  pub are : AreStarts new
  pub same : (path : List ℕ) (number : ℕ) → Starting new path number ↔ Starting old path number

-- The start of a glob with these tokens was added, where each path that the glob fits finds it.
pub record AddsStart (tokens : List Token) (own : ℕ) (old new : Starts) : Type 0 where
  pub are : AreStarts new
  pub kept : (path : List ℕ) (number : ℕ) → Starting old path number → Starting new path number
  pub added : (path : List ℕ) → Fits tokens path → Starting new path own
  pub only : (path : List ℕ) (number : ℕ) → Starting new path number → Starting old path number ⊎ (number ≡ own)
