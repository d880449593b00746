-- The globs of a set that fit a path.
use Rattle.std.specs.Prelude.{ℕ, ◌↔◌, List}
use Rattle.std.specs.Prelude.{Contains}
use Rattle.std.specs.List.Sorted.{IsStrictlyIncreasing}
use Rattle.deny_globs.specs.Patterns.{Pattern}
use Rattle.deny_globs.specs.Sets.{FitsAt}

-- The numbers are ascending, and those of exactly the globs that fit.
pub record AreFitting (globs : List Pattern) (path indices : List ℕ) : Type 0 where
  pub ascending : IsStrictlyIncreasing indices
  pub exact : (i : ℕ) → Contains indices i ↔ FitsAt globs i path
