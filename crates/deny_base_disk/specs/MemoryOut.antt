-- An output in memory, as contracts see it.
use Rattle.std.specs.Prelude.{ℕ, List}

pub record BoundedOutput : Type 0 where
  -- the bytes written so far
  pub bytes : List ℕ
  -- how many bytes it still takes
  pub room : ℕ
  -- the calls that failed
  pub faults : ℕ
