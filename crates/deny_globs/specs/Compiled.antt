-- Programs of states.
use Rattle.std.specs.Prelude.{ℕ, ◌≡◌, List, Some, slice_get}
use Rattle.deny_globs.specs.declared.state.GlobState.{GlobState}
use Rattle.deny_globs.specs.States.{PointsBelow}

-- Each state leads only to states with lower numbers, or to itself.
pub record IsProgram (states : List GlobState) : Type 0 where
  pub points : (number : ℕ) (state : GlobState) → slice_get states number ≡ Some state → PointsBelow number state
