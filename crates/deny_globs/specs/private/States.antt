-- The glob that ends at a state, and the states that lead on.
use Rattle.std.specs.Prelude.{ℕ, List, Option, Some, None, Contains}
use Rattle.deny_globs.specs.declared.state.GlobState.{GlobState}
use Rattle.deny_globs.specs.declared.state.GlobState.TheVariants.{End, Character, AnyCharacter, OneOf, AnyText, Either}
use Rattle.deny_globs.specs.declared.state.GlobState.TheVariants.{Never}
use Rattle.deny_globs.specs.States.{Leads}

-- the glob that ends at the state
abbrev pub end_of : GlobState → Option ℕ
end_of (End glob) = Some glob
end_of (Character d next) = None
end_of (AnyCharacter next) = None
end_of (OneOf class next) = None
end_of (AnyText next) = None
end_of (Either first second) = None
end_of Never = None

-- The characters lead from one of the marked states to the end of the glob.
pub record SomeLeads (states : List GlobState) (marked : List ℕ) (glob : ℕ) (cs : List ℕ) : Type 0 where
  pub number : ℕ
  pub is_marked : Contains marked number
  pub leads : Leads states glob number cs
