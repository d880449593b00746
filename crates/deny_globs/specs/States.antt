-- A compiled glob: its states, and the way from one of them to the end of the glob.
use Rattle.std.specs.Prelude.{ℕ, ◌≡◌, ◌<◌, ◌⊎◌, List, [], ◌∷◌, Some, IsTrue, slice_get, nat_eq}
use Rattle.deny_globs.specs.declared.state.GlobState.{GlobState}
use Rattle.deny_globs.specs.declared.state.GlobState.TheVariants.{End, Character, AnyCharacter, OneOf, AnyText, Either}
use Rattle.deny_globs.specs.declared.state.GlobState.TheVariants.{Never}
use Rattle.deny_globs.specs.Class.{class_takes}

-- the state with that number follows this state without a character
abbrev pub IsAtOnce : GlobState → ℕ → Type 0
IsAtOnce (End glob) number = ⊥
IsAtOnce (Character d next) number = ⊥
IsAtOnce (AnyCharacter next) number = ⊥
IsAtOnce (OneOf class next) number = ⊥
IsAtOnce (AnyText next) number = number ≡ next
IsAtOnce (Either first second) number = (number ≡ first) ⊎ (number ≡ second)
IsAtOnce Never number = ⊥

-- the character leads from this state, which has its own number, to the state with that number
abbrev pub IsBehind : ℕ → GlobState → ℕ → ℕ → Type 0
IsBehind own (End glob) c number = ⊥
IsBehind own (Character d next) c number = IsTrue (nat_eq d c) × (number ≡ next)
IsBehind own (AnyCharacter next) c number = number ≡ next
IsBehind own (OneOf class next) c number = IsTrue (class_takes class c) × (number ≡ next)
IsBehind own (AnyText next) c number = number ≡ own
IsBehind own (Either first second) c number = ⊥
IsBehind own Never c number = ⊥

-- the characters lead from the state with this number to the end of the glob with that number
pub data Leads (states : List GlobState) (glob : ℕ) : ℕ → List ℕ → Type 0 where
  ends : {number : ℕ} → slice_get states number ≡ Some (End glob) → Leads states glob number []
  over : {number next c : ℕ} {cs : List ℕ} (state : GlobState) → slice_get states number ≡ Some state →
      IsBehind number state c next → Leads states glob next cs → Leads states glob number (c ∷ cs)
  aside : {number next : ℕ} {cs : List ℕ} (state : GlobState) → slice_get states number ≡ Some state →
      IsAtOnce state next → Leads states glob next cs → Leads states glob number cs

-- the states that follow have numbers below this one
abbrev pub PointsBelow : ℕ → GlobState → Type 0
PointsBelow n (End glob) = Unit {0}
PointsBelow n (Character d next) = next < n
PointsBelow n (AnyCharacter next) = next < n
PointsBelow n (OneOf class next) = next < n
PointsBelow n (AnyText next) = next < n
PointsBelow n (Either first second) = (first < n) × (second < n)
PointsBelow n Never = Unit {0}
