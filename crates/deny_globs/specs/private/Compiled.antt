-- Programs while patterns are compiled: the states for tokens, and those that a pattern adds.
use Rattle.std.specs.Prelude.{ℕ, ◌≡◌, ◌+◌, ◌<◌, ◌≤◌, ◌⊎◌, ◌↔◌, List, [], ◌∷◌, ◌++◌, length}
use Rattle.deny_globs.specs.declared.token.Token.{Token}
use Rattle.deny_globs.specs.declared.state.GlobState.{GlobState}
use Rattle.deny_globs.specs.declared.state.GlobState.TheVariants.{End}
use Rattle.deny_globs.specs.Fits.{Fits}
use Rattle.deny_globs.specs.Patterns.{Pattern, characters_of, tokens_of}
use Rattle.deny_globs.specs.declared.starts.Starts.{Starts}
use Rattle.deny_globs.specs.private.Starts.{AddsStart}
use Rattle.deny_globs.specs.Tree.{IsGlob}
use Rattle.deny_globs.specs.States.{Leads}
use Rattle.deny_globs.specs.private.Sizes.{states_of, states_of_all}
use Rattle.deny_globs.specs.Compiled.{IsProgram}

-- States were appended to the old ones.
pub record Grows (old new : List GlobState) : Type 0 where
  pub more : List GlobState
  pub whole : new ≡ old ++ more

pub record IsPushed (state : GlobState) (old new : List GlobState) (number : ℕ) : Type 0 where
  pub is_last : number ≡ length old
  pub whole : new ≡ old ++ state ∷ []

-- exactly texts of these tokens lead from the state to the end of the glob
abbrev pub Represents : List GlobState → ℕ → ℕ → List Token → Type 0
Represents states glob number tokens = (cs : List ℕ) → Leads states glob number cs ↔ Fits tokens cs

-- one of the alternatives fits, with the tokens after it
pub data OneFits (rest : List Token) : List (List Token) → List ℕ → Type 0 where
  the_first : {tokens : List Token} {others : List (List Token)} {cs : List ℕ} → Fits (tokens ++ rest) cs
      → OneFits rest (tokens ∷ others) cs
  another : {tokens : List Token} {others : List (List Token)} {cs : List ℕ} → OneFits rest others cs
      → OneFits rest (tokens ∷ others) cs

-- The states have grown to a program in which the start stands for the tokens before the next state.
pub record IsBuilt (tokens : List Token) (next : ℕ) (old new : List GlobState) (start : ℕ) : Type 0 where
  pub grows : Grows old new
  pub program : IsProgram new
  pub in_range : start < length new
  pub holds : (glob : ℕ) (rest : List Token) → Represents old glob next rest
      → Represents new glob start (tokens ++ rest)
  pub size : length new ≤ length old + states_of tokens

-- The states have grown to a program in which the start stands for one of the alternatives before the next state.
pub record IsBuiltOver (alternatives : List (List Token)) (next : ℕ) (old new : List GlobState)
    (start : ℕ) : Type 0 where
  pub grows : Grows old new
  pub program : IsProgram new
  pub in_range : start < length new
  pub holds : (glob : ℕ) (rest : List Token) → Represents old glob next rest → (cs : List ℕ)
      → Leads new glob start cs ↔ OneFits rest alternatives cs
  pub size : length new ≤ length old + states_of_all alternatives

-- The states have grown to a program in which the start stands for the tokens before the next state, or for the other
-- state.
pub record IsBuiltBeside (tokens : List Token) (next others : ℕ) (old new : List GlobState) (start : ℕ) : Type 0 where
  pub grows : Grows old new
  pub program : IsProgram new
  pub in_range : start < length new
  pub holds : (glob : ℕ) (rest : List Token) → Represents old glob next rest →
      (cs : List ℕ) → Leads new glob start cs ↔ (Leads old glob others cs ⊎ Fits (tokens ++ rest) cs)
  pub size : length new ≤ length old + (states_of tokens + 1)

-- States were added that stand for the glob, with the state at which it starts.
pub record AddsStates (glob : Pattern) (number : ℕ) (old : List GlobState) (starts : Starts) (new : List GlobState)
    (starts' : Starts) : Type 0 where
  pub is_glob : IsGlob (characters_of glob) (tokens_of glob)
  pub mid : List GlobState
  pub end : ℕ
  pub pushed : IsPushed (End number) old mid end
  pub start : ℕ
  pub built : IsBuilt (tokens_of glob) end mid new start
  pub started : AddsStart (tokens_of glob) start starts starts'
