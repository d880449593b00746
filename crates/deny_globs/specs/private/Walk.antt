-- The promises of the walk over a path.
use Rattle.std.specs.Prelude.{ℕ, ◌≡◌, ◌⊎◌, ◌↔◌, List, [], ◌∷◌, Bool, false, Some, Contains, slice_get}
use Rattle.deny_globs.specs.declared.state.GlobState.{GlobState}
use Rattle.deny_globs.specs.declared.state.GlobState.TheVariants.{End}
use Rattle.deny_globs.specs.private.Marked.{Extends}
use Rattle.deny_globs.specs.States.{IsAtOnce, IsBehind, Leads}
use Rattle.deny_globs.specs.private.States.{SomeLeads}

-- whether the first of the characters passes the test
abbrev pub first_passes : (ℕ → Bool) → List ℕ → Bool
first_passes test [] = false
first_passes test (c ∷ cs) = test c

-- A state was visited: the states that follow it are marked, and no others.
pub record StepsOver (states : List GlobState) (rest : List ℕ) (number : ℕ)
    (now later next after : List ℕ) : Type 0 where
  pub state : GlobState
  pub at : slice_get states number ≡ Some state
  pub now_extends : Extends now later
  pub next_extends : Extends next after
  pub at_once : (other glob : ℕ) → IsAtOnce state other → Leads states glob other rest → Contains later other
  pub behind : (other glob c : ℕ) (cs : List ℕ) → rest ≡ c ∷ cs → IsBehind number state c other
      → Leads states glob other cs → Contains after other
  pub now_only : (other : ℕ) → Contains later other → Contains now other ⊎ IsAtOnce state other
  pub next_only : (other : ℕ) → Contains after other →
      Contains next other ⊎ ((c : ℕ) × (cs : List ℕ) × (rest ≡ c ∷ cs) × IsBehind number state c other)

-- The end of the glob is marked.
pub record HasEnd (states : List GlobState) (marked : List ℕ) (glob : ℕ) : Type 0 where
  pub number : ℕ
  pub is_marked : Contains marked number
  pub is_end : slice_get states number ≡ Some (End glob)

-- The states marked after the next character lead on as those before it did, and at the end of the path exactly the
-- ends are marked that they led to.
pub record Passes (states : List GlobState) (rest before now next : List ℕ) : Type 0 where
  pub on : (c : ℕ) (cs : List ℕ) → rest ≡ c ∷ cs → (glob : ℕ)
      → SomeLeads states before glob rest ↔ SomeLeads states next glob cs
  pub at_end : rest ≡ [] → (glob : ℕ) → SomeLeads states before glob rest ↔ HasEnd states now glob

-- The notes gain exactly the numbers with the property.
pub record Notes (P : ℕ → Type 0) (old new : List ℕ) : Type 0 where
  pub each : (glob : ℕ) → Contains new glob ↔ (Contains old glob ⊎ P glob)
