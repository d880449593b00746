-- An index while globs are put into it, and the notes of a look-up in it.
use Rattle.std.specs.Prelude.{ℕ, ◌≡◌, ◌<◌, ◌≤◌, List, [], ◌∷◌, ◌++◌, length, ◌==◌, if◌then◌else◌, Option}
use Rattle.std.specs.Prelude.{Some, None, Contains, slice_get, slice_set, insert, ◌+◌, ◌^◌}
use Rattle.deny_base_lists.specs.Search as by_name
use Rattle.deny_globs.specs.declared.extensions.GlobExtension.{GlobExtension}
use Rattle.deny_globs.specs.declared.state.GlobState.{GlobState}
use Rattle.deny_globs.specs.Characters.{dot}
use Rattle.deny_globs.specs.Patterns.{Pattern}
use Rattle.deny_globs.specs.Sets.{AsksFor}
use Rattle.deny_globs.specs.declared.starts.Starts.{Starts}
use Rattle.deny_globs.specs.private.Walk.{Notes}
use Rattle.deny_globs.specs.Index.{name_of, IsNamedAt, IsIndexed, AreCompiled}

abbrev pub or_else : Option (List ℕ) → Option (List ℕ) → Option (List ℕ)
or_else (Some name) other = Some name
or_else None other = other

-- the characters after the last `.`
abbrev pub behind_last_dot : List ℕ → Option (List ℕ)
behind_last_dot [] = None
behind_last_dot (c ∷ cs) = or_else (behind_last_dot cs) (if c == dot then Some cs else None)

abbrev pub globs_of : GlobExtension → List ℕ
globs_of extension = extension.globs

-- the extensions before this index are below the name, and the others above it
abbrev pub IsGap : List GlobExtension → List ℕ → ℕ → Type 0
IsGap = by_name.IsGap name_of

-- The extension at this index has one more number.
pub record IsNumbered (old : List GlobExtension) (index number : ℕ) (new : List GlobExtension) : Type 0 where
  pub extension : GlobExtension
  pub at : slice_get old index ≡ Some extension
  pub whole : new ≡ slice_set old index (record { name = extension.name; globs = extension.globs ++ number ∷ [] })

-- the number was added to its extension, or with a new one
pub data IsExtended (old : List GlobExtension) (name : List ℕ) (number : ℕ) : List GlobExtension → Type 0 where
  numbered : {new : List GlobExtension} (index : ℕ) → IsNamedAt old name index → IsNumbered old index number new
      → IsExtended old name number new
  inserted : {new : List GlobExtension} (index : ℕ) → IsGap old name index
      → new ≡ insert old index (record { name = name; globs = number ∷ [] }) → IsExtended old name number new

-- a simple glob fits by its extension
abbrev pub FitsSimply : List Pattern → List ℕ → ℕ → Type 0
FitsSimply globs path i = (name : List ℕ) × (behind_last_dot path ≡ Some name) × AsksFor globs i name

-- the notes gain the simple globs that ask for the name, which are those that fit by the extension of the path
abbrev pub NotesNamed : List GlobExtension → List ℕ → List ℕ → List ℕ → Type 0
NotesNamed extensions name old new = (globs : List Pattern) → IsIndexed globs extensions
    → Notes (λ i. AsksFor globs i name) old new

abbrev pub NotesSimple : List GlobExtension → List ℕ → List ℕ → List ℕ → Type 0
NotesSimple extensions path old new = (globs : List Pattern) → IsIndexed globs extensions
    → Notes (FitsSimply globs path) old new

-- the steps of a look-up: a comparison for each halving of the extensions, and one for each glob
abbrev pub BoundsNamed : List GlobExtension → List ℕ → ℕ → ℕ → Type 0
BoundsNamed extensions name old new = (globs : List Pattern) (hits : List ℕ) (d : ℕ) → IsIndexed globs extensions →
    ((i : ℕ) → AsksFor globs i name → Contains hits i) → length extensions < 2 ^ d → new ≤ old + d + length hits

abbrev pub BoundsSimple : List GlobExtension → List ℕ → ℕ → ℕ → Type 0
BoundsSimple extensions path old new = (globs : List Pattern) (hits : List ℕ) (d : ℕ) → IsIndexed globs extensions →
    ((i : ℕ) → FitsSimply globs path i → Contains hits i) → length extensions < 2 ^ d → new ≤ old + d + length hits

-- The index with one more glob.
pub record Indexes (glob : Pattern) (number : ℕ) (extensions : List GlobExtension) (states : List GlobState)
    (starts : Starts)
    (extensions' : List GlobExtension) (states' : List GlobState) (starts' : Starts) : Type 0 where
  pub more : (globs : List Pattern) → length globs ≡ number → IsIndexed globs extensions
      → AreCompiled globs states starts →
      IsIndexed (globs ++ glob ∷ []) extensions' × AreCompiled (globs ++ glob ∷ []) states' starts'
