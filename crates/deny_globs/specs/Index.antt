-- The simple globs by their extensions, and the others as states.
use Rattle.std.specs.Prelude.{ℕ, ◌≡◌, ◌<◌, ◌≤◌, ◌↔◌, List, length}
use Rattle.std.specs.Prelude.{Some, Contains, slice_get}
use Rattle.std.specs.Ordering.{nat_cmp}
use Rattle.std.specs.List.Sorted.{IsStrictlySortedBy}
use Rattle.deny_base_lists.specs.Search as by_name
use Rattle.deny_globs.specs.declared.extensions.GlobExtension.{GlobExtension}
use Rattle.deny_globs.specs.declared.state.GlobState.{GlobState}
use Rattle.deny_globs.specs.Compiled.{IsProgram}
use Rattle.deny_globs.specs.Patterns.{Pattern, characters_of, tokens_of}
use Rattle.deny_globs.specs.Sets.{AsksFor, FitsOther, weight_of}
use Rattle.deny_globs.specs.declared.starts.Starts.{Starts}
use Rattle.deny_globs.specs.Starts.{AreStarts, Starting, SomeStarts}
use Rattle.deny_globs.specs.Tree.{IsGlob}

abbrev pub name_of : GlobExtension → List ℕ
name_of extension = extension.name

-- the extensions ascend, each once
abbrev pub Ascend : List GlobExtension → Type 0
Ascend = by_name.Ascend name_of

-- the extension at this index has the name
abbrev pub IsNamedAt : List GlobExtension → List ℕ → ℕ → Type 0
IsNamedAt = by_name.IsNamedAt name_of

-- The extensions are those of the simple globs, each with the numbers of the globs that ask for it.
pub record IsIndexed (globs : List Pattern) (extensions : List GlobExtension) : Type 0 where
  pub ascend : Ascend extensions
  pub numbers : (index : ℕ) (extension : GlobExtension) → slice_get extensions index ≡ Some extension → (i : ℕ)
      → Contains extension.globs i ↔ AsksFor globs i extension.name
  pub once : (index : ℕ) (extension : GlobExtension) → slice_get extensions index ≡ Some extension
      → IsStrictlySortedBy nat_cmp extension.globs
  pub some : (index : ℕ) (extension : GlobExtension) → slice_get extensions index ≡ Some extension
      → (i : ℕ) × Contains extension.globs i
  pub all : (i : ℕ) (name : List ℕ) → AsksFor globs i name → (index : ℕ) × IsNamedAt extensions name index

-- The states stand for the globs that are not simple.
pub record AreCompiled (globs : List Pattern) (states : List GlobState) (starts : Starts) : Type 0 where
  pub globs_are : (i : ℕ) (glob : Pattern) → slice_get globs i ≡ Some glob
      → IsGlob (characters_of glob) (tokens_of glob)
  pub program : IsProgram states
  pub are : AreStarts starts
  pub within : (path : List ℕ) (number : ℕ) → Starting starts path number → number < length states
  pub leads : (i : ℕ) (path : List ℕ) → SomeStarts states starts i path ↔ FitsOther globs i path
  pub size : length states ≤ weight_of globs
