-- The globs of patterns, and the patterns whose globs match a path.
use Rattle.std.specs.Prelude.{◌≡◌, ◌++◌, ℕ, List, [], ◌∷◌, Option, None, Some, codes, filter_map, map, slice_get}
use Rattle.std.specs.Coded.{Coded-set, coded_list, coded_ℕ}
use Rattle.std.specs.Str.{chars}
use Rattle.deny_globs.specs.Faults.{IsBadAt}
use Rattle.deny_globs.specs.Patterns.{Pattern, characters_of, tokens_of}
use Rattle.deny_globs.specs.Tree.{IsGlob}
use Rattle.deny_globs.specs.declared.token.Token.{Token}
use Rattle.deny_cfg_build.specs.declared.glob_set.ValidGlobSet.{ValidGlobSet}
use Rattle.deny_cfg_build.specs.declared.pattern.GlobPattern.{GlobPattern}
use Rattle.deny_cfg_build.specs.declared.pattern.GlobPattern.TheVariants.{Builtin, User}

-- the glob of a pattern of `allow-globs`: its own text
abbrev pub own_text : GlobPattern → List ℕ
own_text (Builtin glob) = glob.0.value
own_text (User glob) = glob.value

-- the glob of a pattern of `script-extensions`: the built-in glob, or `*.` and the extension
abbrev pub extension_text : GlobPattern → List ℕ
extension_text (Builtin glob) = glob.0.value
extension_text (User extension) = codes "*." ++ extension.value

-- a text writes this glob, and no other
pub record IsGlobOf (text : List ℕ) (glob : Pattern) : Type 0 where
  pub characters : characters_of glob ≡ chars text
  pub tokens : IsGlob (chars text) (tokens_of glob)
  pub only : (other : List Token) → IsGlob (chars text) other → other ≡ tokens_of glob

-- Globs and their patterns are read from a list of patterns, in order: each pattern whose text is a glob is there with
-- its glob, and each other pattern is left out.
pub data AreGlobsOf (text_of : GlobPattern → List ℕ) : List GlobPattern → List GlobPattern → List Pattern → Type 0 where
  none : AreGlobsOf text_of [] [] []
  one_more : {wanted patterns : List GlobPattern} {globs : List Pattern} (pattern : GlobPattern) (glob : Pattern)
      → IsGlobOf (text_of pattern) glob → AreGlobsOf text_of wanted patterns globs
      → AreGlobsOf text_of (pattern ∷ wanted) (pattern ∷ patterns) (glob ∷ globs)
  left_out : {wanted patterns : List GlobPattern} {globs : List Pattern} (pattern : GlobPattern) (byte : ℕ)
      → IsBadAt (text_of pattern) byte → AreGlobsOf text_of wanted patterns globs
      → AreGlobsOf text_of (pattern ∷ wanted) patterns globs

-- a glob set is read from these patterns
abbrev pub IsSetOf : (GlobPattern → List ℕ) → List GlobPattern → ValidGlobSet → Type 0
IsSetOf text_of wanted valid = AreGlobsOf text_of wanted valid.patterns valid.set

-- the characters of the globs of a set are those of the texts of its patterns
abbrev pub AreWritten : (GlobPattern → List ℕ) → ValidGlobSet → Type 0
AreWritten text_of valid = map characters_of valid.set ≡ map (λ pattern. chars (text_of pattern)) valid.patterns

pub AreWritten-prop : (text_of : GlobPattern → List ℕ) (valid : ValidGlobSet) → IsProp (AreWritten text_of valid)
AreWritten-prop text_of valid = Coded-set (coded_list (coded_list coded_ℕ)) (map characters_of valid.set)
    (map (λ pattern. chars (text_of pattern)) valid.patterns)

-- both are left out, or both are there and related
abbrev pub OfBoth : {A B : Type 0} → (A → B → Type 0) → Option A → Option B → Type 0
OfBoth Is None None = Unit {0}
OfBoth Is None (Some y) = ⊥
OfBoth Is (Some x) None = ⊥
OfBoth Is (Some x) (Some y) = Is x y

-- the patterns at these indices; none where there are no indices
abbrev pub patterns_at : List GlobPattern → List ℕ → Option (List GlobPattern)
patterns_at patterns [] = None
patterns_at patterns (number ∷ numbers) = Some (filter_map (slice_get patterns) (number ∷ numbers))
