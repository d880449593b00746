-- Tables as the rules take them: lists of entries, and sets of globs.
use Rattle.std.proofs.Common.{◌≡◌, ◌++◌, ℕ, List, [], ◌∷◌, Option, None, Some, length, map, refl, sym, subst, ap}
use Rattle.std.specs.Prelude.{IfSome, suc}
use Rattle.std.specs.Str.{chars}
use Rattle.std.specs.List.{AllZip}
use Rattle.deny_base_lists.proofs.Members.{zip_push}
use Rattle.deny_globs.proofs.Once.{no_fault}
use Rattle.deny_globs.specs.Faults.{IsBadAt}
use Rattle.deny_globs.specs.Patterns.{Pattern, characters_of, tokens_of}
use Rattle.deny_cfg_build.specs.Globs.{AreGlobsOf, AreWritten, IsGlobOf, IsSetOf, OfBoth, own_text}
use Rattle.deny_cfg_build.specs.Globs.AreGlobsOf.{none, one_more, left_out}
use Rattle.deny_cfg_build.specs.declared.glob_set.ValidGlobSet.{ValidGlobSet}
use Rattle.deny_cfg_build.specs.declared.pattern.GlobPattern.{GlobPattern}

-- one more pair of related items behind the others
pub zip_next : {A B : Type 0} (R : A → B → Type 0) (xs : List A) (ys : List B) (x : A) (y : B) (new : List B)
    → AllZip R xs ys → R x y → new ≡ ys ++ y ∷ [] → AllZip R (xs ++ x ∷ []) new
zip_next R xs ys x y new all is put = subst (AllZip R (xs ++ x ∷ [])) (sym put) (zip_push R xs ys x y all is)

-- a set has as many globs as patterns
pub as_many : (text_of : GlobPattern → List ℕ) (wanted patterns : List GlobPattern) (globs : List Pattern)
    → AreGlobsOf text_of wanted patterns globs → length globs ≡ length patterns
as_many text_of _ _ _ none = refl
as_many text_of _ _ _ (one_more {wanted} {patterns} {globs} pattern glob is all) =
    ap (λ n. suc n) (as_many text_of wanted patterns globs all)
as_many text_of _ _ _ (left_out {wanted} {patterns} {globs} pattern byte bad all) =
    as_many text_of wanted patterns globs all

-- the characters of the globs are those of the texts that they are read from
pub characters_read : (text_of : GlobPattern → List ℕ) (wanted patterns : List GlobPattern) (globs : List Pattern)
    → AreGlobsOf text_of wanted patterns globs
    → map characters_of globs ≡ map (λ pattern. chars (text_of pattern)) patterns
characters_read text_of _ _ _ none = refl
characters_read text_of _ _ _ (one_more {wanted} {patterns} {globs} pattern glob is all) =
    λ i. is.characters i ∷ characters_read text_of wanted patterns globs all i
characters_read text_of _ _ _ (left_out {wanted} {patterns} {globs} pattern byte bad all) =
    characters_read text_of wanted patterns globs all

-- the globs of an entry are written as its patterns
pub own_written : {X : Type 0} (wanted_of : X → List GlobPattern) (written : Option X) (valid : Option ValidGlobSet)
    → OfBoth (λ globs. IsSetOf own_text (wanted_of globs)) written valid → IfSome valid (AreWritten own_text)
own_written wanted_of written None is = tt
own_written wanted_of None (Some set) is = absurd is
own_written wanted_of (Some globs) (Some set) is =
    characters_read own_text (wanted_of globs) set.patterns set.set is

-- a text that is a glob has no fault
good_glob : {text : List ℕ} (glob : Pattern) (byte : ℕ) → IsGlobOf text glob → IsBadAt text byte → ⊥
good_glob glob byte is bad = no_fault {i = bad.character} (tokens_of glob) bad.fault is.tokens

-- the patterns of a set are determined by those that it is read from
pub one_patterns : {text_of : GlobPattern → List ℕ} (wanted ps qs : List GlobPattern) (gs hs : List Pattern)
    → AreGlobsOf text_of wanted ps gs → AreGlobsOf text_of wanted qs hs → ps ≡ qs
one_patterns _ _ _ _ _ none none = refl
one_patterns _ _ _ _ _ (one_more {wanted = ws} {patterns = ps} {globs = gs} pattern glob is all)
    (one_more {patterns = qs} {globs = hs} same other too rest) =
    ap (λ xs. pattern ∷ xs) (one_patterns ws ps qs gs hs all rest)
one_patterns _ _ _ _ _ (one_more pattern glob is all) (left_out same byte bad rest) =
    absurd (good_glob glob byte is bad)
one_patterns _ _ _ _ _ (left_out pattern byte bad all) (one_more same glob is rest) =
    absurd (good_glob glob byte is bad)
one_patterns _ _ _ _ _ (left_out {wanted = ws} {patterns = ps} {globs = gs} pattern byte bad all)
    (left_out {patterns = qs} {globs = hs} same other too rest) = one_patterns ws ps qs gs hs all rest
