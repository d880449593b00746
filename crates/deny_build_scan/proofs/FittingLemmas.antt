-- The patterns at the indices of the fitting globs are the fitting ones.
use Rattle.std.proofs.Common.{◌≡◌, ◌∙◌, ◌+◌, ◌-◌, ◌<◌, ◌≤◌, [], ◌∷◌, suc, ℕ, List, Option, None, Some, ap, arith, inl}
use Rattle.std.proofs.Common.{inr, length, map, refl, subst, sym, Bor}
use Rattle.std.specs.Prelude.{◌↔◌, All, Contains, filter_map, slice_get, slice_index}
use Rattle.std.specs.List.{AllZip, cons_option}
use Rattle.std.specs.List.Sorted.{IsStrictlyIncreasing}
use Rattle.std.specs.Str.{chars}
use Rattle.std.proofs.lemmas.Bool.{cases_lt}
use Rattle.std.proofs.lemmas.List.Elements.{All-head, All-tail}
use Rattle.deny_cfg_build.specs.BuildingView.{words_of}
use Rattle.deny_cfg_build.specs.Globs.{IsGlobOf, extension_text, own_text, patterns_at}
use Rattle.deny_cfg_build.specs.declared.pattern.GlobPattern.{GlobPattern}
use Rattle.deny_cfg_build.specs.declared.pattern.GlobPattern.TheVariants.{Builtin, User}
use Rattle.deny_globs.specs.Fits.{Fits}
use Rattle.deny_globs.specs.Patterns.{Pattern, characters_of, tokens_of}
use Rattle.deny_globs.specs.Sets.{FitsAt, IsRead}
use Rattle.deny_globs.specs.Tree.{IsGlob}
use Rattle.deny_globs.specs.declared.token.Token.{Token}
use Rattle.deny_base_lists.proofs.Members.{Contains-by_cases, Contains-first, Contains-rest, no_member, tail-same}
use Rattle.deny_build_scan.specs.Globs.{AreFitting, FitsText}
use Rattle.deny_build_scan.specs.Globs.AreFitting.{fitting, none, other}

-- ---- ascending indices

-- the indices ascend, from this one on
abbrev Rises : ℕ → List ℕ → Type 0
Rises n [] = Unit {0}
Rises n (i ∷ is) = (n ≤ i) × Rises (i + 1) is

increasing_rest : (i : ℕ) (is : List ℕ) → IsStrictlyIncreasing (i ∷ is) → IsStrictlyIncreasing is
increasing_rest i is up k inside =
    let one : suc k + 1 ≡ suc (k + 1) = omega arith in
    subst (λ (m : ℕ). slice_index (i ∷ is) (suc k) < slice_index (i ∷ is) m) one
    (up (suc k) (omega (arith, inside)))

rises_from : (n i : ℕ) (is : List ℕ) → n ≤ i → IsStrictlyIncreasing (i ∷ is) → Rises n (i ∷ is)
rises_from n i [] least up = (least, tt)
rises_from n i (j ∷ js) least up =
    let next : i < j = up 0 (omega arith) in
    (least, rises_from (i + 1) j js (omega (arith, next)) (increasing_rest i (j ∷ js) up))

rises : (is : List ℕ) → IsStrictlyIncreasing is → Rises 0 is
rises [] up = tt
rises (i ∷ is) up = rises_from 0 i is (omega arith) up

rises_least : (n x : ℕ) (is : List ℕ) → Rises n is → Contains is x → n ≤ x
rises_least n x [] up there = absurd (no_member x there)
rises_least n x (i ∷ is) up there = Contains-by_cases i is x there
    (λ same. subst (λ (m : ℕ). n ≤ m) same up.0)
    (λ later. let above = rises_least (i + 1) x is up.1 later in omega (arith, above, up.0))

-- ---- globs with the characters of a text

module _ (text_of : GlobPattern → List ℕ) where
  one_read : (pattern : GlobPattern) (glob : Pattern) → characters_of glob ≡ chars (text_of pattern) → IsRead glob
      → IsGlobOf (text_of pattern) glob
  one_read pattern glob same read = record {
    characters = same;
    tokens = subst (λ (cs : List ℕ). IsGlob cs (tokens_of glob)) same read.tokens;
    only = λ other is. read.only other (subst (λ (cs : List ℕ). IsGlob cs other) (sym same) is);
  }

  pub all_read : (patterns : List GlobPattern) (globs : List Pattern)
      → map characters_of globs ≡ map (λ pattern. chars (text_of pattern)) patterns → All IsRead globs
      → AllZip (λ pattern glob. IsGlobOf (text_of pattern) glob) patterns globs
  all_read [] [] same read = tt
  all_read [] (glob ∷ globs) same read = cc
  all_read (pattern ∷ patterns) [] same read = cc
  all_read (pattern ∷ patterns) (glob ∷ globs) same read =
      let first : characters_of glob ≡ chars (text_of pattern) = cc in (
        one_read pattern glob first (All-head IsRead glob globs read),
        all_read patterns globs (tail-same same) (All-tail IsRead glob globs read),
      )

-- ---- patterns that fit

module _ (text_of : GlobPattern → List ℕ) (path : List ℕ) where
  abbrev Reads : GlobPattern → Pattern → Type 0
  Reads pattern glob = IsGlobOf (text_of pattern) glob

  fits_so : (pattern : GlobPattern) (glob : Pattern) → Reads pattern glob → Fits (tokens_of glob) (chars path)
      → FitsText (text_of pattern) path
  fits_so pattern glob reads fits = record { tokens = tokens_of glob; written = reads.tokens; fits = fits }

  not_so : (pattern : GlobPattern) (glob : Pattern) → Reads pattern glob → (Fits (tokens_of glob) (chars path) → ⊥)
      → FitsText (text_of pattern) path → ⊥
  not_so pattern glob reads fails is =
      fails (subst (λ (ts : List Token). Fits ts (chars path)) (reads.only is.tokens is.written) is.fits)

  abbrev those : List GlobPattern → List ℕ → List (List ℕ)
  those all is = map text_of (filter_map (slice_get all) is)

  one_more : (all : List GlobPattern) (i : ℕ) (is : List ℕ) (pattern : GlobPattern) → slice_get all i ≡ Some pattern
      → those all (i ∷ is) ≡ text_of pattern ∷ those all is
  one_more all i is pattern at =
      ap (λ (o : Option GlobPattern). map text_of (cons_option o (filter_map (slice_get all) is))) at

  abbrev Fit : List Pattern → ℕ → List ℕ → Type 0
  Fit globs n is = (i : ℕ) → Contains is (n + i) ↔ FitsAt globs i (chars path)

  abbrev AreThere : List GlobPattern → List GlobPattern → ℕ → Type 0
  AreThere all patterns n = (i : ℕ) → slice_get all (n + i) ≡ slice_get patterns i

  further : (n i : ℕ) → n + suc i ≡ (n + 1) + i
  further n i = omega arith

  hold_rest : (all patterns : List GlobPattern) (pattern : GlobPattern) (n : ℕ) → AreThere all (pattern ∷ patterns) n
      → AreThere all patterns (n + 1)
  hold_rest all patterns pattern n hold i =
      subst (λ (m : ℕ). slice_get all m ≡ slice_get patterns i) (further n i) (hold (suc i))

  fit_rest : (globs : List Pattern) (glob : Pattern) (n : ℕ) (is : List ℕ) → Fit (glob ∷ globs) n is
      → Fit globs (n + 1) is
  fit_rest globs glob n is fit i =
      subst (λ (m : ℕ). Contains is m ↔ FitsAt globs i (chars path)) (further n i) (fit (suc i))

  fit_behind : (globs : List Pattern) (n i : ℕ) (is : List ℕ) → i ≡ n → Fit globs (n + 1) (i ∷ is)
      → Fit globs (n + 1) is
  fit_behind globs n i is here fit j = (
    λ there. (fit j).0 (Contains-rest i is ((n + 1) + j) there),
    λ fits. Contains-by_cases i is ((n + 1) + j) ((fit j).1 fits)
        (λ same. absurd (let bad : n ≡ (n + 1) + j = sym here ∙ same in omega (arith, bad)))
        (λ later. later),
  )

  fitting_from : (all patterns : List GlobPattern) (globs : List Pattern) (n : ℕ) (is : List ℕ)
      → AllZip Reads patterns globs → Rises n is → AreThere all patterns n → Fit globs n is
      → AreFitting path (map text_of patterns) (those all is)
  fitting_from all [] [] n [] zip up hold fit = none
  fitting_from all [] [] n (i ∷ is) zip up hold fit =
      let k : n + (i - n) ≡ i = omega (arith, up.0) in
      absurd ((fit (i - n)).0 (subst (λ (m : ℕ). Contains (i ∷ is) m) (sym k) (Contains-first i is)))
  fitting_from all [] (glob ∷ globs) n is zip up hold fit = absurd zip
  fitting_from all (pattern ∷ patterns) [] n is zip up hold fit = absurd zip
  fitting_from all (pattern ∷ patterns) (glob ∷ globs) n [] zip up hold fit =
      other (text_of pattern) (not_so pattern glob zip.0 (λ fits. no_member (n + 0) ((fit 0).1 fits)))
      (fitting_from all patterns globs (n + 1) [] zip.1 tt (hold_rest all patterns pattern n hold)
      (fit_rest globs glob n [] fit))
  fitting_from all (pattern ∷ patterns) (glob ∷ globs) n (i ∷ is) zip up hold fit = elim (cases_lt n i)
      as (λ _. AreFitting path (map text_of (pattern ∷ patterns)) (those all (i ∷ is))) [
        | inl above ↦
            other (text_of pattern) (not_so pattern glob zip.0 (λ fits.
            let low = rises_least i (n + 0) (i ∷ is) (omega arith, up.1) ((fit 0).1 fits) in
            absurd (omega (arith, low, above))))
            (fitting_from all patterns globs (n + 1) (i ∷ is) zip.1 (omega (arith, above), up.1)
            (hold_rest all patterns pattern n hold) (fit_rest globs glob n (i ∷ is) fit))
        | inr not_above ↦
            let here : i ≡ n = omega (arith, not_above, up.0) in
            let zeroth : n + 0 ≡ i = omega (arith, here) in
            let at : slice_get all i ≡ Some pattern =
            ap (slice_get all) (sym zeroth) ∙ hold 0 in
            subst (λ (ts : List (List ℕ)). AreFitting path (map text_of (pattern ∷ patterns)) ts)
            (sym (one_more all i is pattern at))
            (fitting (text_of pattern)
            (fits_so pattern glob zip.0 ((fit 0).0 (subst (λ (m : ℕ). Contains (i ∷ is) m) (sym zeroth)
            (Contains-first i is))))
            (fitting_from all patterns globs (n + 1) is zip.1
            (subst (λ (m : ℕ). Rises (m + 1) is) here up.1) (hold_rest all patterns pattern n hold)
            (fit_behind globs n i is here (fit_rest globs glob n (i ∷ is) fit))))
      ]

  -- ---- by the result of matching

  abbrev listed : Option (List GlobPattern) → List GlobPattern
  listed None = []
  listed (Some patterns) = patterns

  listed_at : (all : List GlobPattern) (is : List ℕ) → listed (patterns_at all is) ≡ filter_map (slice_get all) is
  listed_at all [] = refl
  listed_at all (i ∷ is) = refl

  zero_more : (i : ℕ) → 0 + i ≡ i
  zero_more i = omega arith

  pub fitting_matched : (all : List GlobPattern) (globs : List Pattern) (is : List ℕ)
      (found : Option (List GlobPattern)) → AllZip Reads all globs → IsStrictlyIncreasing is
      → ((i : ℕ) → Contains is i ↔ FitsAt globs i (chars path)) → found ≡ patterns_at all is
      → AreFitting path (map text_of all) (map text_of (listed found))
  fitting_matched all globs is found zip up fit gives =
      subst (λ (ps : List GlobPattern). AreFitting path (map text_of all) (map text_of ps))
      (sym (ap listed gives ∙ listed_at all is))
      (fitting_from all all globs 0 is zip (rises is up) (λ i. ap (slice_get all) (zero_more i))
      (λ i. subst (λ (m : ℕ). Contains is m ↔ FitsAt globs i (chars path)) (sym (zero_more i)) (fit i)))

-- the texts of the globs of a bypass
pub own_values : (patterns : List GlobPattern) → map (λ w. w.value) (map words_of patterns) ≡ map own_text patterns
own_values [] = refl
own_values (Builtin glob ∷ patterns) = ap (λ ts. glob.0.value ∷ ts) (own_values patterns)
own_values (User glob ∷ patterns) = ap (λ ts. glob.value ∷ ts) (own_values patterns)

-- the texts of borrowed patterns
texts_now : (f : GlobPattern → List ℕ) (patterns : List (Bor GlobPattern)) → map (λ p. f p.now) patterns
    ≡ map f (map (λ p. p.now) patterns)
texts_now f [] = refl
texts_now f (pattern ∷ patterns) = ap (λ ts. f pattern.now ∷ ts) (texts_now f patterns)

pub texts_given : (f : GlobPattern → List ℕ) (patterns items : List (Bor GlobPattern)) (texts : List (List ℕ))
    → texts ≡ map (λ p. f p.now) patterns → patterns ≡ items → texts ≡ map f (map (λ p. p.now) items)
texts_given f patterns items texts are same =
    are ∙ texts_now f patterns ∙ ap (λ (ps : List (Bor GlobPattern)). map f (map (λ p. p.now) ps)) same

-- of no globs none fits
pub none_fitting : (path : List ℕ) (patterns : List GlobPattern) (texts : List (List ℕ)) → length patterns ≡ 0
    → texts ≡ [] → AreFitting path (map extension_text patterns) texts
none_fitting path [] texts empty are = rw are none
none_fitting path (pattern ∷ patterns) texts empty are = absurd (omega (arith, empty))
