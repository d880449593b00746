-- Sets of texts, and maps from texts to the index of the first file.
use Rattle.std.proofs.Common.{◌≡◌, ◌∙◌, ◌++◌, ◌∷◌, [], ℕ, ◌+◌, ◌<◌, ◌≤◌, Bool, true, false, List, Option, Some, None}
use Rattle.std.proofs.Common.{get_or, is_some, length, map, refl, subst, sym, take, ap}
use Rattle.std.specs.Prelude.{◌||◌, cond}
use Rattle.std.specs.FinMap as finite
use Rattle.std.specs.Cmp.Lexicographic.{bytes_decides, slice_cmp}
use Rattle.std.specs.List.{list_any}
use Rattle.std.specs.Option.{option_or}
use Rattle.std.specs.Ordering.{nat_cmp}
use Rattle.std.proofs.lemmas.List.{map-append, take_all, take_more}
use Rattle.std.proofs.lemmas.List.Folds.{list_any-append}
use Rattle.deny_base_lists.proofs.Filters.{none_or, some_or}
use Rattle.deny_base_lists.proofs.Agreement.{list_any_on}
use Rattle.deny_base_lists.proofs.Booleans.{tests_agree, or-false}
use Rattle.deny_base_lists.proofs.Members.{any_from, any_passes}
use Rattle.deny_base_lists.specs.TextMap.{TextFinMap}
use Rattle.deny_base_lists.proofs.Options.{option_or-none}
use Rattle.deny_spec.specs.declared.package.PackageFile.{PackageFile}
use Rattle.deny_spec_report.specs.PackageFiles.{is_decided_by}
use Rattle.deny_spec.specs.Text.{same_text}
use Rattle.deny_spec.proofs.Texts.{one_text_more}
use Rattle.deny_build.specs.private.Globs.{IsSetOf, decides}

pub nothing_at : {V : Type 0} (text : List ℕ) → finite.get (finite.empty {X = V} {R = slice_cmp nat_cmp}) text ≡ None
nothing_at text = finite.get-empty (slice_cmp nat_cmp) text

-- ---- sets

-- ---- two lists have a common text, in either order

same_back : (a b : List ℕ) → same_text a b ≡ true → same_text b a ≡ true
same_back a b same = (bytes_decides b a).1 (sym ((bytes_decides a b).0 same))

any_both : (xs ys : List (List ℕ)) → list_any (λ x. list_any (same_text x) ys) xs ≡ true
    → list_any (λ y. list_any (same_text y) xs) ys ≡ true
any_both xs ys is =
    let one = any_passes (λ (x : List ℕ). list_any (same_text x) ys) xs is in
    let other = any_passes (same_text one.one) ys one.passes in
    any_from (λ (y : List ℕ). list_any (same_text y) xs) ys other.one other.member
    (any_from (same_text other.one) xs one.one one.member (same_back one.one other.one other.passes))

any_swapped : (xs ys : List (List ℕ)) → list_any (λ x. list_any (same_text x) ys) xs
    ≡ list_any (λ y. list_any (same_text y) xs) ys
any_swapped xs ys = tests_agree (list_any (λ (x : List ℕ). list_any (same_text x) ys) xs)
    (list_any (λ (y : List ℕ). list_any (same_text y) xs) ys) (any_both xs ys) (any_both ys xs)

pub any-map : {X Y : Type 0} (p : Y → Bool) (f : X → Y) (xs : List X)
    → list_any p (map f xs) ≡ list_any (λ x. p (f x)) xs
any-map p f [] = refl
any-map p f (x ∷ xs) = ap (λ b. p (f x) || b) (any-map p f xs)

-- a file is decided by one of these globs exactly where the set of their texts says so
pub decides_by : {X : Type 0} (text_of : X → List ℕ) (globs : List X) (set : TextFinMap Bool) (file : PackageFile)
    → IsSetOf (map text_of globs) set → decides set file ≡ list_any (λ x. is_decided_by file (text_of x)) globs
unfolding is_decided_by
decides_by {X} text_of globs set file of =
    list_any_on (λ glob. is_some (finite.get set glob))
    (λ glob. list_any (same_text glob) (map text_of globs)) file.globs
    (λ glob _. of.each glob)
    ∙ (any_swapped file.globs (map text_of globs)
    ∙ any-map (λ (text : List ℕ). list_any (same_text text) file.globs) text_of globs)

-- a set of texts with one more text of the list
pub one_text_taken : {X : Type 0} (text_of : X → List ℕ) (xs : List X) (x : X) (i : ℕ) (set : TextFinMap Bool)
    (text : List ℕ) → i < length xs → x ≡ get_or xs i x → text ≡ text_of x → IsSetOf (map text_of (take i xs)) set
    → IsSetOf (map text_of (take (i + 1) xs)) (finite.insert set text true)
one_text_taken {X} text_of xs x i set text inside is same before =
    let more : map text_of (take (i + 1) xs) ≡ map text_of (take i xs) ++ text ∷ [] =
    ap (map text_of) (take_more xs i x inside ∙ ap (λ (y : X). take i xs ++ y ∷ []) (sym is))
    ∙ (map-append text_of (take i xs) (x ∷ []) ∙ ap (λ t. map text_of (take i xs) ++ t ∷ []) (sym same)) in
    subst (λ (texts : List (List ℕ)). IsSetOf texts (finite.insert set text true)) (sym more)
    (one_text_more (map text_of (take i xs)) set text true before)

pub all_texts_taken : {X : Type 0} (text_of : X → List ℕ) (xs : List X) (i : ℕ) (set : TextFinMap Bool)
    (texts : List (List ℕ)) → length xs ≤ i → map text_of xs ≡ texts → IsSetOf (map text_of (take i xs)) set
    → IsSetOf texts set
all_texts_taken text_of xs i set texts past are before =
    subst (λ (ts : List (List ℕ)). IsSetOf ts set) (ap (map text_of) (take_all i xs past) ∙ are) before

-- ---- an entry is put only where there is none

pub kept_at : (firsts : TextFinMap ℕ) (glob text : List ℕ) (n : ℕ) → is_some (finite.get firsts glob) ≡ true
    → finite.get firsts text ≡ option_or (finite.get firsts text) (cond (same_text text glob) (Some n) None)
kept_at firsts glob text n there = by_test (same_text text glob) refl
  where
    by_test : (b : Bool) → same_text text glob ≡ b
        → finite.get firsts text ≡ option_or (finite.get firsts text) (cond b (Some n) None)
    by_test true same = sym (some_or (finite.get firsts text) (Some n)
        (ap (λ t. is_some (finite.get firsts t)) ((bytes_decides text glob).0 same) ∙ there))
    by_test false differs = option_or-none (finite.get firsts text)

pub put_at : (firsts : TextFinMap ℕ) (glob text : List ℕ) (n : ℕ) → is_some (finite.get firsts glob) ≡ false
    → cond (same_text text glob) (Some n) (finite.get firsts text)
    ≡ option_or (finite.get firsts text) (cond (same_text text glob) (Some n) None)
put_at firsts glob text n none = by_test (same_text text glob) refl
  where
    by_test : (b : Bool) → same_text text glob ≡ b → cond b (Some n) (finite.get firsts text)
        ≡ option_or (finite.get firsts text) (cond b (Some n) None)
    by_test true same = sym (none_or (finite.get firsts text) (Some n)
        (ap (λ t. is_some (finite.get firsts t)) ((bytes_decides text glob).0 same) ∙ none))
    by_test false differs = option_or-none (finite.get firsts text)

any_more : {X : Type 0} (p : X → Bool) (xs : List X) (x : X) (i : ℕ) → i < length xs → x ≡ get_or xs i x
    → list_any p (take (i + 1) xs) ≡ (list_any p (take i xs) || p x)
any_more {X} p xs x i inside is =
    ap (list_any p) (take_more xs i x inside ∙ ap (λ (y : X). take i xs ++ y ∷ []) (sym is))
    ∙ (list_any-append p (take i xs) (x ∷ []) ∙ ap (λ b. list_any p (take i xs) || b) (or-false (p x)))

noted : (got : Option ℕ) (before here : Bool) (n : ℕ)
    → option_or (option_or got (cond before (Some n) None)) (cond here (Some n) None)
    ≡ option_or got (cond (before || here) (Some n) None)
noted (Some k) before here n = refl
noted None true here n = refl
noted None false here n = refl

pub noted_more : (start now new : Option ℕ) (p : List ℕ → Bool) (globs : List (List ℕ)) (glob : List ℕ) (i n : ℕ)
    → i < length globs → glob ≡ get_or globs i glob
    → now ≡ option_or start (cond (list_any p (take i globs)) (Some n) None)
    → new ≡ option_or now (cond (p glob) (Some n) None)
    → new ≡ option_or start (cond (list_any p (take (i + 1) globs)) (Some n) None)
noted_more start now new p globs glob i n inside is before here =
    here ∙ (ap (λ (o : Option ℕ). option_or o (cond (p glob) (Some n) None)) before
    ∙ (noted start (list_any p (take i globs)) (p glob) n
    ∙ ap (λ b. option_or start (cond b (Some n) None)) (sym (any_more p globs glob i inside is))))
