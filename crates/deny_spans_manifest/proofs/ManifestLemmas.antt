-- The place of the crate with an id, and the declarations that a filter leaves out.
use Rattle.std.proofs.Common.{◌≡◌, ◌<◌, ◌+◌, ◌∷◌, ◌∙◌, ◌-◌, ◌≤◌, [], ℕ, Bool, List, None, Option, Some, add-one, ap}
use Rattle.std.proofs.Common.{arith, cond, drop, false, length, refl, subst, suc, sym, take, true, zero}
use Rattle.std.specs.Prelude.{IfNone, IfSome, filter, find, nat_lt, not, option_map, position, slice_get}
use Rattle.std.specs.Prelude.{slice_index_or}
use Rattle.std.specs.List.{position_or_len}
use Rattle.std.proofs.lemmas.Bool.Decides.{nat_tests}
use Rattle.std.proofs.lemmas.List.{take_rest}
use Rattle.std.proofs.lemmas.List.Folds.{find_at}
use Rattle.std.proofs.lemmas.List.Quantifiers.{position-Some}
use Rattle.std.proofs.lemmas.Option.{slice_get_past}
use Rattle.deny_base_lists.proofs.Filters.{first-filter}
use Rattle.deny_krates.specs.Crates.{crate_view, crates_from}
use Rattle.deny_krates.specs.Ids.{crate_of}
use Rattle.deny_krates.specs.krate.Krate.{Krate}
use Rattle.deny_spans_manifest.specs.Ignored.{is_among}
use Rattle.deny_spans_manifest.specs.Manifest.{IsOwn, without}
use Rattle.deny_spans_manifest.specs.declared.declarations.ManifestDep.{ManifestDep}
use Rattle.deny_base.specs.declared.edge.DepKind.{DepKind}
use Rattle.deny_spec.specs.Graph.{Crate, Graph}
use Rattle.deny_spec.specs.Text.{same_text}

-- ---- the crate of an id

abbrev ComesFrom : ℕ → List Krate → Crate → Type 0
ComesFrom first ks c = (n : ℕ) × (c.place ≡ first + n) × (slice_get (crates_from first ks) n ≡ Some c)

found_from : (p : Crate → Bool) (first : ℕ) (ks : List Krate) (c : Crate)
    → find p (crates_from first ks) ≡ Some c → ComesFrom first ks c
found_from p first [] c e = absurd (cc e)
found_from p first (k ∷ ks) c e = by_test p first k ks c (p (crate_view first k)) (found_from p (first + 1) ks c) e
  where
    by_test : (p : Crate → Bool) (first : ℕ) (k : Krate) (ks : List Krate) (c : Crate) (b : Bool)
        → (find p (crates_from (first + 1) ks) ≡ Some c → ComesFrom (first + 1) ks c)
        → cond b (Some (crate_view first k)) (find p (crates_from (first + 1) ks)) ≡ Some c
        → ComesFrom first (k ∷ ks) c
    by_test p first k ks c true later e =
        let same : crate_view first k ≡ c = cc in
        (0, ap (λ (d : Crate). d.place) (sym same) ∙ omega arith, e)
    by_test p first k ks c false later e =
        let rest = later e in
        (suc rest.0, (let at : c.place ≡ (first + 1) + rest.0 = rest.1 in omega arith), rest.2)

found_at_place : (p : Crate → Bool) (ks : List Krate) (crates : List Crate) (c : Crate) → crates_from 0 ks ≡ crates
    → find p crates ≡ Some c → slice_get crates c.place ≡ Some c
found_at_place p ks crates c are found =
    let at = found_from p 0 ks c (ap (find p) are ∙ found) in
    let place : c.place ≡ at.0 = (let is : c.place ≡ 0 + at.0 = at.1 in omega arith) in
    ap (slice_get crates) place ∙ (ap (λ cs. slice_get cs at.0) (sym are) ∙ at.2)

-- what the lookup of a crate's place answers
pub record IsPlaceOf (g : Graph) (k : Krate) (r : Option ℕ) : Type 0 where
  pub none : IfNone r (crate_of g k.id.0 ≡ None)
  pub some : IfSome r (λ place. crate_of g k.id.0 ≡ Some (crate_view place k))
  pub at_place : IfSome r (λ place. slice_get g.crates place ≡ Some (crate_view place k))

place_by : (g : Graph) (k : Krate) (o : Option Crate) → crate_of g k.id.0 ≡ o
    → ((c : Crate) → crate_of g k.id.0 ≡ Some c → slice_get g.crates c.place ≡ Some c)
    → IfSome o (λ c. c ≡ crate_view c.place k) → IsPlaceOf g k (option_map (λ c. c.place) o)
place_by g k None is at own = record { none = is; some = tt; at_place = tt }
place_by g k (Some c) is at own = record {
  none = tt;
  some = is ∙ ap (λ (d : Crate). Some d) own;
  at_place = at c is ∙ ap (λ (d : Crate). Some d) own;
}

pub place_found : (g : Graph) (k : Krate) (ks : List Krate) (r : Option ℕ) → crates_from 0 ks ≡ g.crates → IsOwn g k
    → r ≡ option_map (λ c. c.place) (crate_of g k.id.0) → IsPlaceOf g k r
place_found g k ks r are own is = subst (λ (o : Option ℕ). IsPlaceOf g k o) (sym is)
    (place_by g k (crate_of g k.id.0) refl
    (λ c found. found_at_place (λ (d : Crate). same_text d.id k.id.0) ks g.crates c are found) own)

-- ---- declarations that are left out

filter-all_pass : {X : Type 0} (p : X → Bool) (xs : List X) → ((x : X) → p x ≡ true) → filter p xs ≡ xs
filter-all_pass p [] all = refl
filter-all_pass p (x ∷ xs) all =
    ap (λ b. cond b (x ∷ filter p xs) (filter p xs)) (all x) ∙ ap (λ ys. x ∷ ys) (filter-all_pass p xs all)

without_none : (deps : List ManifestDep) → without [] deps ≡ deps
unfolding without is_among
without_none deps = filter-all_pass (λ (m : ManifestDep). true) deps (λ m. refl)

pub deps_by : (by : Bool) (ignored kinds : List DepKind) (left deps : List ManifestDep) → left ≡ deps
    → kinds ≡ cond by ignored [] → without kinds left ≡ cond by (without ignored deps) deps
deps_by true ignored kinds left deps same is =
    ap (without kinds) same ∙ ap (λ (ks : List DepKind). without ks deps) is
deps_by false ignored kinds left deps same is =
    ap (without kinds) same ∙ (ap (λ (ks : List DepKind). without ks deps) is ∙ without_none deps)

kept_from : {X : Type 0} (p : X → Bool) (xs : List X) (i : ℕ) (x : X) → i < length xs → x ≡ slice_index_or xs i x
    → p x ≡ true → ((k : ℕ) → k < i → p (slice_index_or xs k x) ≡ false) → filter p xs ≡ x ∷ filter p (drop (suc i) xs)
kept_from p [] i x inside is passes before = absurd (omega arith)
kept_from p (y ∷ ys) zero x inside is passes before =
    ap (λ b. cond b (y ∷ filter p ys) (filter p ys)) (ap p (sym is) ∙ passes) ∙ ap (λ z. z ∷ filter p ys) (sym is)
kept_from p (y ∷ ys) (suc i) x inside is passes before =
    ap (λ b. cond b (y ∷ filter p ys) (filter p ys)) (before 0 (omega arith))
    ∙ kept_from p ys i x (omega arith) is passes (λ k below. before (suc k) (omega arith))

-- the first item that passes, and the items behind it
kept_at : {X : Type 0} (p : X → Bool) (xs : List X) (i : ℕ) (x : X) → position p xs ≡ Some i
    → x ≡ slice_index_or xs i x → filter p xs ≡ x ∷ filter p (drop (i + 1) xs)
kept_at p xs i x first is =
    let at = position-Some p xs i x first in
    let passes : p x ≡ true = ap p is ∙ at.1 in
    kept_from p xs i x at.0 is passes at.2 ∙ ap (λ n. x ∷ filter p (drop n xs)) (sym (add-one i))

no_first : (b : Bool) (n : ℕ) → cond b (Some n) None ≡ None → b ≡ false
no_first true n e = absurd (cc e)
no_first false n e = refl

past_end : (n m : ℕ) → nat_lt n m ≡ false → m ≤ n
past_end n m e = grind (arith, nat_tests)

empty_from : {X : Type 0} (xs : List X) → slice_get xs 0 ≡ None → xs ≡ []
empty_from [] e = refl
empty_from (x ∷ xs) e = absurd (cc e)

none_kept : {X : Type 0} (p : X → Bool) (xs : List X) → position p xs ≡ None → filter p xs ≡ []
none_kept p xs none = empty_from (filter p xs) (first-filter p xs ∙ (find_at p xs
    ∙ slice_get_past xs (position_or_len p xs)
    (past_end (position_or_len p xs) (length xs) (no_first _ (position_or_len p xs) none))))

-- the declarations that an iterator has left after the first kept one
pub left_at : (ignored : List DepKind) (left : List ManifestDep) (i : ℕ) (m : ManifestDep)
    → position (λ m. not (is_among ignored m.dep.now.kind)) left ≡ Some i → m ≡ slice_index_or left i m
    → without ignored left ≡ m ∷ without ignored (take (length left - (i + 1)) (drop (i + 1) left))
unfolding without
left_at ignored left i m first is =
    let keeps : ManifestDep → Bool = λ (each : ManifestDep). not (is_among ignored each.dep.now.kind) in
    kept_at keeps left i m first is
    ∙ ap (λ (ms : List ManifestDep). m ∷ filter keeps ms) (sym (take_rest left (i + 1)))

pub none_left : (ignored : List DepKind) (left : List ManifestDep)
    → position (λ m. not (is_among ignored m.dep.now.kind)) left ≡ None → without ignored left ≡ []
unfolding without
none_left ignored left none = none_kept (λ (m : ManifestDep). not (is_among ignored m.dep.now.kind)) left none

pub nothing_left : (ignored : List DepKind) → without ignored [] ≡ []
unfolding without
nothing_left ignored = refl
