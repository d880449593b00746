-- A map that takes an entry only where its key is new has the first entry of each key.
use Rattle.std.proofs.Common.{◌≡◌, ◌++◌, ◌+◌, ◌<◌, ℕ, Bool, true, false, List, [], ◌∷◌, Option, Some, None, cond}
use Rattle.std.proofs.Common.{get_or, is_some, length, map, take, refl, sym, ap, ◌∙◌, append-nil, append_assoc}
use Rattle.std.proofs.lemmas.List.{map-append, take_more}
use Rattle.std.proofs.lemmas.List.Concat.{flat_map-append}
use Rattle.std.specs.List.{flat_map}
use Rattle.std.specs.Cmp.{Equal-is, IsTotalOrder}
use Rattle.std.specs.FinMap.{IsAntisymmetric}
use Rattle.std.specs.Option.{option_or}
use Rattle.std.specs.Ordering.{eq_by_cmp, is_eq}
use Rattle.std.specs.declared.cmp.Ordering.{Ordering}
use Rattle.deny_base_lists.specs.First.{FindsFirst, GainsEntry}
use Rattle.deny_base_lists.proofs.FirstLemmas.{finds_more}
use Rattle.deny_base_lists.proofs.Options.{none_from_is_some}
use Rattle.deny_base_lists.proofs.Orders.{is_eq-reverse}

put_behind : {V : Type 0} (b : Bool) (o : Option V) (v : V) → (b ≡ true → o ≡ None)
    → cond b (Some v) o ≡ option_or o (cond b (Some v) None)
put_behind true o v none = rw (none refl) refl
put_behind false None v none = refl
put_behind false (Some w) v none = refl

stays_before : {V : Type 0} (b : Bool) (o : Option V) (v : V) → (b ≡ true → is_some o ≡ true)
    → o ≡ option_or o (cond b (Some v) None)
stays_before b (Some w) v known = refl
stays_before false None v known = refl
stays_before true None v known = absurd (cc (known refl))

module _ {K : Type 0} {cmp : K → K → Ordering} (total : IsTotalOrder cmp) (exact : IsAntisymmetric cmp) where
  pub turned : (a b : K) → is_eq (cmp b a) ≡ eq_by_cmp cmp a b
  turned a b = ap is_eq (total.antisymm b a) ∙ is_eq-reverse (cmp a b)

  one_key : (a b : K) → eq_by_cmp cmp a b ≡ true → a ≡ b
  one_key a b is = exact a b ((Equal-is (cmp a b)).0 is)

  pub gains_put : {V : Type 0} (old new : K → Option V) (key : K) (value : V) → is_some (old key) ≡ false
      → ((asked : K) → new asked ≡ cond (is_eq (cmp key asked)) (Some value) (old asked))
      → GainsEntry (eq_by_cmp cmp) key value old new
  gains_put old new key value absent put = record {
    at = λ asked. put asked
        ∙ (ap (λ b. cond b (Some value) (old asked)) (turned asked key)
        ∙ put_behind (eq_by_cmp cmp asked key) (old asked) value
        (λ is. ap old (one_key asked key is) ∙ none_from_is_some (old key) absent));
  }

  pub gains_kept : {V : Type 0} (old : K → Option V) (key : K) (value : V) → is_some (old key) ≡ true
      → GainsEntry (eq_by_cmp cmp) key value old old
  gains_kept old key value known = record {
    at = λ asked. stays_before (eq_by_cmp cmp asked key) (old asked) value
        (λ is. ap (λ k. is_some (old k)) (one_key asked key is) ∙ known);
  }

-- a mapped list with its next element
pub mapped-more : {X Y : Type 0} (f : X → Y) (xs : List X) (i : ℕ) (x : X) (old new : List Y) → i < length xs
    → x ≡ get_or xs i x → old ≡ map f (take i xs) → new ≡ old ++ f x ∷ [] → new ≡ map f (take (i + 1) xs)
mapped-more f xs i x old new inside is before added =
    added ∙ (ap (λ ys. ys ++ f x ∷ []) before
    ∙ (sym (map-append f (take i xs) (x ∷ []))
    ∙ ap (map f) (sym (take_more xs i x inside ∙ ap (λ y. take i xs ++ y ∷ []) (sym is)))))

pub flat-more : {X Y : Type 0} (f : X → List Y) (xs : List X) (i : ℕ) (x : X) (old new : List Y) → i < length xs
    → x ≡ get_or xs i x → old ≡ flat_map f (take i xs) → new ≡ old ++ f x → new ≡ flat_map f (take (i + 1) xs)
flat-more f xs i x old new inside is before added =
    added ∙ (ap (λ ys. ys ++ f x) before
    ∙ (ap (λ ys. flat_map f (take i xs) ++ ys) (sym (append-nil (f x)))
    ∙ (sym (flat_map-append f (take i xs) (x ∷ []))
    ∙ ap (flat_map f) (sym (take_more xs i x inside ∙ ap (λ y. take i xs ++ y ∷ []) (sym is))))))

-- the entries of a list with the next element's
module _ {X K V : Type 0} (same : K → K → Bool) (entry : X → K × V) (xs : List X) (i : ℕ) (x : X)
    (inside : i < length xs) (is : x ≡ get_or xs i x) where
  more-mapped : map entry (take (i + 1) xs) ≡ map entry (take i xs) ++ entry x ∷ []
  more-mapped = ap (map entry) (take_more xs i x inside ∙ ap (λ y. take i xs ++ y ∷ []) (sym is))
      ∙ map-append entry (take i xs) (x ∷ [])

  pub finds_next : (old new : K → Option V) → FindsFirst same (map entry (take i xs)) old
      → GainsEntry same (entry x).0 (entry x).1 old new → FindsFirst same (map entry (take (i + 1) xs)) new
  finds_next old new finds gains =
      rw more-mapped (finds_more same (map entry (take i xs)) (entry x).0 (entry x).1 old new finds gains)

  pub finds_behind : (entries : List (K × V)) (old new : K → Option V)
      → FindsFirst same (entries ++ map entry (take i xs)) old
      → GainsEntry same (entry x).0 (entry x).1 old new
      → FindsFirst same (entries ++ map entry (take (i + 1) xs)) new
  finds_behind entries old new finds gains =
      rw (more-mapped, ← append_assoc entries (map entry (take i xs)) (entry x ∷ []))
      (finds_more same (entries ++ map entry (take i xs)) (entry x).0 (entry x).1 old new finds gains)

-- the entries of a list with those of the element at an index
pub finds_behind-at : {X K V : Type 0} (same : K → K → Bool) (entry : X → K × V) (xs : List X) (i : ℕ) (d : X)
    → i < length xs → (entries : List (K × V)) (old new : K → Option V)
    → FindsFirst same (entries ++ map entry (take i xs)) old
    → GainsEntry same (entry (get_or xs i d)).0 (entry (get_or xs i d)).1 old new
    → FindsFirst same (entries ++ map entry (take (i + 1) xs)) new
finds_behind-at same entry xs i d inside entries old new finds gains =
    rw (
      take_more xs i d inside,
      map-append entry (take i xs) (get_or xs i d ∷ []),
      ← append_assoc entries (map entry (take i xs)) (entry (get_or xs i d) ∷ []),
    )
    (finds_more same (entries ++ map entry (take i xs)) (entry (get_or xs i d)).0
    (entry (get_or xs i d)).1 old new finds
    gains)

pub flat-more-at : {X Y : Type 0} (f : X → List Y) (xs : List X) (i : ℕ) (d : X) (old new : List Y) → i < length xs
    → old ≡ flat_map f (take i xs) → new ≡ old ++ f (get_or xs i d) → new ≡ flat_map f (take (i + 1) xs)
flat-more-at f xs i d old new inside before added =
    added ∙ (ap (λ ys. ys ++ f (get_or xs i d)) before
    ∙ (ap (λ ys. flat_map f (take i xs) ++ ys) (sym (append-nil (f (get_or xs i d))))
    ∙ (sym (flat_map-append f (take i xs) (get_or xs i d ∷ [])) ∙ ap (flat_map f) (sym (take_more xs i d inside)))))
