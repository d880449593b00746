-- The elements at the indices of a list: of one that gains elements at its end or has one replaced, and of a prefix.
use Rattle.std.proofs.Common.{◌≡◌, ℕ, zero, suc, ◌<◌, List, [], ◌∷◌, ◌++◌, length, refl, arith, Some, sym, subst, ap}
use Rattle.std.proofs.Common.{inl, inr, ◌≢◌, ◌∙◌, ◌+◌, take, map}
use Rattle.std.specs.Prelude.{slice_get, ◌⊎◌, slice_set, slice_index_or}
use Rattle.std.proofs.lemmas.Option.{none-some, slice_get_read, get_or_from_slice_get, slice_get_within}
use Rattle.std.proofs.lemmas.List.{take_more, map-append}
use Rattle.deny_base_lists.proofs.Options.{some_inj, none_is_no_some}

-- ---- at the end

pub slice_get-append_left : {A : Type 0} (xs ys : List A) (i : ℕ) → i < length xs
    → slice_get (xs ++ ys) i ≡ slice_get xs i
slice_get-append_left [] ys i p = absurd (omega arith)
slice_get-append_left (x ∷ xs) ys zero p = refl
slice_get-append_left (x ∷ xs) ys (suc i) p = slice_get-append_left xs ys i (omega arith)

pub slice_get-append_some : {A : Type 0} (xs ys : List A) (k : ℕ) (x : A) → slice_get xs k ≡ Some x
    → slice_get (xs ++ ys) k ≡ Some x
slice_get-append_some [] ys k x at = absurd (none-some x at)
slice_get-append_some (z ∷ xs) ys zero x at = at
slice_get-append_some (z ∷ xs) ys (suc k) x at = slice_get-append_some xs ys k x at

pub slice_get-push : {A : Type 0} (xs : List A) (x : A) → slice_get (xs ++ x ∷ []) (length xs) ≡ Some x
slice_get-push [] x = refl
slice_get-push (y ∷ ys) x = slice_get-push ys x

pub slice_get-push_last : {A : Type 0} (xs : List A) (y : A) (i : ℕ) → i ≡ length xs
    → slice_get (xs ++ y ∷ []) i ≡ Some y
slice_get-push_last xs y i e = subst (λ k. slice_get (xs ++ y ∷ []) k ≡ Some y) (sym e) (slice_get-push xs y)

pub slice_get-push_left : {A : Type 0} (xs : List A) (y : A) (i : ℕ) {x : A} → slice_get xs i ≡ Some x
    → slice_get (xs ++ y ∷ []) i ≡ Some x
slice_get-push_left [] y i e = cc
slice_get-push_left (x ∷ xs) y zero e = e
slice_get-push_left (x ∷ xs) y (suc i) e = slice_get-push_left xs y i e

pub slice_get-push_cases : {A : Type 0} (xs : List A) (y : A) (i : ℕ) {x : A} → slice_get (xs ++ y ∷ []) i ≡ Some x
    → (slice_get xs i ≡ Some x) ⊎ ((i ≡ length xs) × (x ≡ y))
slice_get-push_cases [] y zero e = inr (refl, sym (some_inj e))
slice_get-push_cases [] y (suc i) e = cc
slice_get-push_cases (x ∷ xs) y zero e = inl e
slice_get-push_cases (x ∷ xs) y (suc i) e = elim (slice_get-push_cases xs y i e) [
  | inl old ↦ inl old
  | inr last ↦ inr (ap suc last.0, last.1)
]

-- ---- in place of another

pub slice_get-set_same : {A : Type 0} (xs : List A) (p : ℕ) (new : A) (e : A) → slice_get xs p ≡ Some e
    → slice_get (slice_set xs p new) p ≡ Some new
slice_get-set_same [] p new e at = none_is_no_some at
slice_get-set_same (y ∷ ys) zero new e at = refl
slice_get-set_same (y ∷ ys) (suc p) new e at = slice_get-set_same ys p new e at

pub slice_get-set_other : {A : Type 0} (xs : List A) (p : ℕ) (new : A) (q : ℕ) → q ≢ p
    → slice_get (slice_set xs p new) q ≡ slice_get xs q
slice_get-set_other [] p new q other = refl
slice_get-set_other (y ∷ ys) zero new zero other = absurd (other refl)
slice_get-set_other (y ∷ ys) zero new (suc q) other = refl
slice_get-set_other (y ∷ ys) (suc p) new zero other = refl
slice_get-set_other (y ∷ ys) (suc p) new (suc q) other = slice_get-set_other ys p new q (λ e. other (ap suc e))

pub slice_get-set_cases : {A : Type 0} (xs : List A) (p : ℕ) (new : A) (q : ℕ) (x : A)
    → slice_get (slice_set xs p new) q ≡ Some x → ((q ≡ p) × (x ≡ new)) ⊎ ((q ≢ p) × (slice_get xs q ≡ Some x))
slice_get-set_cases [] p new q x at = none_is_no_some at
slice_get-set_cases (y ∷ ys) zero new zero x at = inl (refl, sym (some_inj at))
slice_get-set_cases (y ∷ ys) zero new (suc q) x at = inr (λ e. omega (arith, e), at)
slice_get-set_cases (y ∷ ys) (suc p) new zero x at = inr (λ e. omega (arith, e), at)
slice_get-set_cases (y ∷ ys) (suc p) new (suc q) x at = elim (slice_get-set_cases ys p new q x at) [
  | inl same ↦ inl (ap suc same.0, same.1)
  | inr other ↦ inr (λ e. other.0 (omega (arith, e)), other.1)
]

-- ---- prefixes

pub slice_get-read : {A : Type 0} (xs : List A) (i : ℕ) (x : A) → i < length xs → x ≡ slice_index_or xs i x
    → slice_get xs i ≡ Some x
slice_get-read xs i x inside is = slice_get_read xs (length xs) i x refl inside is

pub take-next : {X : Type 0} (xs : List X) (n : ℕ) (x : X) → slice_get xs n ≡ Some x
    → take (n + 1) xs ≡ take n xs ++ x ∷ []
take-next xs n x at =
    take_more xs n x (slice_get_within xs n x at)
    ∙ ap (λ y. take n xs ++ y ∷ []) (get_or_from_slice_get xs n x x at)

-- a prefix that is one element longer
pub map-take_next : {X Y : Type 0} (f : X → Y) (xs : List X) (i : ℕ) (x : X) → i < length xs → x ≡ slice_index_or xs i x
    → map f (take (i + 1) xs) ≡ map f (take i xs) ++ f x ∷ []
map-take_next f xs i x inside is = ap (map f) (take_more xs i x inside)
    ∙ (map-append f (take i xs) (slice_index_or xs i x ∷ []) ∙ ap (λ y. map f (take i xs) ++ f y ∷ []) (sym is))
