-- Lists with one more item at an index, and records that stay in the order of their names.
use Rattle.std.proofs.Common.{◌≡◌, ℕ, zero, suc, ◌<◌, ◌≤◌, List, [], ◌∷◌, length, map, refl, sym, ap, inl, inr, ◌∙◌}
use Rattle.std.proofs.Common.{subst, arith}
use Rattle.std.specs.Prelude.{◌⊎◌, Some, slice_get, slice_set, insert}
use Rattle.std.specs.List.{AllByRecursion}
use Rattle.std.specs.List.Sorted.{IsStrictlySortedBy}
use Rattle.std.specs.Ordering.{nat_cmp}
use Rattle.std.specs.declared.cmp.Ordering.TheVariants.{Less}
use Rattle.std.specs.Cmp.Lexicographic.{slice_cmp}
use Rattle.deny_base_lists.specs.Search.{Ascend, IsGap}
use Rattle.deny_base_lists.proofs.Options.{some_inj, none_is_no_some}

pub get_inserted : {A : Type 0} (xs : List A) (p : ℕ) (y : A) (q : ℕ) (x : A)
    → slice_get (insert xs p y) q ≡ Some x → (x ≡ y) ⊎ ((r : ℕ) × (slice_get xs r ≡ Some x))
get_inserted [] zero y zero x at = inl (sym (some_inj at))
get_inserted [] zero y (suc q) x at = cc
get_inserted [] (suc p) y zero x at = inl (sym (some_inj at))
get_inserted [] (suc p) y (suc q) x at = cc
get_inserted (z ∷ zs) zero y zero x at = inl (sym (some_inj at))
get_inserted (z ∷ zs) zero y (suc q) x at = inr (q, at)
get_inserted (z ∷ zs) (suc p) y zero x at = inr (0, at)
get_inserted (z ∷ zs) (suc p) y (suc q) x at = elim (get_inserted zs p y q x at) [
  | inl same ↦ inl same
  | inr old ↦ inr (suc old.0, old.1)
]

pub inserted_here : {A : Type 0} (xs : List A) (p : ℕ) (y : A) → p ≤ length xs
    → slice_get (insert xs p y) p ≡ Some y
inserted_here [] zero y inside = refl
inserted_here [] (suc p) y inside = absurd (omega (arith, inside))
inserted_here (x ∷ xs) zero y inside = refl
inserted_here (x ∷ xs) (suc p) y inside = inserted_here xs p y (omega (arith, inside))

pub inserted_other : {A : Type 0} (xs : List A) (p : ℕ) (y : A) (r : ℕ) (x : A) → slice_get xs r ≡ Some x
    → (q : ℕ) × (slice_get (insert xs p y) q ≡ Some x)
inserted_other [] p y r x at = none_is_no_some at
inserted_other (z ∷ zs) zero y r x at = (suc r, at)
inserted_other (z ∷ zs) (suc p) y zero x at = (0, at)
inserted_other (z ∷ zs) (suc p) y (suc r) x at = let o = inserted_other zs p y r x at in (suc o.0, o.1)

-- the names of a list ascend where a record is inserted into a gap, and where one is set that has the same name

all_names : {T : Type 0} (name_of : T → List ℕ) (P : List ℕ → Type 0) (xs : List T)
    → ((j : ℕ) (e : T) → slice_get xs j ≡ Some e → P (name_of e)) → AllByRecursion P (map name_of xs)
all_names name_of P [] h = tt
all_names name_of P (x ∷ xs) h = (h 0 x refl, all_names name_of P xs (λ j e at. h (suc j) e at))

all_inserted : {T : Type 0} (name_of : T → List ℕ) (P : List ℕ → Type 0) (xs : List T) (i : ℕ) (y : T)
    → AllByRecursion P (map name_of xs) → P (name_of y) → AllByRecursion P (map name_of (insert xs i y))
all_inserted name_of P [] zero y all p = (p, tt)
all_inserted name_of P [] (suc i) y all p = (p, tt)
all_inserted name_of P (x ∷ xs) zero y all p = (p, all)
all_inserted name_of P (x ∷ xs) (suc i) y all p = (all.0, all_inserted name_of P xs i y all.1 p)

ascend_between : {T : Type 0} (name_of : T → List ℕ) (xs : List T) (i : ℕ) (y : T) → Ascend name_of xs
    → ((j : ℕ) (e : T) → j < i → slice_get xs j ≡ Some e → slice_cmp nat_cmp (name_of e) (name_of y) ≡ Less)
    → ((j : ℕ) (e : T) → i ≤ j → slice_get xs j ≡ Some e → slice_cmp nat_cmp (name_of y) (name_of e) ≡ Less)
    → Ascend name_of (insert xs i y)
unfolding IsStrictlySortedBy
ascend_between name_of [] zero y up below above = (tt, tt)
ascend_between name_of [] (suc i) y up below above = (tt, tt)
ascend_between name_of (x ∷ xs) zero y up below above = (
  all_names name_of (λ n. slice_cmp nat_cmp (name_of y) n ≡ Less) (x ∷ xs) (λ j e at. above j e (omega arith) at),
  up,
)
ascend_between name_of (x ∷ xs) (suc i) y up below above = (
  all_inserted name_of (λ n. slice_cmp nat_cmp (name_of x) n ≡ Less) xs i y up.0 (below 0 x (omega arith) refl),
  ascend_between name_of xs i y up.1 (λ j e p at. below (suc j) e (omega (arith, p)) at)
      (λ j e p at. above (suc j) e (omega (arith, p)) at),
)

pub ascend_inserted : {T : Type 0} (name_of : T → List ℕ) (xs : List T) (i : ℕ) (y : T) → Ascend name_of xs
    → IsGap name_of xs (name_of y) i → Ascend name_of (insert xs i y)
ascend_inserted name_of xs i y up gap = ascend_between name_of xs i y up gap.below gap.above

pub ascend_none : {T : Type 0} (name_of : T → List ℕ) → Ascend name_of []
unfolding IsStrictlySortedBy
ascend_none name_of = tt

names_set : {T : Type 0} (name_of : T → List ℕ) (xs : List T) (p : ℕ) (e new : T) → slice_get xs p ≡ Some e
    → name_of new ≡ name_of e → map name_of (slice_set xs p new) ≡ map name_of xs
names_set name_of [] p e new at same = refl
names_set name_of (x ∷ xs) zero e new at same =
    ap (λ n. n ∷ map name_of xs) (same ∙ ap name_of (sym (some_inj at)))
names_set name_of (x ∷ xs) (suc p) e new at same = ap (λ ns. name_of x ∷ ns) (names_set name_of xs p e new at same)

pub ascend_set : {T : Type 0} (name_of : T → List ℕ) (xs : List T) (p : ℕ) (e new : T) → slice_get xs p ≡ Some e
    → name_of new ≡ name_of e → Ascend name_of xs → Ascend name_of (slice_set xs p new)
ascend_set name_of xs p e new at same up =
    subst (IsStrictlySortedBy (slice_cmp nat_cmp)) (sym (names_set name_of xs p e new at same)) up
