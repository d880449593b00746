-- Marks that are set and cleared at an index.
use Rattle.std.proofs.Common.{◌≡◌, ◌≢◌, ℕ, zero, suc, ◌+◌, ◌<◌, ◌≤◌, List, [], ◌∷◌, ◌++◌, length, take, set, replicate}
use Rattle.std.proofs.Common.{Bool, true, false, refl, sym, ap, subst, inl, inr, ◌∙◌, arith, rules, append-nil}
use Rattle.std.proofs.Common.{append_assoc, get_or}
use Rattle.std.specs.Prelude.{◌⊎◌, Contains}
use Rattle.std.proofs.lemmas.Bool.{cases_eq, false≢true}
use Rattle.std.proofs.lemmas.List.{length_push, take_more, get_or-set_same, get_or-set_other, get_or_default}
use Rattle.std.proofs.lemmas.List.Elements.{Contains-push, Contains-push_cases, Contains-append_left}
use Rattle.deny_base_lists.proofs.Members.{contains_none}
use Rattle.deny_globs.specs.private.Marked.{marks_in, IsMarked, Extends, Marks, MarksIf}

pub contains_in : {A : Type 0} {old new : List A} {x : A} → new ≡ old → Contains new x → Contains old x
contains_in {A} {old} {new} {x} e h = subst (λ l. Contains l x) e h

none_at : (n i : ℕ) → get_or (replicate n false) i false ≡ false
none_at zero i = search rules
none_at (suc n) zero = refl
none_at (suc n) (suc i) = none_at n i

none_in : (n : ℕ) → marks_in (replicate n false) ≡ 0
none_in zero = refl
none_in (suc n) = none_in n

pub marked_none : (n : ℕ) → IsMarked [] (replicate n false)
marked_none n = record {
  each = λ i. (contains_none, λ e. absurd (false≢true (sym (none_at n i) ∙ e)));
  once = sym (none_in n);
}

set_in : (marks : List Bool) (i : ℕ) → i < length marks → get_or marks i false ≡ false
    → marks_in (set marks i true) ≡ suc (marks_in marks)
set_in [] i p e = absurd (omega arith)
set_in (true ∷ marks) zero p e = absurd (false≢true (sym e))
set_in (false ∷ marks) zero p e = refl
set_in (true ∷ marks) (suc i) p e = ap suc (set_in marks i (omega arith) e)
set_in (false ∷ marks) (suc i) p e = set_in marks i (omega arith) e

pub marked_more : {order : List ℕ} {marks : List Bool} {n : ℕ} → IsMarked order marks → n < length marks
    → get_or marks n false ≡ false → IsMarked (order ++ n ∷ []) (set marks n true)
marked_more {order} {marks} {n} is p fresh = record {
  each = λ i. (λ h. to i (Contains-push_cases order n i h), from i);
  once = omega (arith, length_push order n, is.once, set_in marks n p fresh);
} where
  to : (i : ℕ) → Contains order i ⊎ (n ≡ i) → get_or (set marks n true) i false ≡ true
  to i (inr e) = subst (λ k. get_or (set marks n true) k false ≡ true) e (get_or-set_same marks n true false p)
  to i (inl h) = elim (cases_eq i n) [
    | inl e ↦ subst (λ k. get_or (set marks n true) k false ≡ true) (sym e) (get_or-set_same marks n true false p)
    | inr other ↦ get_or-set_other marks n i true false other ∙ (is.each i).0 h
  ]

  from : (i : ℕ) → get_or (set marks n true) i false ≡ true → Contains (order ++ n ∷ []) i
  from i e = elim (cases_eq i n) [
    | inl same ↦ subst (λ k. Contains (order ++ n ∷ []) k) (sym same) (Contains-push order n)
    | inr other ↦ Contains-append_left order (n ∷ []) i
        ((is.each i).1 (sym (get_or-set_other marks n i true false other) ∙ e))
  ]

pub extends_same : (order : List ℕ) → Extends order order
extends_same order = record { more = []; whole = sym (append-nil order) }

pub extends_on : {old mid new : List ℕ} → Extends old mid → Extends mid new → Extends old new
extends_on {old} a b = record {
  more = a.more ++ b.more;
  whole = b.whole ∙ ap (λ l. l ++ b.more) a.whole ∙ append_assoc old a.more b.more;
}

pub extended_contains : {old new : List ℕ} {x : ℕ} → Extends old new → Contains old x → Contains new x
extended_contains {old} {new} {x} e h = subst (λ l. Contains l x) (sym e.whole) (Contains-append_left old e.more x h)

pub marks_new : {order new : List ℕ} {n : ℕ} → new ≡ order ++ n ∷ [] → Marks n order new
marks_new {order} {new} {n} e = record {
  extends = record { more = n ∷ []; whole = e };
  is_there = subst (λ l. Contains l n) (sym e) (Contains-push order n);
  only = λ i h. only i (Contains-push_cases order n i (subst (λ l. Contains l i) e h));
} where
  only : (i : ℕ) → Contains order i ⊎ (n ≡ i) → Contains order i ⊎ (i ≡ n)
  only i (inl h) = inl h
  only i (inr h) = inr (sym h)

pub marks_if_yes : {test : Bool} {n : ℕ} {old new : List ℕ} → test ≡ true → Marks n old new → MarksIf test n old new
marks_if_yes {test} {n} {old} {new} is_yes m = record {
  extends = m.extends;
  is_there = λ _. m.is_there;
  only = λ i h. only i (m.only i h);
} where
  only : (i : ℕ) → Contains old i ⊎ (i ≡ n) → Contains old i ⊎ ((test ≡ true) × (i ≡ n))
  only i (inl h) = inl h
  only i (inr e) = inr (is_yes, e)

pub marks_at_most : (marks : List Bool) → marks_in marks ≤ length marks
marks_at_most [] = omega arith
marks_at_most (true ∷ marks) = omega (arith, marks_at_most marks)
marks_at_most (false ∷ marks) = omega (arith, marks_at_most marks)

none_marked : (marks : List Bool) → ((i : ℕ) → get_or marks i false ≡ false) → marks_in marks ≡ 0
none_marked [] h = refl
none_marked (true ∷ marks) h = absurd (false≢true (sym (h 0)))
none_marked (false ∷ marks) h = none_marked marks (λ i. h (suc i))

pub marked_cleared : (marks : List Bool) → ((i : ℕ) → get_or marks i false ≡ false) → IsMarked [] marks
marked_cleared marks h = record {
  each = λ i. (contains_none, λ e. absurd (false≢true (sym (h i) ∙ e)));
  once = sym (none_marked marks h);
}

pub marked_inside : (marks : List Bool) (i : ℕ) → get_or marks i false ≡ true → i < length marks
marked_inside [] i e = cc
marked_inside (b ∷ bs) zero e = omega arith
marked_inside (b ∷ bs) (suc i) e = omega (arith, marked_inside bs i e)

-- ---- the loop that clears marks: a state that is still marked is listed at this index or after it
pub record IsListedFrom (k : ℕ) (order : List ℕ) (number : ℕ) : Type 0 where
  pub index : ℕ
  pub from : k ≤ index
  pub inside : index < length order
  pub is : get_or order index number ≡ number

pub listed_from_start : {order : List ℕ} {number : ℕ} → Contains order number → IsListedFrom 0 order number
listed_from_start h = record { index = h.0; from = omega arith; inside = h.1; is = h.2 }

listed_at_end : {order : List ℕ} (k : ℕ) {number : ℕ} {P : Type 0} → length order ≤ k → IsListedFrom k order number
    → P
listed_at_end k p l = absurd (omega (arith, l.from, l.inside))

pub clears_more : {order : List ℕ} (marks : List Bool) (k n : ℕ) → k < length order → n ≡ get_or order k 0
    → n < length marks → ((i : ℕ) → get_or marks i false ≡ true → IsListedFrom k order i) →
    (i : ℕ) → get_or (set marks n false) i false ≡ true → IsListedFrom (k + 1) order i
clears_more {order} marks k n less is p h i e = elim (cases_eq i n) [
  | inl same ↦ absurd (false≢true
      (sym (subst (λ j. get_or (set marks n false) j false ≡ false) (sym same) (get_or-set_same marks n false false p))
      ∙ e))
  | inr other ↦ later (h i (sym (get_or-set_other marks n i false false other) ∙ e)) other
] where
  later : IsListedFrom k order i → i ≢ n → IsListedFrom (k + 1) order i
  later l other = elim (cases_eq l.index k) [
    | inl here ↦ absurd (other
        (sym (is ∙ get_or_default order k 0 i less ∙ subst (λ j. get_or order j i ≡ i) here l.is)))
    | inr behind ↦ record { index = l.index; from = omega (arith, l.from, behind); inside = l.inside; is = l.is }
  ]

pub none_left : {order : List ℕ} (marks : List Bool) (k : ℕ) → length order ≤ k
    → ((i : ℕ) → get_or marks i false ≡ true → IsListedFrom k order i) → (i : ℕ) → get_or marks i false ≡ false
none_left {order} marks k all listed i = go (get_or marks i false) refl where
  go : (test : Bool) → get_or marks i false ≡ test → get_or marks i false ≡ false
  go true e = listed_at_end k all (listed i e)
  go false e = e

pub marks_same : {test same : Bool} {n : ℕ} {old new : List ℕ} → test ≡ same → MarksIf test n old new
    → MarksIf same n old new
marks_same {n = n} {old = old} {new = new} e m = subst (λ t. MarksIf t n old new) e m

pub starts_only : (starts : List ℕ) {now later : List ℕ} {n : ℕ} → ((i : ℕ) → Contains now i → Contains starts i)
    → Contains starts n → Marks n now later → (i : ℕ) → Contains later i → Contains starts i
starts_only starts {now} {later} {n} old is m i h = go (m.only i h) where
  go : Contains now i ⊎ (i ≡ n) → Contains starts i
  go (inl k) = old i k
  go (inr e) = subst (λ k. Contains starts k) (sym e) is

pub starts_all : (starts : List ℕ) {now later : List ℕ} (k n : ℕ) → k < length starts → n ≡ get_or starts k 0
    → ((i : ℕ) → Contains (take k starts) i → Contains now i) → Marks n now later → (i : ℕ)
    → Contains (take (k + 1) starts) i → Contains later i
starts_all starts {now} {later} k n less is old m i h =
    go (Contains-push_cases (take k starts) n i (subst (λ l. Contains l i) more h)) where
      more : take (k + 1) starts ≡ take k starts ++ n ∷ []
      more = take_more starts k 0 less ∙ ap (λ x. take k starts ++ x ∷ []) (sym is)

      go : Contains (take k starts) i ⊎ (n ≡ i) → Contains later i
      go (inl c) = extended_contains m.extends (old i c)
      go (inr e) = subst (λ x. Contains later x) e m.is_there

pub take_all : {A : Type 0} (xs : List A) (k : ℕ) → length xs ≤ k → take k xs ≡ xs
take_all [] zero p = refl
take_all [] (suc k) p = refl
take_all (x ∷ xs) zero p = absurd (omega (arith, p))
take_all (x ∷ xs) (suc k) p = ap (λ l. x ∷ l) (take_all xs k (omega (arith, p)))
