-- Lists of all elements with a property: joined, by an equivalent property, and parts of them.
use Rattle.std.proofs.Common.{◌≡◌, ◌++◌, ◌∷◌, ◌⊎◌, [], inl, inr, Bool, List}
use Rattle.std.specs.Prelude.{Contains, IsTrue, filter}
use Rattle.std.specs.List.Sorted.{IsStrictlySortedBy}
use Rattle.std.specs.declared.cmp.Ordering.{Ordering}
use Rattle.std.specs.declared.cmp.Ordering.TheVariants.{Less}
use Rattle.std.proofs.lemmas.List.Elements.{Contains-append_cases, Contains-append_left, Contains-append_right}
use Rattle.std.proofs.lemmas.List.Kept.{IsStrictlySortedBy-filter}
use Rattle.deny_base_lists.proofs.Each.{all_append, all_from_members}
use Rattle.deny_base_lists.proofs.Members.{Contains-filter, Contains-first, Contains-from_filter, Contains-rest}
use Rattle.deny_base_lists.specs.Ascending.{Lists}

ascends_append : {T : Type 0} (cmp : T → T → Ordering) (xs ys : List T) → IsStrictlySortedBy cmp xs
    → IsStrictlySortedBy cmp ys
    → ((x y : T) → Contains xs x → Contains ys y → cmp x y ≡ Less) → IsStrictlySortedBy cmp (xs ++ ys)
unfolding IsStrictlySortedBy
ascends_append cmp [] ys up vp apart = vp
ascends_append cmp (x ∷ xs) ys up vp apart = (
  all_append (λ z. cmp x z ≡ Less) xs ys up.0 (all_from_members (λ z. cmp x z ≡ Less) ys
      (λ y is. apart x y (Contains-first x xs) is)),
  ascends_append cmp xs ys up.1 vp (λ a b is there. apart a b (Contains-rest x xs a is) there),
)

pub lists_append : {T : Type 0} (cmp : T → T → Ordering) (P Q : T → Type 0) (xs ys : List T) → Lists cmp P xs
    → Lists cmp Q ys
    → ((x y : T) → P x → Q y → cmp x y ≡ Less) → Lists cmp (λ z. P z ⊎ Q z) (xs ++ ys)
lists_append cmp P Q xs ys these those apart = record {
  ascending = ascends_append cmp xs ys these.ascending those.ascending
      (λ x y is there. apart x y (these.sound x is) (those.sound y there));
  whole = λ z is. elim is as (λ _. Contains (xs ++ ys) z) [
    | inl here ↦ Contains-append_left xs ys z (these.whole z here)
    | inr there ↦ Contains-append_right xs ys z (those.whole z there)
  ];
  sound = λ z is. elim (Contains-append_cases xs ys z is) as (λ _. P z ⊎ Q z)
      [ inl here ↦ inl (these.sound z here) | inr there ↦ inr (those.sound z there) ];
}

-- a list of all elements with a property is one of an equivalent property
pub lists_same : {T : Type 0} (cmp : T → T → Ordering) (P Q : T → Type 0) (xs : List T) → Lists cmp P xs
    → ((x : T) → P x → Q x) → ((x : T) → Q x → P x) → Lists cmp Q xs
lists_same cmp P Q xs listed there back = record {
  ascending = listed.ascending;
  whole = λ x is. listed.whole x (back x is);
  sound = λ x is. there x (listed.sound x is);
}

-- the elements of such a list that pass a test are all with the property that pass it
pub lists_part : {T : Type 0} (cmp : T → T → Ordering) (P : T → Type 0) (test : T → Bool) (xs : List T) → Lists cmp P xs
    → Lists cmp (λ x. IsTrue (test x) × P x) (filter test xs)
lists_part cmp P test xs listed = record {
  ascending = IsStrictlySortedBy-filter cmp test xs listed.ascending;
  whole = λ x is. Contains-filter test xs x (listed.whole x is.1) is.0;
  sound = λ x is. let kept = Contains-from_filter test xs x is in (kept.1, listed.sound x kept.0);
}
