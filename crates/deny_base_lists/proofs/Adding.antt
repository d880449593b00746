-- A list gains elements step by step.
use Rattle.std.proofs.Common.{List, [], ap, append-nil, get_or, inl, inr, length, subst, sym, take, ℕ, ◌++◌, ◌+◌, ◌<◌}
use Rattle.std.proofs.Common.{◌∙◌, ◌∷◌, ◌≡◌, ◌≤◌, ◌⊎◌}
use Rattle.std.specs.List.{flat_map}
use Rattle.std.specs.Prelude.{Contains}
use Rattle.std.specs.declared.cmp.Ordering.{Ordering}
use Rattle.std.proofs.lemmas.Grind.{flat_map-append}
use Rattle.std.proofs.lemmas.List.{take_all, take_more}
use Rattle.std.proofs.lemmas.List.Elements.{Contains-append_cases, Contains-append_left, Contains-append_right}
use Rattle.deny_base_lists.proofs.Members.{no_member, there}
use Rattle.deny_base_lists.specs.Ascending.{Adds, Lists}

pub adds_list : {T : Type 0} (old new added : List T) → new ≡ old ++ added → Adds (Contains added) old new
adds_list {T} old new added is = record {
  kept = λ x holds. subst (λ (xs : List T). Contains xs x) (sym is) (Contains-append_left old added x holds);
  whole = λ x holds. subst (λ (xs : List T). Contains xs x) (sym is) (Contains-append_right old added x holds);
  sound = λ x holds. Contains-append_cases old added x (subst (λ (xs : List T). Contains xs x) is holds);
}

-- a fact replaced by an equivalent one
pub adds_same : {T : Type 0} (P Q : T → Type 0) (old new : List T) → Adds P old new → ((x : T) → P x → Q x)
    → ((x : T) → Q x → P x) → Adds Q old new
adds_same P Q old new adds there back = record {
  kept = adds.kept;
  whole = λ x is. adds.whole x (back x is);
  sound = λ x holds. elim (adds.sound x holds) as (λ _. Contains old x ⊎ Q x)
      [ inl before ↦ inl before | inr is ↦ inr (there x is) ];
}

-- two additions to a list, one after the other
pub adds_then : {T : Type 0} (P Q : T → Type 0) (old mid new : List T) → Adds P old mid → Adds Q mid new
    → Adds (λ x. P x ⊎ Q x) old new
adds_then P Q old mid new first second = record {
  kept = λ x is. second.kept x (first.kept x is);
  whole = λ x is. elim is as (λ _. Contains new x)
      [ inl here ↦ second.kept x (first.whole x here) | inr there ↦ second.whole x there ];
  sound = λ x is. elim (second.sound x is) as (λ _. Contains old x ⊎ (P x ⊎ Q x)) [
    | inr there ↦ inr (inr there)
    | inl before ↦ elim (first.sound x before) as (λ _. Contains old x ⊎ (P x ⊎ Q x))
        [ inl old ↦ inl old | inr here ↦ inr (inl here) ]
  ];
}

pub adds_both : {T : Type 0} (one two : List T) (old mid new : List T) → Adds (Contains one) old mid
    → Adds (Contains two) mid new → Adds (Contains (one ++ two)) old new
adds_both one two old mid new first second =
    adds_same (λ x. Contains one x ⊎ Contains two x) (Contains (one ++ two)) old new
    (adds_then (Contains one) (Contains two) old mid new first second)
    (λ x is. elim is as (λ _. Contains (one ++ two) x)
    [ inl here ↦ Contains-append_left one two x here | inr there ↦ Contains-append_right one two x there ])
    (λ x is. Contains-append_cases one two x is)

-- a loop that adds what each element gives
pub adds_each_more : {X T : Type 0} (f : X → List T) (xs : List X) (x : X) (i : ℕ) (old mid new : List T)
    → i < length xs → x ≡ get_or xs i x
    → Adds (Contains (flat_map f (take i xs))) old mid → Adds (Contains (f x)) mid new
    → Adds (Contains (flat_map f (take (i + 1) xs))) old new
adds_each_more {X} {T} f xs x i old mid new inside is before here =
    let more : take (i + 1) xs ≡ take i xs ++ x ∷ [] = take_more xs i x inside
    ∙ ap (λ y. take i xs ++ y ∷ []) (sym is) in
    let each : flat_map f (take (i + 1) xs) ≡ flat_map f (take i xs) ++ f x =
    ap (flat_map f) more ∙ (flat_map-append f (take i xs) (x ∷ [])
    ∙ ap (λ ys. flat_map f (take i xs) ++ ys) (append-nil (f x))) in
    subst (λ (ys : List T). Adds (Contains ys) old new) (sym each)
    (adds_both (flat_map f (take i xs)) (f x) old mid new before here)

pub adds_each_all : {X T : Type 0} (f : X → List T) (xs : List X) (i : ℕ) (old new : List T) → length xs ≤ i
    → Adds (Contains (flat_map f (take i xs))) old new → Adds (Contains (flat_map f xs)) old new
adds_each_all {X} {T} f xs i old new past adds = subst (λ (ys : List X). Adds (Contains (flat_map f ys)) old new)
    (take_all i xs past) adds

-- what was added to the empty list, put in order
pub lists_added : {T : Type 0} (cmp : T → T → Ordering) (P : T → Type 0) (old new : List T) → Adds P [] old
    → Lists cmp (Contains old) new → Lists cmp P new
lists_added cmp P old new adds listed = record {
  ascending = listed.ascending;
  whole = λ x is. listed.whole x (adds.whole x is);
  sound = λ x holds. elim (adds.sound x (listed.sound x holds)) as (λ _. P x)
      [ inl none ↦ absurd (no_member x none) | inr is ↦ is ];
}
