-- Distances that are cleared one by one.
use Rattle.std.proofs.Common.{◌≡◌, ◌<◌, ℕ, zero, suc, inl, inr, List, [], ◌∷◌, true, false, Option, None, Some, length}
use Rattle.std.proofs.Common.{refl, sym, ap, ◌∙◌, subst, arith}
use Rattle.std.specs.Prelude.{All, Contains, fold, is_some, slice_set}
use Rattle.std.proofs.lemmas.Bool.{cases_eq, false≢true}
use Rattle.std.proofs.lemmas.List.{length-set, get_or-set_same, get_or-set_other}
use Rattle.std.proofs.lemmas.List.Elements.{All-contains_itself, All-head, All-tail, All-weaker}
use Rattle.deny_base_lists.specs.Walk.{AreThose, has_distance}
use Rattle.deny_base_lists.proofs.Members.{Contains-cases, no_member}
use Rattle.deny_base_lists.proofs.WalkLemmas.{nothing, nowhere}

has_inside : (ds : List (Option ℕ)) (n : ℕ) → has_distance ds n ≡ true → n < length ds
has_inside [] n has = absurd (false≢true has)
has_inside (d ∷ ds) zero has = omega arith
has_inside (d ∷ ds) (suc n) has = omega (arith, has_inside ds n has)

pub those_inside : (ds : List (Option ℕ)) (places : List ℕ) → AreThose ds places
    → All (λ place. place < length ds) places
those_inside ds places those = All-weaker (Contains places) (λ place. place < length ds)
    (λ place is. has_inside ds place ((those.each place).1 is)) places (All-contains_itself places)

abbrev pub unset_at : List (Option ℕ) → ℕ → List (Option ℕ)
unset_at ds place = slice_set ds place None

none_left : (ds : List (Option ℕ)) → ((n : ℕ) → has_distance ds n ≡ true → ⊥) → ds ≡ nowhere (length ds)
none_left [] none = refl
none_left (Some d ∷ ds) none = absurd (none 0 refl)
none_left (None ∷ ds) none = ap (λ rest. nothing ∷ rest) (none_left ds (λ n has. none (suc n) has))

all_taken : (places : List ℕ) (ds : List (Option ℕ)) → All (λ place. place < length ds) places
    → ((n : ℕ) → has_distance ds n ≡ true → Contains places n) → fold unset_at ds places ≡ nowhere (length ds)
all_taken [] ds inside held = none_left ds (λ n has. no_member n (held n has))
all_taken (place ∷ places) ds inside held =
    let long : length (unset_at ds place) ≡ length ds = length-set ds place nothing in
    let tail = All-tail (λ (p : ℕ). p < length ds) place places inside in
    let rest = subst (λ (m : ℕ). All (λ (p : ℕ). p < m) places) (sym long) tail in
    all_taken places (unset_at ds place) rest later ∙ ap nowhere long
  where
    here : place < length ds
    here = All-head (λ (p : ℕ). p < length ds) place places inside

    gone : has_distance (unset_at ds place) place ≡ false
    gone = ap is_some (get_or-set_same ds place nothing nothing here)

    later : (n : ℕ) → has_distance (unset_at ds place) n ≡ true → Contains places n
    later n has = elim (cases_eq n place) as (λ _. Contains places n) [
      | inl same ↦ absurd (false≢true (sym gone ∙ (ap (has_distance (unset_at ds place)) (sym same) ∙ has)))
      | inr other ↦
          let before = held n (sym (ap is_some (get_or-set_other ds place n nothing nothing other)) ∙ has) in
          elim (Contains-cases place places n before) [
            | inl same ↦ absurd (other (sym same))
            | inr is ↦ is
          ]
    ]

pub taken_back : (ds : List (Option ℕ)) (places : List ℕ) → AreThose ds places
    → fold unset_at ds places ≡ nowhere (length ds)
taken_back ds places those = all_taken places ds (those_inside ds places those) (λ n has. (those.each n).0 has)
