-- The consecutive crates of a name in a list that is in the order of names.
use Rattle.deny_base_lists.proofs.Orders.{is_equal, not_both, not_equal_above, not_equal_below}
use Rattle.std.proofs.Common.{inl, inr, ◌+◌, zero, suc, take, drop, ◌≡◌, ◌≤◌, ◌<◌, ℕ, List, [], ◌∷◌, Option, Some, None}
use Rattle.std.proofs.Common.{true, false, length, refl, sym, arith, ◌∙◌, ap}
use Rattle.std.specs.Prelude.{slice_index_or, filter, option_map, slice_get}
use Rattle.std.specs.Option.{option_map_or}
use Rattle.std.proofs.lemmas.Option.{same_Some, slice_get-get_or, slice_get_within}
use Rattle.std.specs.Cmp.Lexicographic.{slice_cmp, texts_ties}
use Rattle.std.specs.Ordering.{is_lt, is_le, is_eq, nat_cmp}
use Rattle.std.proofs.lemmas.Bool.{cases_lt}
use Rattle.std.proofs.Math.Seq.{take-nil, drop-nil}
use Rattle.deny_spec.specs.Groups.{has_name}
use Rattle.deny_spec.specs.Resolution.{passes_at}
use Rattle.deny_spec.specs.Text.{same_text}
use Rattle.deny_krates.proofs.ResolutionLemmas.{crates-at}
use Rattle.deny_krates_graph.specs.Crates.{crate_view, crates_from}
use Rattle.deny_krates_graph.specs.declared.krate.Krate.{Krate}

same_there : (a b : List ℕ) → is_lt (slice_cmp nat_cmp a b) ≡ false → is_le (slice_cmp nat_cmp a b) ≡ true
    → same_text a b ≡ true
same_there a b not_below not_above = texts_ties a b ∙ ap is_eq (is_equal (slice_cmp nat_cmp a b) not_below not_above)

-- where the crates at s and the n after it are those of a name, they are the crates of that name
pub named_run : (name : List ℕ) (place : ℕ) (ks : List Krate) (s n : ℕ) → s + n ≤ length ks
    → ((k : ℕ) (d : Krate) → k < s → is_lt (slice_cmp nat_cmp (slice_index_or ks k d).name name) ≡ true)
    → ((k : ℕ) (d : Krate) → s ≤ k → k < length ks → is_lt (slice_cmp nat_cmp (slice_index_or ks k d).name name)
    ≡ false)
    → ((k : ℕ) (d : Krate) → k < s + n → is_le (slice_cmp nat_cmp (slice_index_or ks k d).name name) ≡ true)
    → ((k : ℕ) (d : Krate) → s + n ≤ k → k < length ks → is_le (slice_cmp nat_cmp (slice_index_or ks k d).name name)
    ≡ false)
    → take n (drop s (crates_from place ks)) ≡ filter (has_name name) (crates_from place ks)
unfolding has_name
named_run name place [] s n room below from upto above = rw (drop-nil, take-nil)
named_run name place (k ∷ ks) zero zero room below from upto above =
    rw (texts_ties k.name name, not_equal_above (slice_cmp nat_cmp k.name name) (above 0 k (omega arith) (omega arith)))
    (named_run name (place + 1) ks 0 0 (omega arith) (λ i d h. absurd (omega (arith, h)))
    (λ i d a b. from (suc i) d (omega arith) (omega (arith, b))) (λ i d h. absurd (omega (arith, h)))
    (λ i d a b. above (suc i) d (omega arith) (omega (arith, b))))
named_run name place (k ∷ ks) zero (suc n) room below from upto above =
    rw (same_there k.name name (from 0 k (omega arith) (omega arith)) (upto 0 k (omega arith)))
    (ap (λ rest. crate_view place k ∷ rest)
    (named_run name (place + 1) ks 0 n (omega (arith, room)) (λ i d h. absurd (omega (arith, h)))
    (λ i d a b. from (suc i) d (omega arith) (omega (arith, b))) (λ i d h. upto (suc i) d (omega (arith, h)))
    (λ i d a b. above (suc i) d (omega (arith, a)) (omega (arith, b)))))
named_run name place (k ∷ ks) (suc s) n room below from upto above =
    rw (texts_ties k.name name, not_equal_below (slice_cmp nat_cmp k.name name) (below 0 k (omega arith)))
    (named_run name (place + 1) ks s n (omega (arith, room)) (λ i d h. below (suc i) d (omega (arith, h)))
    (λ i d a b. from (suc i) d (omega (arith, a)) (omega (arith, b))) (λ i d h. upto (suc i) d (omega (arith, h)))
    (λ i d a b. above (suc i) d (omega (arith, a)) (omega (arith, b))))

-- the first above a name does not come before the first that is not below it
pub upward : (name : List ℕ) (ks : List Krate) (s e : ℕ) → s ≤ length ks
    → ((k : ℕ) (d : Krate) → k < s → is_lt (slice_cmp nat_cmp (slice_index_or ks k d).name name) ≡ true)
    → ((k : ℕ) (d : Krate) → e ≤ k → k < length ks → is_le (slice_cmp nat_cmp (slice_index_or ks k d).name name)
    ≡ false)
    → s ≤ e
upward name [] s e room below above = omega (arith, room)
upward name (k ∷ ks) s e room below above = elim (cases_lt e s) as (λ _. s ≤ e) [
  | inl past ↦ absurd (not_both (slice_cmp nat_cmp (slice_index_or (k ∷ ks) e k).name name) (below e k past)
      (above e k (omega arith) (omega (arith, past, room))))
  | inr before ↦ before
]

-- a crate of a name is among them
pub named_inside : (name : List ℕ) (ks : List Krate) (s e place : ℕ)
    → ((k : ℕ) (d : Krate) → k < s → is_lt (slice_cmp nat_cmp (slice_index_or ks k d).name name) ≡ true)
    → ((k : ℕ) (d : Krate) → e ≤ k → k < length ks → is_le (slice_cmp nat_cmp (slice_index_or ks k d).name name)
    ≡ false)
    → passes_at (has_name name) (crates_from 0 ks) place ≡ true → (s ≤ place) × (place < e)
unfolding has_name
named_inside name ks s e place below above passes = by_crate (slice_get ks place) refl
    (ap (λ o. option_map_or (has_name name) o false) (sym (crates-at ks place)) ∙ passes)
  where
    is_equal_there : (k : Krate) → slice_get ks place ≡ Some k → same_text k.name name ≡ true
        → is_eq (slice_cmp nat_cmp (slice_index_or ks place k).name name) ≡ true
    is_equal_there k at same = ap (λ (j : Krate). is_eq (slice_cmp nat_cmp j.name name))
        (same_Some (slice_index_or ks place k) k
        (sym (slice_get-get_or ks place k (slice_get_within ks place k at)) ∙ at))
        ∙ (sym (texts_ties k.name name) ∙ same)

    true-false : true ≡ false → ⊥
    true-false e = absurd (cc)

    by_crate : (o : Option Krate) → slice_get ks place ≡ o
        → option_map_or (has_name name) (option_map (crate_view place) o) false ≡ true → (s ≤ place) × (place < e)
    by_crate None at is = absurd (true-false (sym is))
    by_crate (Some k) at is = (
      elim (cases_lt place s) as (λ _. s ≤ place) [
        | inl before ↦ absurd (true-false (sym (is_equal_there k at is)
            ∙ not_equal_below (slice_cmp nat_cmp (slice_index_or ks place k).name name) (below place k before)))
        | inr not_before ↦ not_before
      ],
      elim (cases_lt place e) as (λ _. place < e) [
        | inl before ↦ before
        | inr past ↦ absurd (true-false (sym (is_equal_there k at is)
            ∙ not_equal_above (slice_cmp nat_cmp (slice_index_or ks place k).name name)
            (above place k past (slice_get_within ks place k at))))
      ],
    )
