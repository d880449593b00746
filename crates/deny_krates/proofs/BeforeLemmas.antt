-- Slices of a list that ascends by two numbers.
use Rattle.std.proofs.Common.{◌≡◌, ◌<◌, ◌≤◌, ◌+◌, ◌-◌, ◌∙◌, ◌⊎◌, ℕ, zero, suc, inl, inr, List, [], ◌∷◌, Bool, true}
use Rattle.std.proofs.Common.{false, length, drop, take, refl, sym, ap, subst, arith}
use Rattle.std.specs.Prelude.{◌==◌, ◌&&◌, filter, nat_lt, not, slice_index_or}
use Rattle.std.specs.List.Sorted.{IsPartitionPoint, IsPartitionedBy, IsStrictlySortedBy}
use Rattle.std.specs.FinMap.{nat_cmp-IsAntisymmetric}
use Rattle.std.specs.Ordering.{nat_cmp, on, ordering_then, then_cmp}
use Rattle.std.specs.declared.cmp.Ordering.{Ordering}
use Rattle.std.specs.declared.cmp.Ordering.TheVariants.{Less, Equal, Greater}
use Rattle.std.proofs.Math.Seq.{take-nil, drop-nil}
use Rattle.std.proofs.lemmas.Bool.{and_from, and_parts, cases_eq, cases_lt, eq-eqb, eqb-true, lt-ltb, ltb-true}
use Rattle.std.proofs.lemmas.Bool.{or_cases, or_left, or_right}
use Rattle.std.proofs.lemmas.Option.{slice_get-get_or}
use Rattle.deny_base_lists.proofs.Orders.{below_or_tie}
use Rattle.deny_base_lists.proofs.Sorted.{ascends_at}
use Rattle.deny_base_lists.proofs.Numbers.{less_from_nat_cmp}
use Rattle.deny_krates.specs.private.Resolved.{is_before}

-- where the items before s, and those at s and the n after it, are parted by two tests, the latter are those that pass
-- the second test and not the first
between_run : {A : Type 0} (p q : A → Bool) (xs : List A) (s n : ℕ) → s + n ≤ length xs
    → ((k : ℕ) (d : A) → k < s → p (slice_index_or xs k d) ≡ true)
    → ((k : ℕ) (d : A) → s ≤ k → k < length xs → p (slice_index_or xs k d) ≡ false)
    → ((k : ℕ) (d : A) → k < s + n → q (slice_index_or xs k d) ≡ true)
    → ((k : ℕ) (d : A) → s + n ≤ k → k < length xs → q (slice_index_or xs k d) ≡ false)
    → take n (drop s xs) ≡ filter (λ x. not (p x) && q x) xs
between_run p q [] s n room below from upto above = rw (drop-nil, take-nil) refl
between_run p q (x ∷ xs) zero zero room below from upto above =
    rw (from 0 x (omega arith) (omega arith), above 0 x (omega arith) (omega arith))
    (between_run p q xs 0 0 (omega arith) (λ i d h. absurd (omega (arith, h)))
    (λ i d a b. from (suc i) d (omega arith) (omega (arith, b))) (λ i d h. absurd (omega (arith, h)))
    (λ i d a b. above (suc i) d (omega arith) (omega (arith, b))))
between_run p q (x ∷ xs) zero (suc n) room below from upto above =
    rw (from 0 x (omega arith) (omega arith), upto 0 x (omega arith))
    (ap (λ rest. x ∷ rest)
    (between_run p q xs 0 n (omega (arith, room)) (λ i d h. absurd (omega (arith, h)))
    (λ i d a b. from (suc i) d (omega arith) (omega (arith, b))) (λ i d h. upto (suc i) d (omega (arith, h)))
    (λ i d a b. above (suc i) d (omega (arith, a)) (omega (arith, b)))))
between_run p q (x ∷ xs) (suc s) n room below from upto above =
    rw (below 0 x (omega arith))
    (between_run p q xs s n (omega (arith, room)) (λ i d h. below (suc i) d (omega (arith, h)))
    (λ i d a b. from (suc i) d (omega (arith, a)) (omega (arith, b))) (λ i d h. upto (suc i) d (omega (arith, h)))
    (λ i d a b. above (suc i) d (omega (arith, a)) (omega (arith, b))))

-- the second point does not come before the first, where the first test implies the second
between_upward : {A : Type 0} (p q : A → Bool) (xs : List A) (s e : ℕ) → ((x : A) → p x ≡ true → q x ≡ true)
    → s ≤ length xs → ((k : ℕ) (d : A) → k < s → p (slice_index_or xs k d) ≡ true)
    → ((k : ℕ) (d : A) → e ≤ k → k < length xs → q (slice_index_or xs k d) ≡ false) → s ≤ e
between_upward p q [] s e implies room below above = omega (arith, room)
between_upward p q (x ∷ xs) s e implies room below above = elim (cases_lt e s) as (λ _. s ≤ e) [
  | inl past ↦ absurd (true-false (sym (implies (slice_index_or (x ∷ xs) e x) (below e x past))
      ∙ above e x (omega arith) (omega (arith, past, room))))
  | inr before ↦ before
]
  where
    true-false : true ≡ false → ⊥
    true-false e = absurd (cc)

-- a pair of numbers before another
pub from_before : (a b c d : ℕ) → is_before a b c d ≡ true → (a < c) ⊎ ((a ≡ c) × (b < d))
unfolding is_before
from_before a b c d is = elim (or_cases (nat_lt a c) ((a == c) && nat_lt b d) is) as
    (λ _. (a < c) ⊎ ((a ≡ c) × (b < d))) [
      | inl less ↦ inl (ltb-true a c less)
      | inr tie ↦ let parts = and_parts (a == c) (nat_lt b d) tie in
          inr (eqb-true a c parts.0, ltb-true b d parts.1)
    ]

pub to_before : (a b c d : ℕ) → (a < c) ⊎ ((a ≡ c) × (b < d)) → is_before a b c d ≡ true
unfolding is_before
to_before a b c d (inl less) = or_left (nat_lt a c) ((a == c) && nat_lt b d) (lt-ltb a c less)
to_before a b c d (inr tie) = or_right (nat_lt a c) ((a == c) && nat_lt b d)
    (and_from (a == c) (nat_lt b d) (eq-eqb a c tie.0) (lt-ltb b d tie.1))

pub before_later : (a b c d e : ℕ) → d ≤ e → is_before a b c d ≡ true → is_before a b c e ≡ true
before_later a b c d e up is = elim (from_before a b c d is) as (λ _. is_before a b c e ≡ true) [
  | inl less ↦ to_before a b c e (inl less)
  | inr tie ↦ let further : b < e = omega (arith, up, tie.1) in to_before a b c e (inr (tie.0, further))
]

tie_is : (a b : ℕ) → nat_cmp a b ≡ Equal → a ≡ b
tie_is a b tie = nat_cmp-IsAntisymmetric a b tie

-- where the first of two orders ties, the second decides
after_tie : (o p : Ordering) → ordering_then o p ≡ Less → o ≡ Equal → p ≡ Less
after_tie Less p is tie = cc
after_tie Equal p is tie = is
after_tie Greater p is tie = cc

-- the items before a pair of numbers are a prefix of the list
pub partitioned_before : {A : Type 0} (one two : A → ℕ) (rest : A → A → Ordering) (xs : List A) (a b : ℕ)
    → IsStrictlySortedBy (then_cmp (on one nat_cmp) (then_cmp (on two nat_cmp) rest)) xs
    → IsPartitionedBy (λ x. is_before (one x) (two x) a b) xs
partitioned_before {A} one two rest xs a b up i j d below inside holds = elim (cases_eq i j) as
    (λ _. is_before (one (slice_index_or xs i d)) (two (slice_index_or xs i d)) a b ≡ true) [
      | inl same ↦ subst (λ (k : ℕ). is_before (one (slice_index_or xs k d)) (two (slice_index_or xs k d)) a b ≡ true)
          (sym same) holds
      | inr differ ↦
          let x = slice_index_or xs i d in
          let y = slice_index_or xs j d in
          let less = ascends_at (then_cmp (on one nat_cmp) (then_cmp (on two nat_cmp) rest)) xs i j x y up
          (omega (arith, below, differ)) (slice_get-get_or xs i d (omega (arith, below, inside)))
          (slice_get-get_or xs j d inside) in
          earlier (one x) (two x) (one y) (two y) (rest x y) less holds
    ]
  where
    earlier : (m n k l : ℕ) (r : Ordering) → ordering_then (nat_cmp m k) (ordering_then (nat_cmp n l) r) ≡ Less
        → is_before k l a b ≡ true → is_before m n a b ≡ true
    earlier m n k l r less later = elim (from_before k l a b later) as (λ _. is_before m n a b ≡ true) [
      | inl k_below ↦ elim (below_or_tie (nat_cmp m k) _ less) as (λ _. is_before m n a b ≡ true) [
        | inl m_below ↦ let lower =
            less_from_nat_cmp m k m_below in to_before m n a b (inl (omega (arith, lower, k_below)))
        | inr tie ↦ let same = tie_is m k tie in to_before m n a b (inl (omega (arith, same, k_below)))
      ]
      | inr k_tie ↦ elim (below_or_tie (nat_cmp m k) _ less) as (λ _. is_before m n a b ≡ true) [
        | inl m_below ↦ let lower = less_from_nat_cmp m k m_below in
            to_before m n a b (inl (omega (arith, lower, k_tie.0)))
        | inr tie ↦ elim (below_or_tie (nat_cmp n l) r (after_tie (nat_cmp m k) _ less tie)) as
            (λ _. is_before m n a b ≡ true) [
              | inl n_below ↦ let lower = less_from_nat_cmp n l n_below in
                  to_before m n a b (inr (tie_is m k tie ∙ k_tie.0, omega (arith, lower, k_tie.1)))
              | inr n_tie ↦ let same = tie_is n l n_tie in
                  to_before m n a b (inr (tie_is m k tie ∙ k_tie.0, omega (arith, same, k_tie.1)))
            ]
      ]
    ]

-- the items between two partition points
pub run_between : {A : Type 0} (p q : A → Bool) (xs : List A) (s e : ℕ) → ((x : A) → p x ≡ true → q x ≡ true)
    → s ≤ length xs → e ≤ length xs
    → IsPartitionPoint (λ x. p x ≡ true) (λ x. p x ≡ false) xs s
    → IsPartitionPoint (λ x. q x ≡ true) (λ x. q x ≡ false) xs e
    → (s ≤ e) × (take (e - s) (drop s xs) ≡ filter (λ x. not (p x) && q x) xs)
run_between p q xs s e implies s_inside e_inside first last =
    let upward : s ≤ e = between_upward p q xs s e implies s_inside (λ k d a. first.0 k d (omega arith) a)
    (λ k d a b. last.1 k d a b) in (
      upward,
      between_run p q xs s (e - s) (omega (arith, upward, e_inside)) (λ k d a. first.0 k d (omega arith) a)
          (λ k d a b. first.1 k d a b) (λ k d a. last.0 k d (omega arith) (omega (arith, a, upward)))
          (λ k d a b. last.1 k d (omega (arith, a, upward)) b),
    )
