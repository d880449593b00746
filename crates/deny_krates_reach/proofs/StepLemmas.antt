-- Sums over places that are distinct.
use Rattle.std.proofs.Common.{◌≡◌, ◌≤◌, ◌+◌, ◌∙◌, inl, inr, ℕ, suc, List, [], ◌∷◌, Contains, length, refl, sym, ap}
use Rattle.std.proofs.Common.{subst, arith}
use Rattle.std.specs.Prelude.{◌≢◌, AllPairs, sum_by}
use Rattle.std.proofs.lemmas.Bool.{cases_eq}
use Rattle.std.proofs.lemmas.List.Elements.{All-contains}
use Rattle.std.proofs.lemmas.List.Sums.{sum_by-cons}
use Rattle.deny_base_lists.specs.Walk.{IsReached, TakesInStepWithReached}
use Rattle.deny_base_lists.proofs.Members.{Contains-by_cases, Contains-first, Contains-rest, no_member}

-- a list without one of its numbers: the numbers that are left, and the sum over them
record IsWithout (f : ℕ → ℕ) (qs : List ℕ) (p : ℕ) (rest : List ℕ) : Type 0 where
  pub sum : sum_by f qs ≡ f p + sum_by f rest
  pub others : (q : ℕ) → Contains qs q → p ≢ q → Contains rest q

without : (f : ℕ → ℕ) (qs : List ℕ) (p : ℕ) → Contains qs p → (rest : List ℕ) × IsWithout f qs p rest
without f [] p is = absurd (no_member p is)
without f (q ∷ qs) p is = elim (cases_eq q p) as (λ _. (rest : List ℕ) × IsWithout f (q ∷ qs) p rest) [
  | inl here ↦ (
    qs,
    record {
      sum = sum_by-cons f q qs ∙ ap (λ (n : ℕ). f n + sum_by f qs) here;
      others = λ r member apart. Contains-by_cases q qs r member (λ e. absurd (apart (sym here ∙ e))) (λ later. later);
    },
  )
  | inr other ↦
      let later : Contains qs p = Contains-by_cases q qs p is (λ e. absurd (other e)) (λ there. there) in
      let smaller = without f qs p later in (
        q ∷ smaller.0,
        record {
          sum = omega (arith, smaller.1.sum, sum_by-cons f q qs, sum_by-cons f q smaller.0);
          others = λ r member apart. Contains-by_cases q qs r member
              (λ e. subst (Contains (q ∷ smaller.0)) e (Contains-first q smaller.0))
              (λ there. Contains-rest q smaller.0 r (smaller.1.others r there apart));
        },
      )
]

sum_within : (f : ℕ → ℕ) (ps qs : List ℕ) → AllPairs ◌≢◌ ps → ((p : ℕ) → Contains ps p → Contains qs p)
    → sum_by f ps ≤ sum_by f qs
sum_within f [] qs once within = omega arith
sum_within f (p ∷ ps) qs once within =
    let left = without f qs p (within p (Contains-first p ps)) in
    let apart : (q : ℕ) → Contains ps q → p ≢ q =
    λ q there same. once 0 (suc there.0) q (omega arith) (omega (arith, there.1)) (same ∙ sym there.2) in
    let fewer = sum_within f ps left.0 (λ i j d earlier below. once (suc i) (suc j) d (omega (arith, earlier))
    (omega (arith, below)))
    (λ q there. left.1.others q (within q (Contains-rest p ps q there)) (apart q there)) in
    omega (arith, fewer, left.1.sum, sum_by-cons f p ps)

sum_of_ones : (ps : List ℕ) → sum_by (λ _. 1) ps ≡ length ps
sum_of_ones [] = refl
sum_of_ones (p ∷ ps) = omega (arith, sum_of_ones ps, sum_by-cons (λ (_ : ℕ). 1) p ps)

-- the steps of a walk are no more than all places and their degrees
pub steps_within : (leads : ℕ → ℕ → Type 0) (roots : List ℕ) (degree : ℕ → ℕ) (all : List ℕ) (before after : ℕ)
    → TakesInStepWithReached leads roots degree before after
    → ((place : ℕ) → IsReached leads roots place → Contains all place)
    → after ≤ before + length all + sum_by degree all
steps_within leads roots degree all before after takes within =
    let member : (p : ℕ) → Contains takes.places p → Contains all p =
    λ p is. within p (All-contains (IsReached leads roots) takes.places p takes.reached is) in
    let few = sum_within (λ _. 1) takes.places all takes.once member in
    let small = sum_within degree takes.places all takes.once member in
    omega (arith, takes.steps, few, small, sum_of_ones takes.places, sum_of_ones all)
