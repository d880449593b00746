-- Ascending numbers with a higher one behind them.
use Rattle.std.proofs.Common.{◌≡◌, ℕ, ◌+◌, ◌<◌, List, [], ◌∷◌, ◌++◌, length, sym, inl, inr, arith}
use Rattle.std.proofs.Common.{get_or}
use Rattle.std.specs.Prelude.{Contains}
use Rattle.std.specs.List.Sorted.{IsStrictlyIncreasing}
use Rattle.std.proofs.lemmas.Bool.{cases_lt}
use Rattle.std.proofs.lemmas.List.{length_push, get_or_append_left, get_or_push}
use Rattle.std.proofs.lemmas.List.Elements.{Contains-get_or}

pub ascending_more : (indices : List ℕ) (n : ℕ) → IsStrictlyIncreasing indices
    → ((i : ℕ) → Contains indices i → i < n) → IsStrictlyIncreasing (indices ++ n ∷ [])
ascending_more indices n up below k p = elim (cases_lt (k + 1) (length indices)) [
  | inl inside ↦
      let here : get_or (indices ++ n ∷ []) k 0 ≡ get_or indices k 0 = get_or_append_left indices (n ∷ []) 0 k
      (omega arith) in
      let next : get_or (indices ++ n ∷ []) (k + 1) 0 ≡ get_or indices (k + 1) 0 = get_or_append_left indices (n ∷ []) 0
      (k + 1) inside in
      let rises : get_or indices k 0 < get_or indices (k + 1) 0 = up k inside in
      omega arith
  | inr outside ↦
      let size : length (indices ++ n ∷ []) ≡ length indices + 1 = length_push indices n in
      let last : k + 1 ≡ length indices = omega arith in
      let here : get_or (indices ++ n ∷ []) k 0 ≡ get_or indices k 0 = get_or_append_left indices (n ∷ []) 0 k
      (omega arith) in
      let next : get_or (indices ++ n ∷ []) (k + 1) 0 ≡ n = get_or_push indices n 0 (k + 1) (sym last) in
      let rises : get_or indices k 0 < n = below (get_or indices k 0) (Contains-get_or indices k 0 (omega arith)) in
      omega arith
]

pub ascending_none : IsStrictlyIncreasing []
ascending_none k p = absurd (omega arith)
