-- Sums over crates, one crate after another.
use Rattle.std.proofs.Common.{◌≡◌, ◌<◌, ◌≤◌, ◌+◌, ◌∙◌, ℕ, List, [], ◌∷◌, length, drop, refl, ap, arith, add-one}
use Rattle.std.specs.Prelude.{slice_index_or}
use Rattle.std.proofs.Math.ListN.{drop_of_length-le}
use Rattle.std.proofs.Math.Seq.{drop-cons}
use Rattle.deny_spec.specs.Graph.{Crate}
use Rattle.deny_krates_graph.specs.Crates.{crate_view, crates_from}
use Rattle.deny_krates_graph.specs.declared.krate.Krate.{Krate}

module _ (size : Crate → ℕ) (sum : List Crate → ℕ) (none : sum [] ≡ 0)
    (more : (c : Crate) (cs : List Crate) → sum (c ∷ cs) ≡ size c + sum cs)
    (anywhere : (m n : ℕ) (k : Krate) → size (crate_view m k) ≡ size (crate_view n k)) where
  -- the room that is left after the first crates, once one crate more is taken
  pub taken : (krates : List Krate) (i room left now : ℕ) (k : Krate) → i < length krates
      → k ≡ slice_index_or krates i k → now + size (crate_view 0 k) ≡ left
      → left + sum (crates_from 0 krates) ≡ room + sum (crates_from i (drop i krates))
      → now + sum (crates_from 0 krates) ≡ room + sum (crates_from (i + 1) (drop (i + 1) krates))
  taken krates i room left now k inside is took so =
      let next : crates_from i (drop i krates) ≡ crate_view i k ∷ crates_from (i + 1) (drop (i + 1) krates) =
      rw (drop-cons krates i k inside, ← is, add-one) refl in
      let split : sum (crates_from i (drop i krates))
      ≡ size (crate_view 0 k) + sum (crates_from (i + 1) (drop (i + 1) krates)) =
      ap sum next ∙ (more (crate_view i k) (crates_from (i + 1) (drop (i + 1) krates))
      ∙ ap (λ n. n + sum (crates_from (i + 1) (drop (i + 1) krates))) (anywhere i 0 k)) in
      omega (arith, took, so, split)

  pub all_taken : (krates : List Krate) (i room left : ℕ) → length krates ≤ i
      → left + sum (crates_from 0 krates) ≡ room + sum (crates_from i (drop i krates))
      → sum (crates_from 0 krates) ≤ room
  all_taken krates i room left past so =
      let rest : sum (crates_from i (drop i krates)) ≡ 0 =
      ap (λ (ks : List Krate). sum (crates_from i ks)) (drop_of_length-le krates past) ∙ none in
      omega (arith, so, rest)
