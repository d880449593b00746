-- The label of duplicates: from the line of the first crate to that of the last.
use Rattle.std.proofs.Common.{◌≡◌, ◌-◌, ℕ, List, [], ◌∷◌, Some, None, arith, length, refl, slice_get, sym, ap, ◌∙◌}
use Rattle.std.specs.Prelude.{option_and_then}
use Rattle.std.specs.List.{last_or}
use Rattle.deny_spec.specs.Graph.{Graph}
use Rattle.deny_spec.specs.DiagParts.{crate_at}
use Rattle.deny_spec_report.specs.Duplicates.{lock_label, lock_labels}

last_from : (x : ℕ) (xs : List ℕ) → last_or (Some x) xs ≡ slice_get (x ∷ xs) (length xs)
last_from x [] = refl
last_from x (y ∷ ys) = last_from y ys

last_place : (xs : List ℕ) → last_or None xs ≡ slice_get xs (length xs - 1)
last_place [] = refl
last_place (x ∷ xs) =
    let less : length xs ≡ length (x ∷ xs) - 1 = omega arith in
    last_from x xs ∙ ap (slice_get (x ∷ xs)) less

module _ (g : Graph) (lock : ℕ) (places : List ℕ) where
  -- the label from the line of the first place to that of the last
  pub lines_reported : (first last : ℕ) → Some first ≡ slice_get places 0 → Some last
      ≡ slice_get places (length places - 1)
      → lock_label g lock (crate_at g first) (crate_at g last) ≡ lock_labels g lock places
  unfolding lock_labels
  lines_reported first last is are =
      ap (λ o. lock_label g lock (option_and_then (crate_at g) o) (crate_at g last)) is
      ∙ ap (λ o. lock_label g lock (option_and_then (crate_at g) (slice_get places 0)) (option_and_then (crate_at g) o))
      (are ∙ sym (last_place places))

  pub no_lines : None ≡ slice_get places 0 → [] ≡ lock_labels g lock places
  unfolding lock_label lock_labels
  no_lines none = ap (λ o. lock_label g lock (option_and_then (crate_at g) o) (option_and_then (crate_at g)
      (last_or None places))) none
