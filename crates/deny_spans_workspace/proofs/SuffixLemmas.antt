-- Paths without their `.git` suffixes.
use Rattle.std.proofs.Common.{◌≡◌, ◌≤◌, ◌+◌, ◌-◌, ℕ, zero, suc, inl, inr, List, length, drop, refl, ap, arith, true}
use Rattle.std.proofs.Common.{false}
use Rattle.std.proofs.lemmas.Bool.{cases_Bool}
use Rattle.std.proofs.lemmas.List.{length-drop, length-take}
use Rattle.std.proofs.lemmas.Slice.Eq.{bytes_eq-Decides}
use Rattle.deny_spans_workspace.specs.Repositories.{before_suffix, ends_in_git, git_suffix, without_git}
use Rattle.deny_spans_workspace.specs.Repositories.{without_suffixes}

ends_long : (path : List ℕ) → ends_in_git path ≡ true → 4 ≤ length path
ends_long path ends =
    let same = (bytes_eq-Decides (drop (length path - length git_suffix) path) git_suffix).0 ends in
    omega (arith, ap length same, length-drop (length path - length git_suffix) path)

shorter : (path : List ℕ) → ends_in_git path ≡ true → length (before_suffix path) + 4 ≡ length path
shorter path ends = omega (arith, ends_long path ends, length-take (length path - length git_suffix) path)

-- more turns than there are suffixes change nothing
more_turns : (n m : ℕ) (path : List ℕ) → length path ≤ n → length path ≤ m
    → without_suffixes n path ≡ without_suffixes m path
unfolding without_suffixes
more_turns zero zero path low high = refl
more_turns zero (suc m) path low high = elim (cases_Bool (ends_in_git path))
    as (λ _. without_suffixes zero path ≡ without_suffixes (suc m) path) [
      | inl ends ↦ absurd (omega (arith, ends_long path ends))
      | inr other ↦ rw other refl
    ]
more_turns (suc n) zero path low high = elim (cases_Bool (ends_in_git path))
    as (λ _. without_suffixes (suc n) path ≡ without_suffixes zero path) [
      | inl ends ↦ absurd (omega (arith, ends_long path ends))
      | inr other ↦ rw other refl
    ]
more_turns (suc n) (suc m) path low high = elim (cases_Bool (ends_in_git path))
    as (λ _. without_suffixes (suc n) path ≡ without_suffixes (suc m) path) [
      | inl ends ↦ rw ends (more_turns n m (before_suffix path) (omega (arith, shorter path ends))
          (omega (arith, shorter path ends)))
      | inr other ↦ rw other refl
    ]

pub one_less : (path : List ℕ) → ends_in_git path ≡ true → without_git (before_suffix path) ≡ without_git path
unfolding without_suffixes
one_less path ends = by_length (length path) refl
  where
    by_length : (n : ℕ) → length path ≡ n → without_git (before_suffix path) ≡ without_suffixes n path
    by_length zero long = absurd (omega (arith, ends_long path ends))
    by_length (suc n) long = rw ends (more_turns (length (before_suffix path)) n (before_suffix path) (omega arith)
        (omega (arith, shorter path ends)))

pub none_left : (path : List ℕ) → ends_in_git path ≡ false → path ≡ without_git path
unfolding without_suffixes
none_left path other = by_length (length path)
  where
    by_length : (n : ℕ) → path ≡ without_suffixes n path
    by_length zero = refl
    by_length (suc n) = rw other refl
