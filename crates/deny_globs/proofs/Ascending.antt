-- Ascending numbers, with a higher one appended.
use Rattle.std.proofs.Common.{◌≡◌, ℕ, suc, ◌<◌, List, [], ◌∷◌, ◌++◌, refl, sym, arith}
use Rattle.std.specs.Prelude.{Contains}
use Rattle.std.specs.List.{AllByRecursion}
use Rattle.std.specs.Cmp.{nat_cmp_is}
use Rattle.std.specs.List.Sorted.{IsStrictlySortedBy}
use Rattle.std.specs.Ordering.{nat_cmp}
use Rattle.std.specs.declared.cmp.Ordering.TheVariants.{Less}

all_pushed : (P : ℕ → Type 0) (xs : List ℕ) (n : ℕ) → AllByRecursion P xs → P n → AllByRecursion P (xs ++ n ∷ [])
all_pushed P [] n all p = (p, tt)
all_pushed P (x ∷ xs) n all p = (all.0, all_pushed P xs n all.1 p)

pub sorted_push : (xs : List ℕ) (n : ℕ) → IsStrictlySortedBy nat_cmp xs → ((i : ℕ) → Contains xs i → i < n)
    → IsStrictlySortedBy nat_cmp (xs ++ n ∷ [])
unfolding IsStrictlySortedBy
sorted_push [] n up below = (tt, tt)
sorted_push (x ∷ xs) n up below = (
  all_pushed (λ y. nat_cmp x y ≡ Less) xs n up.0 (sym (nat_cmp_is x n Less (below x (0, omega arith, refl)))),
  sorted_push xs n up.1 (λ i c. below i (suc c.0, omega (arith, c.1), c.2)),
)

pub sorted_none : IsStrictlySortedBy nat_cmp []
unfolding IsStrictlySortedBy
sorted_none = tt
