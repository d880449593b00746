-- Numbers: what their comparisons say, and ranges of them.
use Rattle.std.proofs.Common.{◌≡◌, ◌<◌, ℕ, arith, ◌≤◌, true, nat_le, ◌+◌, zero, suc, rules, tests}
use Rattle.std.specs.Ordering.{nat_cmp}
use Rattle.std.specs.declared.cmp.Ordering.TheVariants.{Less}
use Rattle.std.proofs.lemmas.Bool.Decides.{nat_tests}
use Rattle.std.specs.List.{range_with_len, AllByRecursion}
use Rattle.std.specs.List.Sorted.{IsStrictlySortedBy}

pub less_from_nat_cmp : (m n : ℕ) → nat_cmp m n ≡ Less → m < n
less_from_nat_cmp m n below = grind (arith, nat_tests)

pub nat_le-true : (m n : ℕ) → m ≤ n → nat_le m n ≡ true
nat_le-true m n e = grind (arith, nat_tests)

pub le_from_nat_le : (m n : ℕ) → nat_le m n ≡ true → m ≤ n
le_from_nat_le m n e = grind (arith, nat_tests)

pub range_with_len-same : (a b m n : ℕ) → a ≡ b → m ≡ n → range_with_len a m ≡ range_with_len b n
range_with_len-same a b m n e f = cc

-- a range of numbers ascends
range_with_len-above : (a n b : ℕ) → b < a → AllByRecursion (λ z. nat_cmp b z ≡ Less) (range_with_len a n)
range_with_len-above a zero b below = tt
range_with_len-above a (suc n) b below = (search (rules, tests), range_with_len-above (a + 1) n b (omega arith))

pub range_with_len-ascends : (a n : ℕ) → IsStrictlySortedBy nat_cmp (range_with_len a n)
unfolding IsStrictlySortedBy
range_with_len-ascends a zero = tt
range_with_len-ascends a (suc n) = (range_with_len-above (a + 1) n a (omega arith), range_with_len-ascends (a + 1) n)
