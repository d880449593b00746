-- The steps that a search by halves has left.
use Rattle.std.proofs.Common.{◌≡◌, ℕ, zero, suc, ◌+◌, ◌*◌, ◌^◌, ◌<◌, ◌≤◌, refl, arith}

double : (d : ℕ) → 2 ^ suc d ≡ 2 * 2 ^ d
double d = omega arith

one_is : 2 ^ zero ≡ 1
one_is = refl

-- the number of steps that a search has left, of those that it began with
pub record Fuel (d start steps low high : ℕ) : Type 0 where
  pub left : ℕ
  pub sum : steps + left ≡ start + d
  pub size : high < low + 2 ^ left

pub fuel_start : (d start n : ℕ) → n < 2 ^ d → Fuel d start start 0 n
fuel_start d start n p = record { left = d; sum = refl; size = omega (arith, p) }

pub fuel_next : {d start steps low high low' high' : ℕ} → low < high → high' + high' + low ≤ low' + low' + high
    → Fuel d start steps low high → Fuel d start (steps + 1) low' high'
fuel_next {d} {start} {steps} {low} {high} {low'} {high'} p half f = go f.left f.sum f.size where
  go : (k : ℕ) → steps + k ≡ start + d → high < low + 2 ^ k → Fuel d start (steps + 1) low' high'
  go zero sum size = absurd (omega (arith, p, size, one_is))
  go (suc k) sum size = record { left = k; sum = omega (arith, sum); size = omega (arith, size, half, double k) }
