-- Counts that never fall and stay at their last value, 2 ^ 64 - 1.
use Rattle.std.specs.Prelude.{ℕ, ◌+◌, ◌-◌, ◌^◌, ◌≤◌, min}

-- the count after `n` more
abbrev pub counted : ℕ → ℕ → ℕ
counted before n = min (before + n) (2 ^ 64 - 1)

-- the count rose by at least `n`, or is at its last value
abbrev pub RoseBy : ℕ → ℕ → ℕ → Type 0
RoseBy n before after = counted before n ≤ after

abbrev pub Rose : ℕ → ℕ → Type 0
Rose before after = RoseBy 1 before after
