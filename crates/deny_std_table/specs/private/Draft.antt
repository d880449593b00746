-- Bytes that are being written.
use Rattle.std.specs.Prelude.{◌≡◌, ℕ, ◌<◌, ◌≤◌, List, ◌++◌, length, IsTrue}
use Rattle.deny_std_table.specs.declared.draft.Draft.{Draft}

-- These bytes were written: their number is exact where it is below the limit, and they are kept unless memory ran out.
pub record IsDraft (d : Draft) (xs : List ℕ) : Type 0 where
  pub counted : d.size < 268435456 → length xs ≡ d.size
  pub long : 268435456 ≤ d.size → 268435456 ≤ length xs
  pub kept : IsTrue d.whole → d.bytes.items ≡ xs

-- Further bytes were written after those that were there.
pub record Writes (old new : Draft) (ys : List ℕ) : Type 0 where
  pub adds : (xs : List ℕ) → IsDraft old xs → IsDraft new (xs ++ ys)
