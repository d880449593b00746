-- Crates are at their places.
use Rattle.std.specs.Prelude.{◌≡◌, ℕ, List, Some, Contains, length, map, slice_get}
use Rattle.std.specs.List.{range_with_len}
use Rattle.deny_spec.specs.Graph.{Crate}

-- the place of each crate is its index
pub record ArePlaced (crates : List Crate) : Type 0 where
  pub at : (c : Crate) → Contains crates c → slice_get crates c.place ≡ Some c
  pub place : (n : ℕ) (c : Crate) → slice_get crates n ≡ Some c → c.place ≡ n
  pub places : map (λ (c : Crate). c.place) crates ≡ range_with_len 0 (length crates)
