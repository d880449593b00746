-- Metadata without faults.
use Rattle.std.specs.Prelude.{◌≡◌, ℕ, List, Ok}
use Rattle.deny_krates_sources.specs.Checked.{Resolved, checked}

-- the bytes are metadata without faults, which have a graph
pub record HasNoFault (metadata : List ℕ) : Type 0 where
  pub read : Resolved
  pub is_read : checked metadata ≡ Ok read
