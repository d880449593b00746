-- Digits of an index that is not below a count.
use Rattle.std.specs.Prelude.{ℕ, Option, None, Some}
use Rattle.std.specs.Prelude.{◌≤◌, ⊤}

-- there is no index, or it is not below the count
abbrev pub IsPast : ℕ → Option ℕ → Type 0
IsPast count None = ⊤
IsPast count (Some index) = count ≤ index
