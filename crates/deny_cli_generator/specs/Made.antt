-- The generated crates: two versions of each name.
use Rattle.std.specs.Prelude.{◌++◌, ◌==◌, ◌/◌, ◌%◌, ℕ, List, codes, if◌then◌else◌}
use Rattle.std.specs.Fmt.{decimal}
use Rattle.std.specs.List.{range_with_len}

-- the numbers below a bound
abbrev pub below : ℕ → List ℕ
below count = range_with_len 0 count

-- the name of a number: `c0`, `c1` and so on
unfoldable pub name_of : ℕ → List ℕ
name_of number = codes "c" ++ decimal number

-- the crate of a number: its name, which it shares with one neighbour, and its version
unfoldable pub name_at : ℕ → List ℕ
name_at number = name_of (number / 2)

unfoldable pub version_at : ℕ → List ℕ
version_at number = if number % 2 == 0 then codes "1.0.0" else codes "2.0.0"
