-- Versions of Rust, as a policy writes them.
use Rattle.std.specs.Prelude.{ℕ, ◌^◌, ◌==◌, ◌&&◌, nat_lt, List, [], ◌∷◌, length, map, Option, None, Some, if◌then◌else◌}
use Rattle.std.specs.Char.{is_digit}
use Rattle.std.specs.List.{list_all, slice_split}
use Rattle.std.specs.Str.Parse.{digits_value}
use Rattle.semver.specs.Parse.{Parts}

-- the number below 2 ^ 32 that decimal digits write; none where another character is among them
abbrev pub small_number : List ℕ → Option ℕ
small_number text =
    if list_all (λ c. is_digit c 10) text
    && nat_lt (digits_value 10 text) (2 ^ 32) then Some (digits_value 10 text) else None

-- the number below 2 ^ 32 that one decimal digit or more write
unfoldable pub number_in : List ℕ → Option ℕ
number_in text = if length text == 0 then None else small_number text

-- the version of two or three numbers; a patch number that is left out is 0
abbrev pub version_with : List (Option ℕ) → Option Parts
version_with (Some major ∷ Some minor ∷ []) = Some (major, minor, 0, [], [])
version_with (Some major ∷ Some minor ∷ Some patch ∷ []) = Some (major, minor, patch, [], [])
version_with _ = None

-- the version that a text writes: two or three numbers with dots between them
unfoldable pub rust_version_in : List ℕ → Option Parts
rust_version_in text = version_with (map number_in (slice_split (λ b. b == 46) text))
