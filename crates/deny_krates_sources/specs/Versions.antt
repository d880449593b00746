-- Versions of Rust.
use Rattle.std.specs.Prelude.{ℕ, ◌^◌, ◌&&◌, List, [], ◌∷◌, Option, Some, None, length, nat_lt, if◌then◌else◌}
use Rattle.std.specs.Char.{is_ascii_digit}
use Rattle.std.specs.List.{list_all}
use Rattle.std.specs.Str.Parse.{digits_value}
use Rattle.form_urlencoded.specs.Form.{split}
use Rattle.semver.specs.Parse.{Parts}

-- the number below 2^32 that decimal digits write
unfoldable pub number_of : List ℕ → Option ℕ
number_of digits =
    if nat_lt 0 (length digits) && (list_all is_ascii_digit digits && nat_lt (digits_value 10 digits) (2 ^ 32))
    then Some (digits_value 10 digits) else None

unfoldable pub whole_release : Option ℕ → Option ℕ → Option ℕ → Option Parts
whole_release None minor patch = None
whole_release (Some major) None patch = None
whole_release (Some major) (Some minor) None = None
whole_release (Some major) (Some minor) (Some patch) = Some (major, minor, patch, [], [])

-- the version of one to three numbers; those that are not written are 0
unfoldable pub release_of : List (List ℕ) → Option Parts
release_of [] = None
release_of (major ∷ []) = whole_release (number_of major) (Some 0) (Some 0)
release_of (major ∷ minor ∷ []) = whole_release (number_of major) (number_of minor) (Some 0)
release_of (major ∷ minor ∷ patch ∷ []) = whole_release (number_of major) (number_of minor) (number_of patch)
release_of (major ∷ minor ∷ patch ∷ more ∷ others) = None

-- the version of Rust that a text is: numbers joined by dots
unfoldable pub rust_version_of : List ℕ → Option Parts
rust_version_of text = release_of (split 46 text)
