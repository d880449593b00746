-- Since which minor version of Rust an item is stable.
use Rattle.std.specs.Prelude.{◌≡◌, ℕ, Bool, false, Option, nat_le}
use Rattle.std.specs.List.{list_any}
use Rattle.std.specs.Option.{option_map_or}
use Rattle.deny_spec_report.specs.Saying.{Items}

-- a minor version is at least the least one, if there is one
abbrev pub is_reached : Option ℕ → ℕ → Bool
is_reached least minor = option_map_or (λ m. nat_le m minor) least false

-- a minor version is at least this one exactly where an item is stable in it
pub record IsLeastMinor (items : Items) (least : Option ℕ) : Type 0 where
  pub at : (minor : ℕ) → list_any (λ stable. nat_le stable.minor minor) items.stable ≡ is_reached least minor
