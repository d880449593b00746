-- Which crates are replaced, by their places.
use Rattle.std.specs.Prelude.{ℕ, Bool, false}
use Rattle.std.specs.Option.{option_map_or}
use Rattle.deny_spec_report.specs.Saying.{Saying}
use Rattle.deny_spec_report.specs.StdReplacements.{is_replaced}
use Rattle.deny_spec.specs.Graph.{Graph}
use Rattle.deny_spec.specs.Policy.{Replacing}
use Rattle.deny_spec.specs.DiagParts.{crate_at}

abbrev pub is_replaced_at : Replacing → Graph → Saying → ℕ → Bool
is_replaced_at r g said place = option_map_or (is_replaced r g said) (crate_at g place) false
