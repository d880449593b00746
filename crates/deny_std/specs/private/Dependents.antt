-- Which direct dependents may use the standard library in place of a crate, by their places.
use Rattle.std.specs.Prelude.{ℕ, Bool, false}
use Rattle.std.specs.Option.{option_map_or}
use Rattle.deny_spec_report.specs.Saying.{Items}
use Rattle.deny_spec_report.specs.StdReplacements.{may_replace}
use Rattle.deny_spec.specs.Graph.{Graph}
use Rattle.deny_spec.specs.Policy.{Replacing}
use Rattle.deny_spec.specs.DiagParts.{crate_at}

abbrev pub may_replace_at : Replacing → Graph → Items → ℕ → Bool
may_replace_at r g items place = option_map_or (may_replace r g items) (crate_at g place) false
