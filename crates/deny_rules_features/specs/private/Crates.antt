-- Whether the crate at a place has a feature.
use Rattle.std.specs.Prelude.{ℕ, Bool, false, List}
use Rattle.std.specs.Option.{option_map_or}
use Rattle.deny_spec.specs.Graph.{Graph}
use Rattle.deny_spec.specs.DiagParts.{crate_at}
use Rattle.deny_spec_report.specs.Features.{has_feature}

-- the crate at a place has a feature in its table
abbrev pub has_feature_at : Graph → ℕ → List ℕ → Bool
has_feature_at g place feature = option_map_or (λ c. has_feature c feature) (crate_at g place) false
