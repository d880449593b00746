-- The features of the crate at a place that an entry does not list.
use Rattle.std.specs.Prelude.{◌&&◌, ℕ, Bool, false, not, List, filter}
use Rattle.std.specs.Option.{option_map_or}
use Rattle.deny_spec.specs.Graph.{Graph}
use Rattle.deny_spec.specs.Policy.{FeatureEntry, Policy}
use Rattle.deny_spec.specs.Text.{same_text}
use Rattle.deny_spec_report.specs.Features.{default_feature, denies, names_feature}
use Rattle.deny_rules_features.specs.Crates.{default_level_at, enabled_at}

-- `default` is left to its level alone: one is written, and does not deny
unfoldable pub has_default_apart_at : Policy → Graph → ℕ → Bool
has_default_apart_at p g place = option_map_or (λ at. not (denies at.value)) (default_level_at p g place) false

-- a feature of the crate at a place that an entry does not list
unfoldable pub is_unlisted_at : Policy → Graph → FeatureEntry → ℕ → List ℕ → Bool
is_unlisted_at p g e place feature = not (names_feature e.allow.value feature)
    && not (same_text feature default_feature && has_default_apart_at p g place)

abbrev pub unlisted_at : Policy → Graph → FeatureEntry → ℕ → List (List ℕ)
unlisted_at p g e place = filter (is_unlisted_at p g e place) (enabled_at g place)
