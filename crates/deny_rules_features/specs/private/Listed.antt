-- The features that an entry does not list, by a map of those that it allows.
use Rattle.std.specs.Prelude.{◌&&◌, ◌||◌, ◌==◌, ℕ, Bool, not, is_some, length, List}
use Rattle.std.specs.FinMap as finite
use Rattle.std.specs.List.{list_all, list_any}
use Rattle.deny_base_lists.specs.TextMap.{TextFinMap}
use Rattle.deny_base.specs.declared.span.Span.{Span}
use Rattle.deny_spec.specs.Graph.{Graph}
use Rattle.deny_spec.specs.Policy as policy
use Rattle.deny_spec.specs.Policy.{FeatureEntry, Policy}
use Rattle.deny_spec.specs.Text.{same_text}
use Rattle.deny_spec_report.specs.Features.{default_feature}
use Rattle.deny_rules_features.specs.Crates.{enabled_at}
use Rattle.deny_rules_features.specs.Listed.{unlisted_at}

-- a feature is not allowed, by a map of the allowed ones and by whether `default` is left to its level
unfoldable pub is_unlisted_by : TextFinMap Span → Bool → List ℕ → Bool
is_unlisted_by allowed apart feature =
    not (is_some (finite.get allowed feature)) && not (same_text feature default_feature && apart)

-- a listed feature is among the enabled ones
abbrev pub is_among : List (List ℕ) → policy.SpannedText → Bool
is_among enabled w = list_any (same_text w.value) enabled

-- the features of the crate at a place are not exactly those of the entry
unfoldable pub is_mismatched_at : Policy → Graph → FeatureEntry → ℕ → Bool
is_mismatched_at p g e place = not (length (unlisted_at p g e place) == 0)
    || not (list_all (is_among (enabled_at g place)) e.allow.value)
