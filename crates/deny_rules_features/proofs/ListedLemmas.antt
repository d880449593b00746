-- The features that an entry does not list, by a map of those that it allows.
use Rattle.std.proofs.Common.{◌≡◌, ◌≤◌, ◌++◌, ℕ, Bool, List, drop, filter, find, is_some, length, not, refl, sym, ap}
use Rattle.std.proofs.Common.{◌∙◌}
use Rattle.std.specs.Prelude.{◌&&◌}
use Rattle.std.specs.FinMap as finite
use Rattle.deny_base_lists.specs.TextMap.{TextFinMap}
use Rattle.deny_base.specs.declared.span.Span.{Span}
use Rattle.deny_base_lists.proofs.Agreement.{filter_on}
use Rattle.deny_base_lists.proofs.Filters.{find-any}
use Rattle.deny_base_lists.proofs.Loops.{pushed_all}
use Rattle.deny_base_lists.proofs.Options.{is_some-option_map}
use Rattle.deny_spec.specs.Graph.{Graph}
use Rattle.deny_spec.specs.Policy as policy
use Rattle.deny_spec.specs.Policy.{FeatureEntry, Policy}
use Rattle.deny_spec.specs.Text.{same_text}
use Rattle.deny_spec_report.specs.Features.{default_feature, names_feature}
use Rattle.deny_rules_match.specs.Wrappers.{AreFirstSpans, first_of}
use Rattle.deny_rules_features.specs.Crates.{enabled_at}
use Rattle.deny_rules_features.specs.Listed.{has_default_apart_at, is_unlisted_at, unlisted_at}
use Rattle.deny_rules_features.specs.private.Listed.{is_unlisted_by}

named : (listed : List policy.SpannedText) (allowed : TextFinMap Span) (feature : List ℕ) → AreFirstSpans listed allowed
    → is_some (finite.get allowed feature) ≡ names_feature listed feature
unfolding AreFirstSpans first_of names_feature
named listed allowed feature first =
    ap is_some (first feature)
    ∙ (is_some-option_map (λ (w : policy.SpannedText). w.span) (find (λ w. same_text w.value feature) listed)
    ∙ sym (find-any (λ (w : policy.SpannedText). same_text w.value feature) listed))

pub kept_are : (p : Policy) (g : Graph) (e : FeatureEntry) (place : ℕ) (allowed : TextFinMap Span) (apart : Bool)
    (enabled features : List (List ℕ)) (i : ℕ) → AreFirstSpans e.allow.value allowed
    → apart ≡ has_default_apart_at p g place
    → enabled ≡ enabled_at g place → length enabled ≤ i
    → features ++ filter (is_unlisted_by allowed apart) (drop i enabled) ≡ filter (is_unlisted_by allowed apart) enabled
    → features ≡ unlisted_at p g e place
unfolding is_unlisted_by is_unlisted_at
kept_are p g e place allowed apart enabled features i first is are past kept =
    pushed_all (filter (is_unlisted_by allowed apart)) enabled i features
    (filter (is_unlisted_by allowed apart) enabled) refl past kept
    ∙ (filter_on (is_unlisted_by allowed apart) (is_unlisted_at p g e place) enabled (λ feature _.
    ap (λ b. not b && not (same_text feature default_feature && apart)) (named e.allow.value allowed feature first)
    ∙ ap (λ b. not (names_feature e.allow.value feature) && not (same_text feature default_feature && b)) is)
    ∙ ap (filter (is_unlisted_at p g e place)) are)
