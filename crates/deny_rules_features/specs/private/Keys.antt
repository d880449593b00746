-- The keys of the crate at a place, rule by rule.
use Rattle.std.specs.Prelude.{◌≡◌, ◌&&◌, ◌||◌, ◌∷◌, ℕ, Bool, true, false, not, List, [], Contains, Some, filter, map}
use Rattle.std.specs.Prelude.{if◌then◌else◌}
use Rattle.std.specs.List.{list_any}
use Rattle.std.specs.Option.{option_map_or}
use Rattle.deny_base.specs.declared.code.Code.TheVariants as code
use Rattle.deny_base.specs.declared.key.Key.{Key}
use Rattle.deny_base.specs.declared.level.LintLevel.{LintLevel}
use Rattle.deny_base.specs.declared.level.LintLevel.TheVariants as level
use Rattle.deny_base.specs.declared.span.Spanned.{Spanned}
use Rattle.deny_spec.specs.Graph.{Crate, Graph}
use Rattle.deny_spec.specs.Keys.{crate_key}
use Rattle.deny_spec.specs.Policy as policy
use Rattle.deny_spec.specs.Policy.{FeatureEntry, Policy}
use Rattle.deny_spec.specs.Text.{same_text}
use Rattle.deny_spec.specs.DiagParts.{crate_at}
use Rattle.deny_spec_report.specs.Features.{IsNotAllowedOf, Reaches, default_feature, names_feature}
use Rattle.deny_spec_report.specs.Features.{not_allowed_feature_key}
use Rattle.deny_rules_match.specs.Marks.{mark_at}
use Rattle.deny_rules_features.specs.Crates.{default_level_at, enabled_at}
use Rattle.deny_rules_features.specs.private.Crates.{has_feature_at}
use Rattle.deny_rules_features.specs.Listed.{unlisted_at}
use Rattle.deny_rules_features.specs.private.Listed.{is_among, is_mismatched_at}

-- one of these elements gives the result
pub record OfOne {X T : Type 0} (P : X → T → Type 0) (xs : List X) (y : T) : Type 0 where
  pub one : X
  pub member : Contains xs one
  pub gives : P one y

-- ---- denied features

unfoldable pub banned_keys_at : Graph → List policy.SpannedText → ℕ → List Key
banned_keys_at g listed place =
    map (λ w. crate_key code.FeatureBanned place w.span) (filter (is_among (enabled_at g place)) listed)

-- ---- unknown features

unfoldable pub unknown_keys_at : Graph → List policy.SpannedText → ℕ → List Key
unknown_keys_at g listed place = map (λ w. crate_key code.UnknownFeature place w.span)
    (filter (λ w. not (has_feature_at g place w.value)) listed)

unfoldable pub reports_unknown_at : Policy → Graph → FeatureEntry → ℕ → Bool
reports_unknown_at p g e place = not (e.exact.value && is_mismatched_at p g e place)

-- ---- features that are not allowed

-- a feature that one of the listed features reaches by the table of the crate at a place
pub record IsReachedAt (g : Graph) (place : ℕ) (listed : List policy.SpannedText) (feature : List ℕ) : Type 0 where
  pub krate : Crate
  pub at : crate_at g place ≡ Some krate
  pub name : policy.SpannedText
  pub one : Contains listed name
  pub reaches : Reaches krate name.value feature

-- a feature of the crate at a place that an entry does not list, and that none of the allowed ones reaches
pub record IsNotAllowedAt (p : Policy) (g : Graph) (e : FeatureEntry) (place : ℕ) (key : Key) : Type 0 where
  pub feature : List ℕ
  pub unlisted : Contains (unlisted_at p g e place) feature
  pub unreached : IsReachedAt g place e.allow.value feature → ⊥
  pub is : key ≡ not_allowed_feature_key place e.spec.span feature

-- a feature that is not allowed, in a crate that one entry matches
pub record IsNotAllowedBy (p : Policy) (g : Graph) (e : FeatureEntry) (key : Key) : Type 0 where
  pub krate : Crate
  pub known : Contains g.crates krate
  pub feature : List ℕ
  pub is_not_allowed : IsNotAllowedOf p g e krate feature
  pub is : key ≡ not_allowed_feature_key krate.place e.spec.span feature

-- ---- the feature `default`

-- an entry leaves `default` open, whichever crates it matches
unfoldable pub leaves_open : FeatureEntry → Bool
leaves_open e = not e.exact.value
    && (not (names_feature e.allow.value default_feature) && not (names_feature e.deny default_feature))

-- the level of `default` gives a key, by whether entries leave it open
abbrev pub is_on : LintLevel → Bool → Bool
is_on level.Allow unsettled = false
is_on level.Warn unsettled = true
is_on level.Deny unsettled = unsettled

unfoldable pub is_default_enabled_at : Graph → ℕ → Bool
is_default_enabled_at g place = list_any (same_text default_feature) (enabled_at g place)

-- no entry matches the crate at a place, or one leaves `default` open, by marks for both
unfoldable pub is_left_at : List Bool → List Bool → ℕ → Bool
is_left_at matched unsettled place = not (mark_at matched place) || mark_at unsettled place

unfoldable pub default_keys_of : Graph → List Bool → List Bool → ℕ → Spanned LintLevel → List Key
default_keys_of g matched unsettled place at =
    if is_default_enabled_at g place && is_on at.value (is_left_at matched unsettled place)
    then crate_key code.DefaultFeatureEnabled place at.span ∷ [] else []

unfoldable pub default_keys_at : Policy → Graph → List Bool → List Bool → ℕ → List Key
default_keys_at p g matched unsettled place =
    option_map_or (default_keys_of g matched unsettled place) (default_level_at p g place) []
