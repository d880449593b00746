-- Messages about features: of the entry with a span, and of the crate at a place.
use Rattle.std.proofs.Common.{◌≡◌, ℕ, List, [], ◌∷◌, Option, Some, None, filter, map, refl, sym, ap, ◌∙◌, subst}
use Rattle.std.specs.Prelude.{codes, not, option_and_then}
use Rattle.std.specs.List.{list_any}
use Rattle.std.specs.Option.{option_map_or}
use Rattle.deny_base.specs.declared.key.Key.{Key}
use Rattle.deny_base.specs.Level.{severity_of}
use Rattle.deny_base.specs.declared.label.Label.{Label}
use Rattle.deny_base.specs.declared.level.LintLevel.{LintLevel}
use Rattle.deny_base.specs.declared.level.Severity.TheVariants as severity
use Rattle.deny_base.specs.declared.span.Spanned.{Spanned}
use Rattle.deny_base_lists.proofs.Members.{from_there}
use Rattle.deny_spec.specs.Graph.{Crate, Graph}
use Rattle.deny_spec.specs.Policy.{FeatureEntry, Policy, SpannedText}
use Rattle.deny_spec.specs.Text.{same_text}
use Rattle.deny_spec.specs.DiagParts.{crate_at, primary}
use Rattle.deny_spec_report.specs.Features.{default_level, default_severity, entry_and_crate, feature_entry_at}
use Rattle.deny_spec_report.specs.Features.{is_enabled, mismatch_labels, missing, unlisted, unlisted_note}
use Rattle.deny_spec_report.specs.Members.{is_member}
use Rattle.deny_rules_match.specs.Placed.{ArePlaced}
use Rattle.deny_rules_features.specs.Crates.{default_level_at, enabled_at}
use Rattle.deny_rules_features.specs.Listed.{is_unlisted_at, unlisted_at}
use Rattle.deny_rules_features.proofs.KeyLemmas.{unlisted_is}

-- the labels of an entry, and of some features that it allows
abbrev the_labels : ℕ → FeatureEntry → List SpannedText → List Label
the_labels file e features = primary file e.exact.span (codes "exact enabled here")
    ∷ map (λ w. primary file w.span (codes "allowed feature not present")) features

-- what is made of the entry of a key, where one has its span, and of the crate at its place
pub of_entry : {A : Type 0} (p : Policy) (g : Graph) (key : Key) (make : FeatureEntry → Crate → A) (nothing : A)
    (e : FeatureEntry) → feature_entry_at p key.entry ≡ Some e
    → entry_and_crate p g key make nothing ≡ option_map_or (make e) (crate_at g key.place) nothing
of_entry p g key make nothing e is =
    ap (λ (o : Option FeatureEntry). option_map_or
    (λ d. option_map_or (make d) (crate_at g key.place) nothing) o nothing) is

-- what is made of the entry of a key and the crate at its place, where both are there
of_both : {A : Type 0} (p : Policy) (g : Graph) (key : Key) (make : FeatureEntry → Crate → A) (nothing : A)
    (e : FeatureEntry) (c : Crate) → feature_entry_at p key.entry ≡ Some e → crate_at g key.place ≡ Some c
    → entry_and_crate p g key make nothing ≡ make e c
of_both p g key make nothing e c is at = of_entry p g key make nothing e is
    ∙ ap (λ (o : Option Crate). option_map_or (make e) o nothing) at

-- the unlisted features of the crate at a place
pub unlisted_there : (p : Policy) (g : Graph) (e : FeatureEntry) (place : ℕ) → ArePlaced g.crates
    → unlisted_at p g e place ≡ option_map_or (unlisted p g e) (crate_at g place) []
unlisted_there p g e place placed = by_crate (crate_at g place) refl
  where
    by_crate : (o : Option Crate) → crate_at g place ≡ o → unlisted_at p g e place ≡ option_map_or (unlisted p g e) o []
    by_crate None at = ap (λ (o : Option Crate).
        filter (is_unlisted_at p g e place) (option_map_or (λ c. c.enabled) o [])) at
    by_crate (Some c) at = subst (λ (n : ℕ). unlisted_at p g e n ≡ unlisted p g e c) (placed.place place c at)
        (unlisted_is p g placed e c (from_there g.crates place c at))

-- the labels of an entry and of those allowed features that are not enabled
pub labels_reported : (p : Policy) (g : Graph) (file : ℕ) (key : Key) {e : FeatureEntry} {c : Crate}
    (enabled : List (List ℕ))
    → Some e ≡ feature_entry_at p key.entry → Some c ≡ crate_at g key.place → enabled ≡ enabled_at g key.place
    → the_labels file e (filter (λ w. not (list_any (same_text w.value) enabled)) e.allow.value)
    ≡ entry_and_crate p g key (mismatch_labels file) []
unfolding missing is_enabled
labels_reported p g file key {e} {c} enabled is at are =
    ap (λ (fs : List (List ℕ)). the_labels file e (filter (λ w. not (list_any (same_text w.value) fs)) e.allow.value))
    (are ∙ sym (ap (λ (o : Option Crate). option_map_or (λ (d : Crate). d.enabled) o []) at))
    ∙ sym (of_both p g key (mismatch_labels file) [] e c (sym is) (sym at))

-- the severity of the level of a crate's feature `default`
pub severity_reported : (p : Policy) (g : Graph) (key : Key) {c : Crate} (level : Option (Spanned LintLevel))
    → Some c ≡ crate_at g key.place → c.place ≡ key.place → level ≡ default_level_at p g key.place
    → option_map_or (λ (at : Spanned LintLevel). severity_of at.value) level severity.Warning ≡ default_severity p g key
unfolding default_severity default_level is_member
severity_reported p g key {c} level at place is =
    ap (λ (o : Option (Spanned LintLevel)). option_map_or (λ at. severity_of at.value) o severity.Warning)
    (is ∙ ap (default_level_at p g) (sym place))
    ∙ ap (λ (o : Option Crate). option_map_or (λ (at : Spanned LintLevel). severity_of at.value)
    (option_and_then (default_level p g) o) severity.Warning) at

-- a note for each unlisted feature
pub noted : (p : Policy) (g : Graph) (key : Key) (features notes : List (List ℕ))
    → features ≡ entry_and_crate p g key (unlisted p g) [] → notes ≡ map unlisted_note features
    → notes ≡ entry_and_crate p g key (λ e c. map unlisted_note (unlisted p g e c)) []
noted p g key features notes are is = is ∙ (ap (map unlisted_note) are ∙ by_entry (feature_entry_at p key.entry))
  where
    by_crate : (e : FeatureEntry) (o : Option Crate) → map unlisted_note (option_map_or (unlisted p g e) o [])
        ≡ option_map_or (λ c. map unlisted_note (unlisted p g e c)) o []
    by_crate e None = refl
    by_crate e (Some c) = refl

    by_entry : (o : Option FeatureEntry)
        → map unlisted_note (option_map_or (λ e. option_map_or (unlisted p g e) (crate_at g key.place) []) o [])
        ≡ option_map_or (λ e. option_map_or (λ c. map unlisted_note (unlisted p g e c)) (crate_at g key.place) []) o []
    by_entry None = refl
    by_entry (Some e) = by_crate e (crate_at g key.place)
