-- The keys of features where spans of the policy are replaced.
use Rattle.std.proofs.Common.{◌≡◌, ◌==◌, ◌&&◌, ◌||◌, ◌∙◌, ◌++◌, ℕ, Bool, List, None, Option, Some, [], ap, false, map}
use Rattle.std.proofs.Common.{not, refl}
use Rattle.std.proofs.Common.{◌∷◌, subst, sym, true}
use Rattle.std.specs.Prelude.{Contains, filter, if◌then◌else◌, length, option_map}
use Rattle.std.specs.List.{list_any}
use Rattle.std.specs.Option.{option_map_or}
use Rattle.std.proofs.lemmas.List.{length-map, map-append}
use Rattle.deny_base_lists.proofs.Agreement.{filter_on}
use Rattle.deny_base_lists.proofs.Filters.{filter-map}
use Rattle.deny_base_lists.proofs.Members.{Contains-from_map, contains_map}
use Rattle.deny_base.specs.declared.code.Code.TheVariants as code
use Rattle.deny_base.specs.declared.key.Key.{Key}
use Rattle.deny_base.specs.declared.level.LintLevel.{LintLevel}
use Rattle.deny_base.specs.declared.level.LintLevel.TheVariants.{Allow, Deny, Warn}
use Rattle.deny_base.specs.declared.span.Spanned.{Spanned}
use Rattle.deny_spec.specs.Graph.{Crate, Graph}
use Rattle.deny_spec.specs.Keys.{crate_key, key_of}
use Rattle.deny_spec.specs.Match.{matches}
use Rattle.deny_spec.specs.Policy as policy
use Rattle.deny_spec.specs.Policy.{FeatureEntry, Policy}
use Rattle.deny_spec.specs.Text.{same_text}
use Rattle.deny_spec_report.specs.Features.{IsFeatureNotAllowed, IsNotAllowedOf, Reaches, banned_features}
use Rattle.deny_spec_report.specs.Features.{default_enabled_keys}
use Rattle.deny_spec_report.specs.Features.{default_enabled_keys_at, default_enabled_keys_of, default_feature}
use Rattle.deny_spec_report.specs.Features.{default_level}
use Rattle.deny_spec_report.specs.Features.{denies, feature_banned_keys, feature_banned_keys_at, feature_banned_keys_of}
use Rattle.deny_spec_report.specs.Features.{has_default_apart, has_feature, is_default_reported, is_enabled}
use Rattle.deny_spec_report.specs.Features.{is_mismatch_reported}
use Rattle.deny_spec_report.specs.Features.{is_mismatched, is_unlisted, leaves_default, checks_default, mismatched_keys}
use Rattle.deny_spec_report.specs.Features.{mismatched_keys_of, missing, names_feature, not_allowed_feature_key}
use Rattle.deny_spec_report.specs.Features.{matched_by}
use Rattle.deny_spec_report.specs.Features.{reports_unknown, unknown_feature_keys, unknown_feature_keys_at}
use Rattle.deny_spec_report.specs.Features.{unknown_feature_keys_of, unknown_features, unlisted}
use Rattle.deny_spec_report.specs.Members.{is_member}
use Rattle.deny_spec_removal.specs.Renaming.{Renaming, renamed, renamed_feature, renamed_level, renamed_text}
use Rattle.deny_spec_removal.proofs.Anew.{any_anew, flat_map_alike, flat_map_anew, spanned, reported_alike}
use Rattle.deny_spec_removal.proofs.Anew.{reported_anew}

-- ---- one entry

named_same : (r : Renaming) (diag : List policy.SpannedText) (feature : List ℕ)
    → names_feature (map (renamed_text r) diag) feature ≡ names_feature diag feature
unfolding names_feature
named_same r diag feature = any_anew (λ w. same_text w.value feature) (λ w. same_text w.value feature)
    (renamed_text r) diag (λ w is. refl)

leaves_same : (r : Renaming) (c : Crate) (e : FeatureEntry)
    → leaves_default c (renamed_feature r e) ≡ leaves_default c e
unfolding leaves_default matches
leaves_same r c e =
    ap (λ b. matches e.spec c && (not e.exact.value
    && (not b && not (names_feature (map (renamed_text r) e.deny) default_feature))))
    (named_same r e.allow.value default_feature)
    ∙ ap (λ b. matches e.spec c && (not e.exact.value
    && (not (names_feature e.allow.value default_feature) && not b)))
    (named_same r e.deny default_feature)

missing_anew : (r : Renaming) (e : FeatureEntry) (c : Crate)
    → missing (renamed_feature r e) c ≡ map (renamed_text r) (missing e c)
unfolding missing
missing_anew r e c = filter-map (λ w. not (is_enabled c w.value)) (renamed_text r) e.allow.value

-- ---- denied features

banned_at_anew : (r : Renaming) (e : FeatureEntry) (c : Crate)
    → feature_banned_keys_at (renamed_feature r e) c ≡ map (spanned r) (feature_banned_keys_at e c)
unfolding feature_banned_keys_at banned_features key_of
banned_at_anew r e c = by e.exact.value
  where
    by : (exact : Bool)
        → map (λ w. crate_key code.FeatureBanned c.place w.span)
        (if exact then [] else filter (λ w. is_enabled c w.value) (map (renamed_text r) e.deny))
        ≡ map (spanned r) (map (λ w. crate_key code.FeatureBanned c.place w.span)
        (if exact then [] else filter (λ w. is_enabled c w.value) e.deny))
    by true = refl
    by false = reported_anew (λ w. is_enabled c w.value) (λ w. is_enabled c w.value) (renamed_text r)
        (λ w. crate_key code.FeatureBanned c.place w.span) (λ w. crate_key code.FeatureBanned c.place w.span)
        (spanned r)
        e.deny (λ w is. refl) (λ w. refl)

banned_of_anew : (r : Renaming) (g : Graph) (e : FeatureEntry)
    → feature_banned_keys_of g (renamed_feature r e) ≡ map (spanned r) (feature_banned_keys_of g e)
unfolding feature_banned_keys_of matches
banned_of_anew r g e = flat_map_alike (feature_banned_keys_at (renamed_feature r e)) (feature_banned_keys_at e)
    (spanned r) (matched_by g e) (λ c is. banned_at_anew r e c)

-- ---- all entries of a policy

module _ (r : Renaming) (p : Policy) (g : Graph) where
  level_anew : (c : Crate) → default_level (renamed r p) g c ≡ option_map (renamed_level r) (default_level p g c)
  unfolding default_level
  level_anew c = by (is_member g c)
    where
      by : (b : Bool)
          → (if b then option_map (renamed_level r) p.workspace_default
          else option_map (renamed_level r) p.external_default)
          ≡ option_map (renamed_level r) (if b then p.workspace_default else p.external_default)
      by true = refl
      by false = refl

  apart_same : (c : Crate) → has_default_apart (renamed r p) g c ≡ has_default_apart p g c
  unfolding has_default_apart
  apart_same c =
      ap (λ (o : Option (Spanned LintLevel)). option_map_or (λ at. not (denies at.value)) o false) (level_anew c)
      ∙ by (default_level p g c)
    where
      by : (o : Option (Spanned LintLevel))
          → option_map_or (λ at. not (denies at.value)) (option_map (renamed_level r) o) false
          ≡ option_map_or (λ at. not (denies at.value)) o false
      by None = refl
      by (Some at) = refl

  unlisted_at_same : (e : FeatureEntry) (c : Crate) (feature : List ℕ)
      → is_unlisted (renamed r p) g (renamed_feature r e) c feature ≡ is_unlisted p g e c feature
  unfolding is_unlisted
  unlisted_at_same e c feature =
      ap (λ b. not b && not (same_text feature default_feature && has_default_apart (renamed r p) g c))
      (named_same r e.allow.value feature)
      ∙ ap (λ b. not (names_feature e.allow.value feature) && not (same_text feature default_feature && b))
      (apart_same c)

  unlisted_same : (e : FeatureEntry) (c : Crate) → unlisted (renamed r p) g (renamed_feature r e) c ≡ unlisted p g e c
  unfolding unlisted
  unlisted_same e c = filter_on (is_unlisted (renamed r p) g (renamed_feature r e) c) (is_unlisted p g e c) c.enabled
      (λ feature is. unlisted_at_same e c feature)

  mismatched_same : (e : FeatureEntry) (c : Crate)
      → is_mismatched (renamed r p) g (renamed_feature r e) c ≡ is_mismatched p g e c
  unfolding is_mismatched
  mismatched_same e c =
      ap (λ (features : List (List ℕ)). not (length features == 0)
      || not (length (missing (renamed_feature r e) c) == 0)) (unlisted_same e c)
      ∙ ap (λ (n : ℕ). not (length (unlisted p g e c) == 0) || not (n == 0))
      (ap (λ (diag : List policy.SpannedText). length diag) (missing_anew r e c)
      ∙ length-map (missing e c) (renamed_text r))

  mismatch_reported_same : (e : FeatureEntry) (c : Crate)
      → is_mismatch_reported (renamed r p) g (renamed_feature r e) c ≡ is_mismatch_reported p g e c
  unfolding is_mismatch_reported matches
  mismatch_reported_same e c = ap (λ b. matches e.spec c && (e.exact.value && b)) (mismatched_same e c)

  mismatched_of_anew : (e : FeatureEntry)
      → mismatched_keys_of (renamed r p) g (renamed_feature r e) ≡ map (spanned r) (mismatched_keys_of p g e)
  unfolding mismatched_keys_of key_of
  mismatched_of_anew e = reported_alike (is_mismatch_reported (renamed r p) g (renamed_feature r e))
      (is_mismatch_reported p g e)
      (λ c. crate_key code.ExactFeaturesMismatch c.place (r.span e.spec.span))
      (λ c. crate_key code.ExactFeaturesMismatch c.place e.spec.span) (spanned r) g.crates
      (λ c is. mismatch_reported_same e c) (λ c. refl)

  pub mismatched_anew : mismatched_keys (renamed r p) g ≡ map (spanned r) (mismatched_keys p g)
  mismatched_anew = flat_map_anew (mismatched_keys_of (renamed r p) g) (mismatched_keys_of p g) (renamed_feature r)
      (spanned r) p.features (λ e written. mismatched_of_anew e)

  pub banned_anew : feature_banned_keys (renamed r p) g ≡ map (spanned r) (feature_banned_keys p g)
  banned_anew = flat_map_anew (feature_banned_keys_of g) (feature_banned_keys_of g) (renamed_feature r) (spanned r)
      p.features (λ e written. banned_of_anew r g e)

  -- ---- unknown features

  reports_same : (e : FeatureEntry) (c : Crate)
      → reports_unknown (renamed r p) g (renamed_feature r e) c ≡ reports_unknown p g e c
  unfolding reports_unknown
  reports_same e c = ap (λ b. not (e.exact.value && b)) (mismatched_same e c)

  unknown_at_anew : (e : FeatureEntry) (c : Crate)
      → unknown_feature_keys_at (renamed r p) g (renamed_feature r e) c
      ≡ map (spanned r) (unknown_feature_keys_at p g e c)
  unfolding unknown_feature_keys_at unknown_features key_of
  unknown_at_anew e c =
      ap (λ b. map (λ w. crate_key code.UnknownFeature c.place w.span)
      (if b then filter (λ w. not (has_feature c w.value)) (map (renamed_text r) e.allow.value
      ++ map (renamed_text r) e.deny) else [])) (reports_same e c)
      ∙ (ap (λ (diag : List policy.SpannedText). map (λ w. crate_key code.UnknownFeature c.place w.span)
      (if reports_unknown p g e c then filter (λ w. not (has_feature c w.value)) diag else []))
      (sym (map-append (renamed_text r) e.allow.value e.deny))
      ∙ by (reports_unknown p g e c))
    where
      by : (b : Bool)
          → map (λ w. crate_key code.UnknownFeature c.place w.span)
          (if b then filter (λ w. not (has_feature c w.value)) (map (renamed_text r) (e.allow.value ++ e.deny))
          else [])
          ≡ map (spanned r) (map (λ w. crate_key code.UnknownFeature c.place w.span)
          (if b then filter (λ w. not (has_feature c w.value)) (e.allow.value ++ e.deny) else []))
      by true = reported_anew (λ w. not (has_feature c w.value)) (λ w. not (has_feature c w.value)) (renamed_text r)
          (λ w. crate_key code.UnknownFeature c.place w.span) (λ w. crate_key code.UnknownFeature c.place w.span)
          (spanned r) (e.allow.value ++ e.deny) (λ w is. refl) (λ w. refl)
      by false = refl

  unknown_of_anew : (e : FeatureEntry)
      → unknown_feature_keys_of (renamed r p) g (renamed_feature r e) ≡ map (spanned r) (unknown_feature_keys_of p g e)
  unfolding unknown_feature_keys_of matches
  unknown_of_anew e = flat_map_alike (unknown_feature_keys_at (renamed r p) g (renamed_feature r e))
      (unknown_feature_keys_at p g e) (spanned r) (matched_by g e) (λ c is. unknown_at_anew e c)

  pub unknown_anew : unknown_feature_keys (renamed r p) g ≡ map (spanned r) (unknown_feature_keys p g)
  unknown_anew = flat_map_anew (unknown_feature_keys_of (renamed r p) g) (unknown_feature_keys_of p g)
      (renamed_feature r) (spanned r) p.features (λ e written. unknown_of_anew e)

  -- ---- the feature `default`

  checks_same : (c : Crate) (level : LintLevel) → checks_default (renamed r p) c level ≡ checks_default p c level
  unfolding checks_default matches
  checks_same c Allow = refl
  checks_same c Warn = refl
  checks_same c Deny =
      ap (λ b. not b || list_any (leaves_default c) (map (renamed_feature r) p.features))
      (any_anew (λ e. matches e.spec c) (λ e. matches e.spec c) (renamed_feature r) p.features (λ e is. refl))
      ∙ ap (λ b. not (list_any (λ e. matches e.spec c) p.features) || b)
      (any_anew (leaves_default c) (leaves_default c) (renamed_feature r) p.features (λ e is. leaves_same r c e))

  default_of_anew : (c : Crate) (at : Spanned LintLevel)
      → default_enabled_keys_of (renamed r p) c (renamed_level r at) ≡ map (spanned r) (default_enabled_keys_of p c at)
  unfolding default_enabled_keys_of is_default_reported key_of
  default_of_anew c at =
      ap (λ b. if is_enabled c default_feature && b
      then crate_key code.DefaultFeatureEnabled c.place (r.span at.span) ∷ [] else []) (checks_same c at.value)
      ∙ by (is_enabled c default_feature && checks_default p c at.value)
    where
      by : (b : Bool)
          → (if b then crate_key code.DefaultFeatureEnabled c.place (r.span at.span) ∷ [] else [])
          ≡ map (spanned r) (if b then crate_key code.DefaultFeatureEnabled c.place at.span ∷ [] else [])
      by true = refl
      by false = refl

  default_at_anew : (c : Crate)
      → default_enabled_keys_at (renamed r p) g c ≡ map (spanned r) (default_enabled_keys_at p g c)
  unfolding default_enabled_keys_at
  default_at_anew c =
      ap (λ (o : Option (Spanned LintLevel)). option_map_or (default_enabled_keys_of (renamed r p) c) o [])
      (level_anew c)
      ∙ by (default_level p g c)
    where
      by : (o : Option (Spanned LintLevel))
          → option_map_or (default_enabled_keys_of (renamed r p) c) (option_map (renamed_level r) o) []
          ≡ map (spanned r) (option_map_or (default_enabled_keys_of p c) o [])
      by None = refl
      by (Some at) = default_of_anew c at

  pub default_anew : default_enabled_keys (renamed r p) g ≡ map (spanned r) (default_enabled_keys p g)
  default_anew = flat_map_alike (default_enabled_keys_at (renamed r p) g) (default_enabled_keys_at p g) (spanned r)
      g.crates (λ c is. default_at_anew c)

  -- ---- features that are not explicitly allowed

  not_allowed_of_there : (e : FeatureEntry) (c : Crate) (feature : List ℕ) → IsNotAllowedOf p g e c feature
      → IsNotAllowedOf (renamed r p) g (renamed_feature r e) c feature
  unfolding matches
  not_allowed_of_there e c feature is = record {
    matched_by = is.matched_by;
    inexact = is.inexact;
    some = ap (λ (n : ℕ). n == 0) (length-map e.allow.value (renamed_text r)) ∙ is.some;
    unlisted = subst (λ (features : List (List ℕ)). Contains features feature) (sym (unlisted_same e c)) is.unlisted;
    unreached = λ w allowed reached. let from = Contains-from_map (renamed_text r) e.allow.value w allowed in
        is.unreached from.from from.member
        (subst (λ (v : policy.SpannedText). Reaches c v.value feature) (sym from.is) reached);
  }

  not_allowed_of_back : (e : FeatureEntry) (c : Crate) (feature : List ℕ)
      → IsNotAllowedOf (renamed r p) g (renamed_feature r e) c feature → IsNotAllowedOf p g e c feature
  unfolding matches
  not_allowed_of_back e c feature is = record {
    matched_by = is.matched_by;
    inexact = is.inexact;
    some = ap (λ (n : ℕ). n == 0) (sym (length-map e.allow.value (renamed_text r))) ∙ is.some;
    unlisted = subst (λ (features : List (List ℕ)). Contains features feature) (unlisted_same e c) is.unlisted;
    unreached = λ w allowed reached.
        is.unreached (renamed_text r w) (contains_map (renamed_text r) e.allow.value w allowed) reached;
  }

  pub not_allowed_there : (key : Key) → IsFeatureNotAllowed p g key
      → IsFeatureNotAllowed (renamed r p) g (spanned r key)
  unfolding not_allowed_feature_key key_of
  not_allowed_there key is = record {
    entry = renamed_feature r is.entry;
    written = contains_map (renamed_feature r) p.features is.entry is.written;
    krate = is.krate;
    known = is.known;
    feature = is.feature;
    is_not_allowed = not_allowed_of_there is.entry is.krate is.feature is.is_not_allowed;
    is = ap (spanned r) is.is;
  }

  pub not_allowed_back : (key : Key) → IsFeatureNotAllowed (renamed r p) g key
      → (old : Key) × IsFeatureNotAllowed p g old × (key ≡ spanned r old)
  unfolding not_allowed_feature_key key_of
  not_allowed_back key is =
      let from = Contains-from_map (renamed_feature r) p.features is.entry is.written in (
        not_allowed_feature_key is.krate.place from.from.spec.span is.feature,
        record {
          entry = from.from;
          written = from.member;
          krate = is.krate;
          known = is.known;
          feature = is.feature;
          is_not_allowed = not_allowed_of_back from.from is.krate is.feature
              (subst (λ (e : FeatureEntry). IsNotAllowedOf (renamed r p) g e is.krate is.feature) (sym from.is)
              is.is_not_allowed);
          is = refl;
        },
        is.is ∙ ap (λ (e : FeatureEntry). not_allowed_feature_key is.krate.place e.spec.span is.feature) (sym from.is),
      )
