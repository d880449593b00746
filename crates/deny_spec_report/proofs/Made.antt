-- Keys have the code of their rule, and are in its section.
use Rattle.std.proofs.Common.{◌≡◌, ℕ, Bool, true, false, List, [], ◌∷◌, None, Option, Some, map, not, refl, subst, sym}
use Rattle.std.specs.Prelude.{◌&&◌, ◌==◌, Contains, filter, length, nat_le, if◌then◌else◌}
use Rattle.std.specs.List.{flat_map}
use Rattle.std.specs.Option.{option_map_or}
use Rattle.deny_base_lists.proofs.Members.{Contains-by_cases, Contains-from_flat_map, from_contains_map, no_member}
use Rattle.deny_base.specs.declared.code.Code.{Code}
use Rattle.deny_base.specs.declared.code.Code.TheVariants as code
use Rattle.deny_base.specs.declared.code.DiagnosticCode.TheVariants.{Bans, License}
use Rattle.deny_base.specs.declared.key.Key.{Key}
use Rattle.deny_base.specs.declared.key.Section.{Section}
use Rattle.deny_base.specs.declared.key.Section.TheVariants as section
use Rattle.deny_base.specs.declared.level.LintLevel.{LintLevel}
use Rattle.deny_base.specs.declared.license_code.LicenseCode.{LicenseCode}
use Rattle.deny_base.specs.declared.license_code.LicenseCode.TheVariants as license
use Rattle.deny_base.specs.declared.span.Span.{Span}
use Rattle.deny_base.specs.declared.span.Spanned.{Spanned}
use Rattle.deny_spdx.specs.declared.requirement.Requirement.{Requirement}
use Rattle.deny_spec.specs.Bans.{allowed_keys_of, is_not_allowed, not_allowed_keys, allowed_by_wrapper_keys_at}
use Rattle.deny_spec.specs.Bans.{allowed_by_wrapper_keys_of, banned_keys_of, is_banned, is_wrapped, is_wrapper}
use Rattle.deny_spec.specs.Bans.{unmatched_wrapper_keys_at, unmatched_wrapper_keys_of}
use Rattle.deny_spec.specs.Facts as chains
use Rattle.deny_spec.specs.Duplicates.{IsDuplicate}
use Rattle.deny_spec.specs.Graph.{Crate, Graph, dependents}
use Rattle.deny_spec.specs.Keys.{crate_key, dependent_key, duplicate_key, key_of, no_span, unused_key}
use Rattle.deny_spec.specs.Licensing.{Exception, Licensing}
use Rattle.deny_spec.specs.Match.{matches}
use Rattle.deny_spec.specs.Policy as policy
use Rattle.deny_spec.specs.Policy.{AllowEntry, Ban, Entry, FeatureEntry, Policy, Replacing, Root, Sharing}
use Rattle.deny_spec.specs.Skips.{has_root, is_skipped_by_root, skipped_by_root_keys_of, unmatched_skip_root_keys}
use Rattle.deny_spec.specs.Skips.{is_hit_skip, is_needless, is_skipped, skipped_keys_of, unmatched_skip_keys}
use Rattle.deny_spec.specs.Skips.{unnecessary_skip_keys}
use Rattle.deny_spec.specs.View.{Declared, View, WorkspaceEntry}
use Rattle.deny_spec.specs.Wrappers.{is_hit_wrapper, unused_wrapper_keys_of}
use Rattle.deny_spec_report.specs.AllowList.{allowed_keys}
use Rattle.deny_spec_report.specs.Bans.{allowed_by_wrapper_keys, banned_keys, unmatched_wrapper_keys}
use Rattle.deny_spec_report.specs.Features.{IsFeatureNotAllowed, banned_features, default_enabled_keys}
use Rattle.deny_spec_report.specs.Features.{default_enabled_keys_at, default_enabled_keys_of, default_level}
use Rattle.deny_spec_report.specs.Features.{feature_banned_keys, feature_banned_keys_at, feature_banned_keys_of}
use Rattle.deny_spec_report.specs.Features.{is_default_reported, is_mismatch_reported, mismatched_keys}
use Rattle.deny_spec_report.specs.Features.{mismatched_keys_of}
use Rattle.deny_spec_report.specs.Features.{not_allowed_feature_key, matched_by, unknown_feature_keys}
use Rattle.deny_spec_report.specs.Features.{unknown_feature_keys_at}
use Rattle.deny_spec_report.specs.Features.{unknown_feature_keys_of, unknown_features}
use Rattle.deny_spec_report.specs.Licences.{allowance_span, exception_not_encountered_keys, exception_span}
use Rattle.deny_spec_report.specs.Licences.{grants_by_allowance, grants_by_exception, is_hit_by, keys_where}
use Rattle.deny_spec_report.specs.Licences.{license_key}
use Rattle.deny_spec_report.specs.Licences.{licensed_key, not_encountered_keys}
use Rattle.deny_spec_report.specs.SkippedTrees.{skipped_by_root_keys}
use Rattle.deny_spec_report.specs.Skips.{skipped_keys}
use Rattle.deny_spec_report.specs.Circumstances.{Circumstances}
use Rattle.deny_spec_report.specs.Saying.{Saying, said_by}
use Rattle.deny_spec_report.specs.StdReplacements.{ignore_span, is_reported_replaced, is_unmatched_ignore, replaced_key}
use Rattle.deny_spec_report.specs.StdReplacements.{replaced_keys, replaced_keys_in, unmatched_ignore_keys}
use Rattle.deny_spec_report.specs.StdReplacements.{unmatched_ignore_keys_in}
use Rattle.deny_spec_report.specs.Sharing.{is_duplicated, unused_entry_key, unused_entry_keys, unused_entry_keys_by}
use Rattle.deny_spec_report.specs.Sharing.{uses_of}
use Rattle.deny_spec_report.specs.Sharing.{workspace_duplicate_keys, workspace_duplicate_keys_by}
use Rattle.deny_spec_report.specs.Sharing.{workspace_duplicate_keys_of}
use Rattle.deny_spec_report.specs.Wildcards.{is_active, is_unresolved, unresolved_key, unresolved_keys}
use Rattle.deny_spec_report.specs.Wildcards.{unresolved_keys_of}
use Rattle.deny_spec_report.specs.Wildcards.{wildcard_keys, wildcard_keys_of, wildcards_of}
use Rattle.deny_spec_report.specs.Wrappers.{unused_wrapper_keys}

pub record Made (s : Section) (d : Code) (key : Key) : Type 0 where
  pub code_is : key.code ≡ Bans d
  pub section_is : key.section ≡ s

made_key : (s : Section) (d : Code) (place : ℕ) (entry : Span) (other : ℕ) → Made s d (key_of s d place entry other)
unfolding key_of
made_key s d place entry other = record { code_is = refl; section_is = refl }

made_map : {X : Type 0} (s : Section) (d : Code) (f : X → Key) (xs : List X) (key : Key) → ((x : X) → Made s d (f x))
    → Contains (map f xs) key → Made s d key
made_map s d f xs key each is =
    let from = from_contains_map f xs key is in
    subst (Made s d) from.2 (each from.0)

made_flat : {X : Type 0} (s : Section) (d : Code) (f : X → List Key) (xs : List X) (key : Key)
    → ((x : X) → Contains (f x) key → Made s d key)
    → Contains (flat_map f xs) key → Made s d key
made_flat s d f xs key each is =
    let from = Contains-from_flat_map f xs key is in
    each from.from from.of

-- ---- bans

banned_of : (p : Policy) (g : Graph) (key : Key) (ban : Ban) → Contains (banned_keys_of p g ban) key
    → Made section.Crates code.Banned key
unfolding banned_keys_of
banned_of p g key ban is = made_map section.Crates code.Banned (λ c. crate_key code.Banned c.place ban.spec.span)
    (filter (is_banned p g ban) g.crates) key
    (λ c. made_key section.Crates code.Banned c.place ban.spec.span 0) is

pub banned_made : (p : Policy) (g : Graph) (key : Key) → Contains (banned_keys p g) key
    → Made section.Crates code.Banned key
banned_made p g key is = made_flat section.Crates code.Banned (banned_keys_of p g) p.deny key (banned_of p g key) is

allowed_at : (g : Graph) (key : Key) (ban : Ban) (c : Crate) → Contains (allowed_by_wrapper_keys_at g ban c) key
    → Made section.Crates code.AllowedByWrapper key
unfolding allowed_by_wrapper_keys_at
allowed_at g key ban c is = made_map section.Crates code.AllowedByWrapper
    (λ (parent : Crate). dependent_key code.AllowedByWrapper c.place ban.spec.span parent.place)
    (filter (is_wrapper ban.wrappers) (dependents g c.place)) key
    (λ parent. made_key section.Crates code.AllowedByWrapper c.place ban.spec.span parent.place) is

allowed_of_ban : (p : Policy) (g : Graph) (key : Key) (ban : Ban) → Contains (allowed_by_wrapper_keys_of p g ban) key
    → Made section.Crates code.AllowedByWrapper key
unfolding allowed_by_wrapper_keys_of
allowed_of_ban p g key ban is = made_flat section.Crates code.AllowedByWrapper (allowed_by_wrapper_keys_at g ban)
    (filter (is_wrapped p g ban) g.crates) key (allowed_at g key ban) is

pub allowed_by_wrapper_made : (p : Policy) (g : Graph) (key : Key) → Contains (allowed_by_wrapper_keys p g) key
    → Made section.Crates code.AllowedByWrapper key
allowed_by_wrapper_made p g key is = made_flat section.Crates code.AllowedByWrapper (allowed_by_wrapper_keys_of p g)
    p.deny key (allowed_of_ban p g key) is

unmatched_at : (g : Graph) (key : Key) (ban : Ban) (c : Crate) → Contains (unmatched_wrapper_keys_at g ban c) key
    → Made section.Crates code.UnmatchedWrapper key
unfolding unmatched_wrapper_keys_at
unmatched_at g key ban c is = made_map section.Crates code.UnmatchedWrapper
    (λ (parent : Crate). dependent_key code.UnmatchedWrapper c.place ban.spec.span parent.place)
    (filter (λ parent. not (is_wrapper ban.wrappers parent)) (dependents g c.place)) key
    (λ parent. made_key section.Crates code.UnmatchedWrapper c.place ban.spec.span parent.place) is

unmatched_of_ban : (p : Policy) (g : Graph) (key : Key) (ban : Ban) → Contains (unmatched_wrapper_keys_of p g ban) key
    → Made section.Crates code.UnmatchedWrapper key
unfolding unmatched_wrapper_keys_of
unmatched_of_ban p g key ban is = made_flat section.Crates code.UnmatchedWrapper (unmatched_wrapper_keys_at g ban)
    (filter (is_wrapped p g ban) g.crates) key (unmatched_at g key ban) is

pub unmatched_wrapper_made : (p : Policy) (g : Graph) (key : Key) → Contains (unmatched_wrapper_keys p g) key
    → Made section.Crates code.UnmatchedWrapper key
unmatched_wrapper_made p g key is = made_flat section.Crates code.UnmatchedWrapper (unmatched_wrapper_keys_of p g)
    p.deny key (unmatched_of_ban p g key) is

unused_of_ban : (p : Policy) (g : Graph) (key : Key) (ban : Ban) → Contains (unused_wrapper_keys_of p g ban) key
    → Made section.Unused code.UnusedWrapper key
unfolding unused_wrapper_keys_of
unused_of_ban p g key ban is = made_map section.Unused code.UnusedWrapper
    (λ (w : policy.SpannedText). unused_key code.UnusedWrapper w.span)
    (filter (λ w. not (is_hit_wrapper p g ban w)) ban.wrappers) key
    (λ w. made_key section.Unused code.UnusedWrapper 0 w.span 0) is

pub unused_wrapper_made : (p : Policy) (g : Graph) (key : Key) → Contains (unused_wrapper_keys p g) key
    → Made section.Unused code.UnusedWrapper key
unused_wrapper_made p g key is = made_flat section.Unused code.UnusedWrapper (unused_wrapper_keys_of p g) p.deny key
    (unused_of_ban p g key) is

-- ---- the allow list

allowed_of : (g : Graph) (key : Key) (e : AllowEntry) → Contains (allowed_keys_of g e) key
    → Made section.Crates code.Allowed key
unfolding allowed_keys_of
allowed_of g key e is = made_map section.Crates code.Allowed
    (λ (c : Crate). crate_key code.Allowed c.place e.spec.span) (filter (matches e.spec) g.crates) key
    (λ c. made_key section.Crates code.Allowed c.place e.spec.span 0) is

pub allowed_made : (p : Policy) (g : Graph) (key : Key) → Contains (allowed_keys p g) key
    → Made section.Crates code.Allowed key
allowed_made p g key is = made_flat section.Crates code.Allowed (allowed_keys_of g) p.allow key (allowed_of g key) is

pub not_allowed_made : (p : Policy) (g : Graph) (key : Key) → Contains (not_allowed_keys p g) key
    → Made section.Crates code.NotAllowed key
unfolding not_allowed_keys
not_allowed_made p g key is = made_map section.Crates code.NotAllowed
    (λ (c : Crate). crate_key code.NotAllowed c.place no_span) (filter (is_not_allowed p g) g.crates) key
    (λ c. made_key section.Crates code.NotAllowed c.place no_span 0) is

-- ---- skips and skipped trees

skipped_of : (g : Graph) (facts : chains.Facts) (key : Key) (s : Entry) → Contains (skipped_keys_of g facts s) key
    → Made section.Crates code.Skipped key
unfolding skipped_keys_of
skipped_of g facts key s is = made_map section.Crates code.Skipped
    (λ (c : Crate). crate_key code.Skipped c.place s.spec.span) (filter (is_skipped facts s) g.crates) key
    (λ c. made_key section.Crates code.Skipped c.place s.spec.span 0) is

pub skipped_made : (p : Policy) (g : Graph) (facts : chains.Facts) (key : Key) → Contains (skipped_keys p g facts) key
    → Made section.Crates code.Skipped key
skipped_made p g facts key is = made_flat section.Crates code.Skipped (skipped_keys_of g facts) p.skip key
    (skipped_of g facts key) is

pub unmatched_skip_made : (p : Policy) (g : Graph) (facts : chains.Facts) (key : Key)
    → Contains (unmatched_skip_keys p g facts) key → Made section.Unused code.UnmatchedSkip key
unfolding unmatched_skip_keys
unmatched_skip_made p g facts key is = made_map section.Unused code.UnmatchedSkip
    (λ (s : Entry). unused_key code.UnmatchedSkip s.spec.span)
    (filter (λ s. not (is_hit_skip g facts s)) p.skip) key (λ s. made_key section.Unused code.UnmatchedSkip 0
    s.spec.span 0) is

pub unnecessary_skip_made : (p : Policy) (g : Graph) (facts : chains.Facts) (key : Key)
    → Contains (unnecessary_skip_keys p g facts) key → Made section.Unused code.UnnecessarySkip key
unfolding unnecessary_skip_keys
unnecessary_skip_made p g facts key is = made_map section.Unused code.UnnecessarySkip
    (λ (s : Entry). unused_key code.UnnecessarySkip s.spec.span)
    (filter (is_needless p g facts) p.skip) key (λ s. made_key section.Unused code.UnnecessarySkip 0 s.spec.span 0) is

in_tree_of : (p : Policy) (g : Graph) (facts : chains.Facts) (key : Key) (t : Root)
    → Contains (skipped_by_root_keys_of p g facts t) key → Made section.Crates code.SkippedByRoot key
unfolding skipped_by_root_keys_of
in_tree_of p g facts key t is = made_map section.Crates code.SkippedByRoot
    (λ (c : Crate). crate_key code.SkippedByRoot c.place t.spec.span) (filter (is_skipped_by_root p facts t) g.crates)
    key
    (λ c. made_key section.Crates code.SkippedByRoot c.place t.spec.span 0) is

pub skipped_by_root_made : (p : Policy) (g : Graph) (facts : chains.Facts) (key : Key)
    → Contains (skipped_by_root_keys p g facts) key → Made section.Crates code.SkippedByRoot key
skipped_by_root_made p g facts key is = made_flat section.Crates code.SkippedByRoot (skipped_by_root_keys_of p g facts)
    p.skip_tree key (in_tree_of p g facts key) is

pub unmatched_skip_root_made : (p : Policy) (g : Graph) (key : Key) → Contains (unmatched_skip_root_keys p g) key
    → Made section.Unused code.UnmatchedSkipRoot key
unfolding unmatched_skip_root_keys
unmatched_skip_root_made p g key is = made_map section.Unused code.UnmatchedSkipRoot
    (λ (t : Root). unused_key code.UnmatchedSkipRoot t.spec.span)
    (filter (λ t. not (has_root g t)) p.skip_tree) key (λ t. made_key section.Unused code.UnmatchedSkipRoot 0
    t.spec.span 0) is

-- ---- duplicates

duplicate_key_made : (places : List ℕ) → Made section.Groups code.Duplicate (duplicate_key places)
unfolding duplicate_key
duplicate_key_made places = record { code_is = refl; section_is = refl }

pub duplicate_made : (p : Policy) (g : Graph) (facts : chains.Facts) (key : Key) → IsDuplicate p g facts key
    → Made section.Groups code.Duplicate key
duplicate_made p g facts key found =
    subst (Made section.Groups code.Duplicate) (sym found.2.is)
    (duplicate_key_made (map (λ (c : Crate). c.place) found.2.crates))

-- ---- what the standard library replaces

replaced_of : (r : Replacing) (g : Graph) (said : Saying) (key : Key) → Contains (replaced_keys r g said) key
    → Made section.Std code.ReplacedInStd key
unfolding replaced_keys
replaced_of r g said key is = made_map section.Std code.ReplacedInStd (λ (c : Crate). replaced_key c.place)
    (filter (is_reported_replaced r g said) g.crates) key
    (λ c. made_key section.Std code.ReplacedInStd c.place no_span 0) is

ignore_unmatched : (r : Replacing) (g : Graph) (said : Saying) (key : Key)
    → Contains (unmatched_ignore_keys r g said) key → Made section.Unused code.UnmatchedReplacementIgnore key
unfolding unmatched_ignore_keys
ignore_unmatched r g said key is = made_map section.Unused code.UnmatchedReplacementIgnore
    (λ (e : Entry). unused_key code.UnmatchedReplacementIgnore (ignore_span e))
    (filter (is_unmatched_ignore r g said) r.ignore) key
    (λ e. made_key section.Unused code.UnmatchedReplacementIgnore 0 (ignore_span e) 0) is

pub replaced_made : (c : Circumstances) (key : Key) → Contains (replaced_keys_in c) key
    → Made section.Std code.ReplacedInStd key
replaced_made c key is = by c.policy.replacing is
  where
    by : (o : Option Replacing) → Contains (option_map_or (λ r. replaced_keys r c.graph (said_by c.table)) o []) key
        → Made section.Std code.ReplacedInStd key
    by None is = absurd (no_member key is)
    by (Some r) is = replaced_of r c.graph (said_by c.table) key is

pub unmatched_ignore_made : (c : Circumstances) (key : Key) → Contains (unmatched_ignore_keys_in c) key
    → Made section.Unused code.UnmatchedReplacementIgnore key
unmatched_ignore_made c key is = by c.policy.replacing is
  where
    by : (o : Option Replacing)
        → Contains (option_map_or (λ r. unmatched_ignore_keys r c.graph (said_by c.table)) o []) key
        → Made section.Unused code.UnmatchedReplacementIgnore key
    by None is = absurd (no_member key is)
    by (Some r) is = ignore_unmatched r c.graph (said_by c.table) key is

-- ---- features

mismatched_of : (p : Policy) (g : Graph) (key : Key) (e : FeatureEntry) → Contains (mismatched_keys_of p g e) key
    → Made section.Crates code.ExactFeaturesMismatch key
unfolding mismatched_keys_of
mismatched_of p g key e is = made_map section.Crates code.ExactFeaturesMismatch
    (λ (c : Crate). crate_key code.ExactFeaturesMismatch c.place e.spec.span)
    (filter (is_mismatch_reported p g e) g.crates) key
    (λ c. made_key section.Crates code.ExactFeaturesMismatch c.place e.spec.span 0) is

pub mismatched_made : (p : Policy) (g : Graph) (key : Key) → Contains (mismatched_keys p g) key
    → Made section.Crates code.ExactFeaturesMismatch key
mismatched_made p g key is = made_flat section.Crates code.ExactFeaturesMismatch (mismatched_keys_of p g) p.features key
    (mismatched_of p g key) is

not_allowed_feature_made : (place : ℕ) (entry : Span) (feature : List ℕ)
    → Made section.Crates code.FeatureNotExplicitlyAllowed (not_allowed_feature_key place entry feature)
unfolding not_allowed_feature_key key_of
not_allowed_feature_made place entry feature = record { code_is = refl; section_is = refl }

pub feature_not_allowed_made : (p : Policy) (g : Graph) (key : Key) → IsFeatureNotAllowed p g key
    → Made section.Crates code.FeatureNotExplicitlyAllowed key
feature_not_allowed_made p g key is = subst (Made section.Crates code.FeatureNotExplicitlyAllowed) (sym is.is)
    (not_allowed_feature_made is.krate.place is.entry.spec.span is.feature)

feature_banned_at : (key : Key) (e : FeatureEntry) (c : Crate) → Contains (feature_banned_keys_at e c) key
    → Made section.Crates code.FeatureBanned key
unfolding feature_banned_keys_at
feature_banned_at key e c is = made_map section.Crates code.FeatureBanned
    (λ (w : policy.SpannedText). crate_key code.FeatureBanned c.place w.span) (banned_features e c) key
    (λ w. made_key section.Crates code.FeatureBanned c.place w.span 0) is

feature_banned_of : (g : Graph) (key : Key) (e : FeatureEntry) → Contains (feature_banned_keys_of g e) key
    → Made section.Crates code.FeatureBanned key
unfolding feature_banned_keys_of
feature_banned_of g key e is =
    made_flat section.Crates code.FeatureBanned (feature_banned_keys_at e) (matched_by g e) key
    (feature_banned_at key e) is

pub feature_banned_made : (p : Policy) (g : Graph) (key : Key) → Contains (feature_banned_keys p g) key
    → Made section.Crates code.FeatureBanned key
feature_banned_made p g key is = made_flat section.Crates code.FeatureBanned (feature_banned_keys_of g) p.features key
    (feature_banned_of g key) is

unknown_feature_at : (p : Policy) (g : Graph) (key : Key) (e : FeatureEntry) (c : Crate)
    → Contains (unknown_feature_keys_at p g e c) key → Made section.Crates code.UnknownFeature key
unfolding unknown_feature_keys_at
unknown_feature_at p g key e c is = made_map section.Crates code.UnknownFeature
    (λ (w : policy.SpannedText). crate_key code.UnknownFeature c.place w.span) (unknown_features p g e c) key
    (λ w. made_key section.Crates code.UnknownFeature c.place w.span 0) is

unknown_feature_of : (p : Policy) (g : Graph) (key : Key) (e : FeatureEntry)
    → Contains (unknown_feature_keys_of p g e) key → Made section.Crates code.UnknownFeature key
unfolding unknown_feature_keys_of
unknown_feature_of p g key e is = made_flat section.Crates code.UnknownFeature (unknown_feature_keys_at p g e)
    (matched_by g e) key (unknown_feature_at p g key e) is

pub unknown_feature_made : (p : Policy) (g : Graph) (key : Key) → Contains (unknown_feature_keys p g) key
    → Made section.Crates code.UnknownFeature key
unknown_feature_made p g key is = made_flat section.Crates code.UnknownFeature (unknown_feature_keys_of p g) p.features
    key (unknown_feature_of p g key) is

default_enabled_of : (p : Policy) (c : Crate) (key : Key) (at : Spanned LintLevel)
    → Contains (default_enabled_keys_of p c at) key → Made section.Crates code.DefaultFeatureEnabled key
unfolding default_enabled_keys_of
default_enabled_of p c key at is = by (is_default_reported p c at) is
  where
    by : (b : Bool)
        → Contains (if b then crate_key code.DefaultFeatureEnabled c.place at.span ∷ [] else []) key
        → Made section.Crates code.DefaultFeatureEnabled key
    by true is = Contains-by_cases (crate_key code.DefaultFeatureEnabled c.place at.span) [] key is
        (λ same. subst (Made section.Crates code.DefaultFeatureEnabled) same
        (made_key section.Crates code.DefaultFeatureEnabled c.place at.span 0))
        (λ more. absurd (no_member key more))
    by false is = absurd (no_member key is)

default_enabled_at : (p : Policy) (g : Graph) (key : Key) (c : Crate) → Contains (default_enabled_keys_at p g c) key
    → Made section.Crates code.DefaultFeatureEnabled key
unfolding default_enabled_keys_at
default_enabled_at p g key c is = by (default_level p g c) is
  where
    by : (o : Option (Spanned LintLevel)) → Contains (option_map_or (default_enabled_keys_of p c) o []) key
        → Made section.Crates code.DefaultFeatureEnabled key
    by None is = absurd (no_member key is)
    by (Some at) is = default_enabled_of p c key at is

pub default_enabled_made : (p : Policy) (g : Graph) (key : Key) → Contains (default_enabled_keys p g) key
    → Made section.Crates code.DefaultFeatureEnabled key
default_enabled_made p g key is = made_flat section.Crates code.DefaultFeatureEnabled (default_enabled_keys_at p g)
    g.crates key (default_enabled_at p g key) is

-- ---- dependencies that manifests write

module _ (s : Section) (d : Code) (key : Key) where
  made_none : Contains [] key → Made s d key
  made_none is = absurd (no_member key is)

  made_one : (k : Key) → Made s d k → Contains (k ∷ []) key → Made s d key
  made_one k made is = Contains-by_cases k [] key is (λ same. subst (Made s d) same made) made_none

  made_if : (b : Bool) (these those : List Key) → (Contains these key → Made s d key)
      → (Contains those key → Made s d key) → Contains (if b then these else those) key → Made s d key
  made_if true these those one other is = one is
  made_if false these those one other is = other is

  made_where : {X : Type 0} (f : X → List Key) (o : Option X) → ((x : X) → Contains (f x) key → Made s d key)
      → Contains (option_map_or f o []) key → Made s d key
  made_where f None each is = made_none is
  made_where f (Some x) each is = each x is

module _ (p : Policy) (g : Graph) (facts : chains.Facts) (view : View) (key : Key) where
  wildcard_of : (c : Crate) → Contains (wildcard_keys_of p g facts view c) key → Made section.Crates code.Wildcard key
  unfolding wildcard_keys_of
  wildcard_of c is = made_if section.Crates code.Wildcard key (length (wildcards_of p g facts view c) == 0) []
      (crate_key code.Wildcard c.place no_span ∷ []) (made_none section.Crates code.Wildcard key)
      (made_one section.Crates code.Wildcard key (crate_key code.Wildcard c.place no_span)
      (made_key section.Crates code.Wildcard c.place no_span 0)) is

  pub wildcard_made : Contains (wildcard_keys p g facts view) key → Made section.Crates code.Wildcard key
  wildcard_made is = made_if section.Crates code.Wildcard key (is_active p.wildcards)
      (flat_map (wildcard_keys_of p g facts view) g.crates) []
      (made_flat section.Crates code.Wildcard (wildcard_keys_of p g facts view) g.crates key wildcard_of)
      (made_none section.Crates code.Wildcard key) is

  unresolved_key_made : (c : Crate) (d : Declared)
      → Made section.Crates code.UnresolvedWorkspaceDependency (unresolved_key c d)
  unfolding unresolved_key
  unresolved_key_made c d = made_key section.Crates code.UnresolvedWorkspaceDependency c.place d.key 0

  unresolved_of : (c : Crate) → Contains (unresolved_keys_of p g facts view c) key
      → Made section.Crates code.UnresolvedWorkspaceDependency key
  unfolding unresolved_keys_of
  unresolved_of c is = made_map section.Crates code.UnresolvedWorkspaceDependency (unresolved_key c)
      (filter (is_unresolved view) (wildcards_of p g facts view c)) key (unresolved_key_made c) is

  pub unresolved_made : Contains (unresolved_keys p g facts view) key
      → Made section.Crates code.UnresolvedWorkspaceDependency key
  unresolved_made is = made_if section.Crates code.UnresolvedWorkspaceDependency key (is_active p.wildcards)
      (flat_map (unresolved_keys_of p g facts view) g.crates) []
      (made_flat section.Crates code.UnresolvedWorkspaceDependency (unresolved_keys_of p g facts view) g.crates key
      unresolved_of)
      (made_none section.Crates code.UnresolvedWorkspaceDependency key) is

module _ (g : Graph) (view : View) (key : Key) where
  shared_twice : (s : Sharing) (c : Crate) → Contains (workspace_duplicate_keys_of s g view c) key
      → Made section.Workspace code.WorkspaceDuplicate key
  unfolding workspace_duplicate_keys_of
  shared_twice s c is = made_if section.Workspace code.WorkspaceDuplicate key
      (is_duplicated (uses_of s g view c.place))
      (key_of section.Workspace code.WorkspaceDuplicate c.place no_span 0 ∷ []) []
      (made_one section.Workspace code.WorkspaceDuplicate key
      (key_of section.Workspace code.WorkspaceDuplicate c.place no_span 0)
      (made_key section.Workspace code.WorkspaceDuplicate c.place no_span 0))
      (made_none section.Workspace code.WorkspaceDuplicate key) is

  shared_by : (s : Sharing) → Contains (workspace_duplicate_keys_by g view s) key
      → Made section.Workspace code.WorkspaceDuplicate key
  unfolding workspace_duplicate_keys_by
  shared_by s is = made_if section.Workspace code.WorkspaceDuplicate key
      (is_active s.duplicates && nat_le 2 (length g.members))
      (flat_map (workspace_duplicate_keys_of s g view) g.crates) []
      (made_flat section.Workspace code.WorkspaceDuplicate (workspace_duplicate_keys_of s g view) g.crates key
      (shared_twice s))
      (made_none section.Workspace code.WorkspaceDuplicate key) is

  pub workspace_duplicate_made : (p : Policy) → Contains (workspace_duplicate_keys p g view) key
      → Made section.Workspace code.WorkspaceDuplicate key
  workspace_duplicate_made p is = made_where section.Workspace code.WorkspaceDuplicate key
      (workspace_duplicate_keys_by g view) p.sharing shared_by is

unused_entry_key_made : (e : WorkspaceEntry)
    → Made section.Workspace code.UnusedWorkspaceDependency (unused_entry_key e)
unfolding unused_entry_key
unused_entry_key_made e = made_key section.Workspace code.UnusedWorkspaceDependency 0 e.key 0

unused_by : (view : View) (key : Key) (s : Sharing) → Contains (unused_entry_keys_by view s) key
    → Made section.Workspace code.UnusedWorkspaceDependency key
unfolding unused_entry_keys_by
unused_by view key s is = made_if section.Workspace code.UnusedWorkspaceDependency key (is_active s.unused)
    (map unused_entry_key view.unused) []
    (made_map section.Workspace code.UnusedWorkspaceDependency unused_entry_key view.unused key unused_entry_key_made)
    (made_none section.Workspace code.UnusedWorkspaceDependency key) is

pub unused_entry_made : (p : Policy) (view : View) (key : Key) → Contains (unused_entry_keys p view) key
    → Made section.Workspace code.UnusedWorkspaceDependency key
unused_entry_made p view key is = made_where section.Workspace code.UnusedWorkspaceDependency key
    (unused_entry_keys_by view) p.sharing (unused_by view key) is

-- ---- licences

pub record MadeLicensed (s : Section) (d : LicenseCode) (key : Key) : Type 0 where
  pub code_is : key.code ≡ License d
  pub section_is : key.section ≡ s

made_license_key : (s : Section) (d : LicenseCode) (place : ℕ) (entry : Span)
    → MadeLicensed s d (license_key s d place entry)
made_license_key s d place entry = record { code_is = refl; section_is = refl }

made_licensed : {X : Type 0} (s : Section) (d : LicenseCode) (f : X → Key) (xs : List X) (key : Key)
    → ((x : X) → MadeLicensed s d (f x)) → Contains (map f xs) key → MadeLicensed s d key
made_licensed s d f xs key each is =
    let from = from_contains_map f xs key is in
    subst (MadeLicensed s d) from.2 (each from.0)

pub where_made : (d : LicenseCode) (is : Crate → Bool) (g : Graph) (key : Key) → Contains (keys_where d is g) key
    → MadeLicensed section.Licenses d key
unfolding keys_where
where_made d is g key listed = made_licensed section.Licenses d (licensed_key d) (filter is g.crates) key
    (λ c. made_license_key section.Licenses d c.place no_span) listed

pub not_encountered_made : (counts : Crate → Bool) (l : Licensing) (g : Graph) (key : Key)
    → Contains (not_encountered_keys counts l g) key
    → MadeLicensed section.LicensesUnused license.LicenseNotEncountered key
unfolding not_encountered_keys
not_encountered_made counts l g key is = made_licensed section.LicensesUnused license.LicenseNotEncountered
    (λ (a : Spanned Requirement). license_key section.LicensesUnused license.LicenseNotEncountered 0
    (allowance_span a))
    (filter (λ a. not (is_hit_by counts l g (grants_by_allowance l a))) l.allow) key
    (λ a. made_license_key section.LicensesUnused license.LicenseNotEncountered 0 (allowance_span a)) is

pub exception_not_encountered_made : (counts : Crate → Bool) (l : Licensing) (g : Graph) (key : Key)
    → Contains (exception_not_encountered_keys counts l g) key
    → MadeLicensed section.LicensesUnused license.LicenseExceptionNotEncountered key
unfolding exception_not_encountered_keys
exception_not_encountered_made counts l g key is = made_licensed section.LicensesUnused
    license.LicenseExceptionNotEncountered
    (λ (e : Exception). license_key section.LicensesUnused license.LicenseExceptionNotEncountered 0 (exception_span e))
    (filter (λ e. not (is_hit_by counts l g (grants_by_exception l e))) l.exceptions) key
    (λ e. made_license_key section.LicensesUnused license.LicenseExceptionNotEncountered 0 (exception_span e)) is
