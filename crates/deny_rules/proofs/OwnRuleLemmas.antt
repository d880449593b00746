-- The keys in the sections of the bans check: those of its rules, a line for each rule, and behind them those of
-- replaced crates.
use Rattle.std.proofs.Common.{◌≡◌, ◌<◌, ◌++◌, ◌⊎◌, ℕ, Bool, true, false, List, [], arith, inl, inr, refl, subst, sym}
use Rattle.std.specs.List.{AllByRecursion, flat_map}
use Rattle.std.specs.Option.{option_map_or}
use Rattle.std.specs.Prelude.{◌||◌, Contains, IsTrue, None, Option, Some, filter, length, not, slice_index_or}
use Rattle.std.specs.declared.cmp.Ordering.TheVariants.{Less}
use Rattle.std.proofs.lemmas.Bool.{false≢true}
use Rattle.std.proofs.lemmas.List.Elements.{Contains-append_cases}
use Rattle.deny_base_lists.specs.Ascending.{Adds, Lists}
use Rattle.deny_base_lists.proofs.Adding.{adds_then}
use Rattle.deny_base_lists.proofs.Members.{Contains-flat_map, Contains-from_flat_map, at_member, no_member}
use Rattle.deny_base.specs.Code.{code_number, diagnostic_code_cmp, diagnostic_code_number, is_of_builds}
use Rattle.deny_base.specs.Code.{is_reported_here, section_cmp, section_number}
use Rattle.deny_base.specs.KeyOrder.{key_cmp}
use Rattle.deny_base.specs.declared.code.Code.{Code}
use Rattle.deny_base.specs.declared.code.Code.TheVariants as code
use Rattle.deny_base.specs.declared.code.DiagnosticCode.{DiagnosticCode}
use Rattle.deny_base.specs.declared.code.DiagnosticCode.TheVariants.{Deprecated, Bans, License, Expired}
use Rattle.deny_base.specs.declared.key.Key.{Key}
use Rattle.deny_base.specs.declared.key.Section.{Section}
use Rattle.deny_base.specs.declared.key.Section.TheVariants as section
use Rattle.deny_base.proofs.CodeEqual.{each_code}
use Rattle.deny_spec.specs.Duplicates.{IsDuplicate}
use Rattle.deny_spec.specs.Building.{Building}
use Rattle.deny_spec_report.specs.BuildScripts.{bypass_span}
use Rattle.deny_spec_report.specs.Circumstances.{Circumstances}
use Rattle.deny_spec_report.specs.Codes.{is_of_bans}
use Rattle.deny_spec_report.specs.EachCode.{HoldsAs}
use Rattle.deny_spec_report.specs.Facts.{Facts}
use Rattle.deny_spec_report.specs.Packages.{build_keys_in, Scanning, build_keys, is_used, scanning, package_keys}
use Rattle.deny_spec_report.specs.Packages.{unmatched_bypass_keys}
use Rattle.deny_spec_report.specs.Holding.{ListsOwn, Holds, HoldsBy, HoldsIn}
use Rattle.deny_spec_report.proofs.BuildMade.{build_made, MadeOfBuilds}
use Rattle.deny_spec_report.proofs.Made.{Made, allowed_by_wrapper_made, allowed_made, banned_made, default_enabled_made}
use Rattle.deny_spec_report.proofs.Made.{duplicate_made, feature_banned_made, feature_not_allowed_made, mismatched_made}
use Rattle.deny_spec_report.proofs.Made.{not_allowed_made, replaced_made, skipped_by_root_made, skipped_made}
use Rattle.deny_spec_report.proofs.Made.{unknown_feature_made, unmatched_ignore_made, unmatched_wrapper_made}
use Rattle.deny_spec_report.proofs.Made.{unresolved_made, unused_entry_made, wildcard_made, workspace_duplicate_made}
use Rattle.deny_spec_report.proofs.Parts.{lists_append, lists_same}
use Rattle.deny_spec_report.proofs.Sections.{as_deprecated, as_expired, not_licensed, not_of_bans}
use Rattle.deny_std.specs.Found.{IsOfStd}
use Rattle.deny_rules_features.specs.FeatureKeys.{IsOfFeatures}
use Rattle.deny_rules_manifests.specs.ManifestKeys.{IsOfManifests}
use Rattle.deny_rules_crates.specs.Rules.{ban_rules, keys_of_rules, skip_rules}
use Rattle.deny_rules.specs.private.OwnRules.{IsByRule}
use Rattle.deny_rules.proofs.BuildSections.{key_of_crates}
use Rattle.deny_rules.proofs.StdLastLemmas.{IsFirst, IsUnused, of_section, of_unused, unmatched_roots}
use Rattle.deny_rules.proofs.StdLastLemmas.{unmatched_skips, unnecessary_skips, unused_made, unused_map}
use Rattle.deny_rules.proofs.StdLastLemmas.{unused_wrappers}

-- the codes of builds are reported by the table over codes
builds_reported : DiagnosticCode → Bool
builds_reported Deprecated = true
builds_reported (Bans d) = not (is_of_builds d) || is_reported_here (Bans d)
builds_reported (License d) = true
builds_reported Expired = true

both_hold : (a b : Bool) → (not a || b) ≡ true → a ≡ true → b ≡ true
both_hold true b all is = all
both_hold false b all is = absurd (false≢true is)

reported_of_builds : (d : Code) → is_of_builds d ≡ true → IsTrue (is_reported_here (Bans d))
unfolding builds_reported
reported_of_builds d mine = both_hold (is_of_builds d) (is_reported_here (Bans d))
    (each_code builds_reported refl (Bans d)) mine

module _ (c : Circumstances) (facts : Facts) where
  abbrev IsOwn : Key → Type 0
  IsOwn key = HoldsIn is_of_bans c facts key

  -- the key holds by one of the rules
  abbrev ByRule : Key → Type 0
  ByRule key = IsByRule c facts key

  -- a key that is made for a code, in a section of the bans check, holds as its own
  own : (s : Section) (d : Code) (key : Key) → IsTrue (is_of_bans s) → Made s d key → HoldsAs d c facts key → IsOwn key
  own s d key mine made is = (
    subst (λ (t : Section). IsTrue (is_of_bans t)) (sym made.section_is) mine,
    subst (λ (e : DiagnosticCode). HoldsBy e c facts key) (sym made.code_is) is,
  )

  -- a key of a rule holds, is reported by the table over codes, and comes before the keys of replaced crates
  abbrev IsSound : Key → Type 0
  IsSound key = IsOwn key × IsFirst key

  abbrev AreSound : List Key → Type 0
  AreSound keys = (key : Key) → Contains keys key → IsSound key

  -- a key of a section before that of unused entries is sound
  sound_in : (s : Section) (d : Code) (key : Key) → IsTrue (is_of_bans s) → IsTrue (is_reported_here (Bans d))
      → section_cmp s section.Unused ≡ Less → section_cmp s section.Std ≡ Less → Made s d key
      → HoldsAs d c facts key → IsSound key
  sound_in s d key mine here unused std made is = (own s d key mine made is, of_section s d key here unused std made)

  of_crate : (d : Code) (key : Key) → IsTrue (is_reported_here (Bans d)) → Made section.Crates d key
      → HoldsAs d c facts key → IsSound key
  unfolding section_number
  of_crate d key here made is = sound_in section.Crates d key refl here refl refl made is

  -- a key of an unused entry that comes before those of replaced crates is sound
  of_entry : (d : Code) (key : Key) → IsTrue (is_reported_here (Bans d))
      → diagnostic_code_cmp (Bans d) (Bans code.UnmatchedReplacementIgnore) ≡ Less → IsUnused d key
      → HoldsAs d c facts key → IsSound key
  unfolding section_number
  of_entry d key here below unused is =
      (own section.Unused d key refl (unused_made d key unused) is, of_unused d key here below refl unused)

  bans_sound : AllByRecursion AreSound (ban_rules c.policy c.graph)
  unfolding code_number diagnostic_code_number
  bans_sound = (
    λ key is. of_crate code.Banned key refl (banned_made c.policy c.graph key is) is,
    (
      λ key is. of_crate code.AllowedByWrapper key refl (allowed_by_wrapper_made c.policy c.graph key is) is,
      (
        λ key is. of_crate code.UnmatchedWrapper key refl (unmatched_wrapper_made c.policy c.graph key is) is,
        (
          λ key is. of_entry code.UnusedWrapper key refl refl (unused_wrappers c.policy c.graph key is) is,
          (
            λ key is. of_crate code.Allowed key refl (allowed_made c.policy c.graph key is) is,
            (λ key is. of_crate code.NotAllowed key refl (not_allowed_made c.policy c.graph key is) is, tt),
          ),
        ),
      ),
    ),
  )

  skips_sound : AllByRecursion AreSound (skip_rules c.policy c.graph facts.chains)
  unfolding code_number diagnostic_code_number
  skips_sound = (
    λ key is. of_crate code.Skipped key refl (skipped_made c.policy c.graph facts.chains key is) is,
    (
      λ key is. of_crate code.SkippedByRoot key refl (skipped_by_root_made c.policy c.graph facts.chains key is) is,
      (
        λ key is. of_entry code.UnmatchedSkip key refl refl (unmatched_skips c.policy c.graph facts.chains key is) is,
        (
          λ key is. of_entry code.UnnecessarySkip key refl refl
              (unnecessary_skips c.policy c.graph facts.chains key is) is,
          (λ key is. of_entry code.UnmatchedSkipRoot key refl refl (unmatched_roots c.policy c.graph key is) is, tt),
        ),
      ),
    ),
  )

  in_rules : (rules : List (List Key)) → AllByRecursion AreSound rules → (key : Key)
      → Contains (keys_of_rules rules) key → IsSound key
  in_rules rules all key is =
      let from = Contains-from_flat_map (λ (keys : List Key). keys) rules key is in
      at_member AreSound rules from.from all from.member key from.of

  duplicates_sound : (key : Key) → IsDuplicate c.policy c.graph facts.chains key → IsSound key
  unfolding section_number
  duplicates_sound key is = sound_in section.Groups code.Duplicate key refl refl refl refl
      (duplicate_made c.policy c.graph facts.chains key is) is

  features_sound : (key : Key) → IsOfFeatures c.policy c.graph key → IsSound key
  features_sound key (inl is) = of_crate code.ExactFeaturesMismatch key refl
      (mismatched_made c.policy c.graph key is) is
  features_sound key (inr (inl is)) = of_crate code.FeatureNotExplicitlyAllowed key refl
      (feature_not_allowed_made c.policy c.graph key is) is
  features_sound key (inr (inr (inl is))) = of_crate code.FeatureBanned key refl
      (feature_banned_made c.policy c.graph key is) is
  features_sound key (inr (inr (inr (inl is)))) = of_crate code.UnknownFeature key refl
      (unknown_feature_made c.policy c.graph key is) (inl is)
  features_sound key (inr (inr (inr (inr is)))) = of_crate code.DefaultFeatureEnabled key refl
      (default_enabled_made c.policy c.graph key is) is

  manifests_sound : (key : Key) → IsOfManifests c.policy c.graph facts.chains c.view key → IsSound key
  unfolding section_number
  manifests_sound key (inl is) = of_crate code.Wildcard key refl
      (wildcard_made c.policy c.graph facts.chains c.view key is) is
  manifests_sound key (inr (inl is)) = of_crate code.UnresolvedWorkspaceDependency key refl
      (unresolved_made c.policy c.graph facts.chains c.view key is) is
  manifests_sound key (inr (inr (inl is))) = sound_in section.Workspace code.WorkspaceDuplicate key refl refl refl refl
      (workspace_duplicate_made c.graph c.view key c.policy is) is
  manifests_sound key (inr (inr (inr is))) = sound_in section.Workspace code.UnusedWorkspaceDependency key refl refl
      refl refl (unused_entry_made c.policy c.view key is) is

  built_first : (key : Key) → MadeOfBuilds key → Contains (build_keys_in c facts) key → IsFirst key
  unfolding section_number code_number diagnostic_code_number unmatched_bypass_keys
  built_first key made is = by_building c.building is
    where
      by_building : (o : Option Building)
          → Contains (option_map_or (λ b. build_keys (scanning c facts b)) o []) key → IsFirst key
      by_building None at = absurd (no_member key at)
      by_building (Some b) at =
          let l : Scanning = scanning c facts b in
          elim (Contains-append_cases (flat_map (package_keys l) c.graph.crates) (unmatched_bypass_keys l) key at) [
            | inl here ↦ of_section section.Crates made.code key (reported_of_builds made.code made.of_builds) refl refl
                (record { code_is = made.made.code_is; section_is = key_of_crates l key here })
            | inr there ↦ of_unused code.UnmatchedBypass key refl refl refl
                (unused_map code.UnmatchedBypass bypass_span (filter (λ y. not (is_used l y)) b.bypass) key there)
          ]

  builds_sound : (key : Key) → Contains (build_keys_in c facts) key → IsSound key
  builds_sound key is =
      let made = build_made c facts key is in (
        own made.section made.code key made.of_bans made.made (made.holds c facts key is),
        built_first key made is,
      )

  sound : (key : Key) → ByRule key → IsSound key
  sound key (inl is) = in_rules (ban_rules c.policy c.graph) bans_sound key is
  sound key (inr (inl is)) = in_rules (skip_rules c.policy c.graph facts.chains) skips_sound key is
  sound key (inr (inr (inl is))) = duplicates_sound key is
  sound key (inr (inr (inr (inl is)))) = features_sound key is
  sound key (inr (inr (inr (inr (inl is))))) = manifests_sound key is
  sound key (inr (inr (inr (inr (inr is))))) = builds_sound key is

  pub rules_here : (key : Key) → ByRule key → IsTrue (is_reported_here key.code)
  rules_here key is = (sound key is).1.here

  pub rules_are_written : (key : Key) → ByRule key → Holds c facts key
  rules_are_written key is = (sound key is).0.1

  std_sound : (key : Key) → IsOfStd c key → IsOwn key
  std_sound key (inl is) = own section.Unused code.UnmatchedReplacementIgnore key refl
      (unmatched_ignore_made c key is) is
  std_sound key (inr is) = own section.Std code.ReplacedInStd key refl (replaced_made c key is) is

-- ---- each key that holds is one of a rule, or of replaced crates

-- a key of the rule at an index is one of all rules
of_rule : (rules : List (List Key)) (n : ℕ) (keys : List Key) (key : Key) → n < length rules
    → slice_index_or rules n keys ≡ keys → Contains keys key → Contains (keys_of_rules rules) key
of_rule rules n keys key within at is = Contains-flat_map (λ (ks : List Key). ks) rules keys key (n, within, at) is

module _ (c : Circumstances) (facts : Facts) (key : Key) where
  -- the key holds by a rule, or is one of replaced crates
  abbrev IsEither : Type 0
  IsEither = ByRule c facts key ⊎ IsOfStd c key

  ban : (n : ℕ) (keys : List Key) → n < 6 → slice_index_or (ban_rules c.policy c.graph) n keys ≡ keys
      → Contains keys key → IsEither
  ban n keys within at is = inl (inl (of_rule (ban_rules c.policy c.graph) n keys key within at is))

  skip : (n : ℕ) (keys : List Key) → n < 5
      → slice_index_or (skip_rules c.policy c.graph facts.chains) n keys ≡ keys → Contains keys key → IsEither
  skip n keys within at is = inl (inr
      (inl (of_rule (skip_rules c.policy c.graph facts.chains) n keys key within at is)))

  feature : IsOfFeatures c.policy c.graph key → IsEither
  feature is = inl (inr (inr (inr (inl is))))

  manifest : IsOfManifests c.policy c.graph facts.chains c.view key → IsEither
  manifest is = inl (inr (inr (inr (inr (inl is)))))

  build : Contains (build_keys_in c facts) key → IsEither
  build is = inl (inr (inr (inr (inr (inr is)))))

whole_as : (d : Code) (c : Circumstances) (facts : Facts) (key : Key) → HoldsAs d c facts key → IsEither c facts key
whole_as code.Banned c facts key is = ban c facts key 0 _ (omega arith) refl is
whole_as code.AllowedByWrapper c facts key is = ban c facts key 1 _ (omega arith) refl is
whole_as code.UnmatchedWrapper c facts key is = ban c facts key 2 _ (omega arith) refl is
whole_as code.UnusedWrapper c facts key is = ban c facts key 3 _ (omega arith) refl is
whole_as code.Allowed c facts key is = ban c facts key 4 _ (omega arith) refl is
whole_as code.NotAllowed c facts key is = ban c facts key 5 _ (omega arith) refl is
whole_as code.Skipped c facts key is = skip c facts key 0 _ (omega arith) refl is
whole_as code.SkippedByRoot c facts key is = skip c facts key 1 _ (omega arith) refl is
whole_as code.UnmatchedSkip c facts key is = skip c facts key 2 _ (omega arith) refl is
whole_as code.UnnecessarySkip c facts key is = skip c facts key 3 _ (omega arith) refl is
whole_as code.UnmatchedSkipRoot c facts key is = skip c facts key 4 _ (omega arith) refl is
whole_as code.Duplicate c facts key is = inl (inr (inr (inl is)))
whole_as code.ExactFeaturesMismatch c facts key is = feature c facts key (inl is)
whole_as code.FeatureNotExplicitlyAllowed c facts key is = feature c facts key (inr (inl is))
whole_as code.FeatureBanned c facts key is = feature c facts key (inr (inr (inl is)))
whole_as code.UnknownFeature c facts key (inl is) = feature c facts key (inr (inr (inr (inl is))))
whole_as code.UnknownFeature c facts key (inr is) = build c facts key is
whole_as code.DefaultFeatureEnabled c facts key is = feature c facts key (inr (inr (inr (inr is))))
whole_as code.Wildcard c facts key is = manifest c facts key (inl is)
whole_as code.UnresolvedWorkspaceDependency c facts key is = manifest c facts key (inr (inl is))
whole_as code.WorkspaceDuplicate c facts key is = manifest c facts key (inr (inr (inl is)))
whole_as code.UnusedWorkspaceDependency c facts key is = manifest c facts key (inr (inr (inr is)))
whole_as code.UnmatchedReplacementIgnore c facts key is = inr (inl is)
whole_as code.ReplacedInStd c facts key is = inr (inr is)
whole_as code.BuildScriptNotAllowed c facts key is = build c facts key is
whole_as code.PathBypassed c facts key is = build c facts key is
whole_as code.PathBypassedByGlob c facts key is = build c facts key is
whole_as code.ChecksumMatch c facts key is = build c facts key is
whole_as code.ChecksumMismatch c facts key is = build c facts key is
whole_as code.DeniedByExtension c facts key is = build c facts key is
whole_as code.DetectedExecutable c facts key is = build c facts key is
whole_as code.DetectedExecutableScript c facts key is = build c facts key is
whole_as code.UnableToCheckPath c facts key is = build c facts key is
whole_as code.FeaturesEnabled c facts key is = build c facts key is
whole_as code.UnmatchedBypass c facts key is = build c facts key is
whole_as code.UnmatchedPathBypass c facts key is = build c facts key is
whole_as code.UnmatchedGlob c facts key is = build c facts key is

whole_by : (d : DiagnosticCode) (c : Circumstances) (facts : Facts) (key : Key) → IsTrue (is_of_bans key.section)
    → HoldsBy d c facts key → IsEither c facts key
whole_by Deprecated c facts key mine is = absurd (not_of_bans key.section (as_deprecated c key is) mine)
whole_by (Bans d) c facts key mine is = whole_as d c facts key is
whole_by (License d) c facts key mine is = absurd (not_licensed d c.licensing c.graph key mine is)
whole_by Expired c facts key mine is = absurd (not_of_bans key.section (as_expired c.expired key is) mine)

-- the keys that all rules add
pub adds_by_rule : (c : Circumstances) (facts : Facts) (old one two three four five new : List Key)
    → Adds (Contains (keys_of_rules (ban_rules c.policy c.graph))) old one
    → Adds (Contains (keys_of_rules (skip_rules c.policy c.graph facts.chains))) one two
    → Adds (IsDuplicate c.policy c.graph facts.chains) two three
    → Adds (IsOfFeatures c.policy c.graph) three four
    → Adds (IsOfManifests c.policy c.graph facts.chains c.view) four five
    → Adds (Contains (build_keys_in c facts)) five new
    → Adds (IsByRule c facts) old new
adds_by_rule c facts old one two three four five new bans skips duplicates features manifests builds =
    let banned = Contains (keys_of_rules (ban_rules c.policy c.graph)) in
    let skipped = Contains (keys_of_rules (skip_rules c.policy c.graph facts.chains)) in
    let doubled = IsDuplicate c.policy c.graph facts.chains in
    let featured = IsOfFeatures c.policy c.graph in
    let written = IsOfManifests c.policy c.graph facts.chains c.view in
    let built = Contains (build_keys_in c facts) in
    adds_then banned (λ key. skipped key ⊎ (doubled key ⊎ (featured key ⊎ (written key ⊎ built key)))) old one new bans
    (adds_then skipped (λ key. doubled key ⊎ (featured key ⊎ (written key ⊎ built key))) one two new skips
    (adds_then doubled (λ key. featured key ⊎ (written key ⊎ built key)) two three new duplicates
    (adds_then featured (λ key. written key ⊎ built key) three four new features
    (adds_then written built four five new manifests builds))))

-- the keys of the rules and then those of replaced crates are the keys in the sections of the bans check
pub lists_own : (c : Circumstances) (facts : Facts) (rules std : List Key)
    → Lists key_cmp (IsByRule c facts) rules → Lists key_cmp (IsOfStd c) std
    → ListsOwn is_of_bans c facts (rules ++ std)
lists_own c facts rules std these those =
    lists_same key_cmp (IsEither c facts) (HoldsIn is_of_bans c facts) (rules ++ std)
    (lists_append key_cmp (ByRule c facts) (IsOfStd c) rules std these those
    (λ x y is there. (sound c facts x is).1.first c y there))
    (λ key is. elim is as (λ _. HoldsIn is_of_bans c facts key)
    [ inl by_rule ↦ (sound c facts key by_rule).0 | inr of_std ↦ std_sound c facts key of_std ])
    (λ key is. whole_by key.code c facts key is.0 is.1)
