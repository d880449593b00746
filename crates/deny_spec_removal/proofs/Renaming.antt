-- The keys of a policy whose spans are replaced, code by code.
use Rattle.std.proofs.Common.{◌≡◌, ◌++◌, ◌∙◌, List, ap, inl, inr, map, refl, subst, sym}
use Rattle.std.specs.Prelude.{Contains, filter_map}
use Rattle.std.specs.List.{flat_map}
use Rattle.std.proofs.lemmas.List.{map-append}
use Rattle.deny_base.specs.declared.code.Code.{Code}
use Rattle.deny_base.specs.declared.code.Code.TheVariants as code
use Rattle.deny_base.specs.declared.code.DiagnosticCode.{DiagnosticCode}
use Rattle.deny_base.specs.declared.code.DiagnosticCode.TheVariants.{Deprecated, Bans, License, Expired}
use Rattle.deny_base.specs.declared.entry.Hit.{Hit}
use Rattle.deny_base.specs.declared.key.Key.{Key}
use Rattle.deny_spec.specs.Bans.{not_allowed_keys}
use Rattle.deny_spec.specs.Expired.{expired_key, expired_keys}
use Rattle.deny_spec.specs.Hits.{all_hits, root_hit, skip_hit}
use Rattle.deny_spec.specs.Skips.{unmatched_skip_keys, unmatched_skip_root_keys, unnecessary_skip_keys}
use Rattle.deny_spec_report.specs.AllowList.{allowed_keys}
use Rattle.deny_spec_report.specs.Bans.{allowed_by_wrapper_keys, banned_keys, unmatched_wrapper_keys}
use Rattle.deny_spec_report.specs.Circumstances.{Circumstances}
use Rattle.deny_spec_report.specs.EachCode.{HoldsAs}
use Rattle.deny_spec_report.specs.Facts.{Facts, AreFacts}
use Rattle.deny_spec_report.specs.Features.{default_enabled_keys, feature_banned_keys, mismatched_keys}
use Rattle.deny_spec_report.specs.Features.{unknown_feature_keys}
use Rattle.deny_spec_report.specs.Hits.{hits_in}
use Rattle.deny_spec_report.specs.Packages.{build_keys_in, bypass_hits_in, deprecated_keys_in}
use Rattle.deny_spec_report.specs.SkippedTrees.{skipped_by_root_keys}
use Rattle.deny_spec_report.specs.Skips.{skipped_keys}
use Rattle.deny_spec_report.specs.Holding.{HoldsBy, Holds}
use Rattle.deny_spec_report.specs.StdReplacements.{ignore_hits_in, replaced_keys_in, unmatched_ignore_keys_in}
use Rattle.deny_spec_report.specs.Wildcards.{unresolved_keys, wildcard_keys}
use Rattle.deny_spec_report.specs.Wrappers.{unused_wrapper_keys, wrapper_hits_of}
use Rattle.deny_spec_removal.specs.Renaming.{AreRenamed, KeepsApart, KeepsBypassesApart, KeepsLicencesApart, Renaming}
use Rattle.deny_spec_removal.specs.Renaming.{renamed}
use Rattle.deny_spec_removal.specs.Renaming.{renamed_as, renamed_ban, renamed_hit, renamed_in, renamed_key}
use Rattle.deny_spec_removal.specs.Renaming.{renamed_root, renamed_waiver}
use Rattle.deny_spec_removal.proofs.Anew.{AreAnew, keys_anew, keys_same, made_anew, made_back, made_there, spanned}
use Rattle.deny_spec_removal.proofs.BanRenaming as bans
use Rattle.deny_spec_removal.proofs.BypassRenaming as bypasses
use Rattle.deny_spec_removal.proofs.FeatureRenaming as features
use Rattle.deny_spec_removal.proofs.HitRenaming as hits
use Rattle.deny_spec_removal.proofs.IgnoreRenaming as ignores
use Rattle.deny_spec_removal.proofs.LicenceRenaming as licences
use Rattle.deny_spec_removal.proofs.SkipRenaming as skips

module _ (r : Renaming) (c : Circumstances) (these those : Facts) (are : AreFacts c these)
    (are_new : AreFacts (renamed_in r c) those) (apart : KeepsApart r c.policy)
    (apart_too : KeepsLicencesApart r c.licensing) (bypasses_apart : KeepsBypassesApart r c.building) (key : Key) where
  -- keys of builds have a new span where their codes show an entry
  builds_there : (d : Code) → key.code ≡ Bans d → Contains (build_keys_in c these) key
      → Contains (build_keys_in (renamed_in r c) those) (renamed_as r (Bans d) key)
  builds_there d of is = subst
      (λ (e : DiagnosticCode). Contains (build_keys_in (renamed_in r c) those) (renamed_as r e key)) of
      (made_there (renamed_key r) (build_keys_in c these) (build_keys_in (renamed_in r c) those) key
      (bypasses.build_in_anew r c these those are are_new bypasses_apart) is)

  builds_back : (d : Code) → key.code ≡ Bans d → Contains (build_keys_in (renamed_in r c) those) key
      → (old : Key) × Contains (build_keys_in c these) old × (key ≡ renamed_as r (Bans d) old)
  builds_back d of is =
      let found = made_back (renamed_key r) (build_keys_in c these) (build_keys_in (renamed_in r c) those) key
      (bypasses.build_in_anew r c these those are are_new bypasses_apart) is in (
        found.0,
        found.1,
        subst (λ (e : DiagnosticCode). key ≡ renamed_as r e found.0)
            (sym (ap (λ (k : Key). k.code) found.2) ∙ of) found.2,
      )

  -- keys of a code hold with new spans where they held, and no others
  abbrev HoldsAnew : DiagnosticCode → Type 0
  HoldsAnew d = (HoldsBy d c these key → HoldsBy d (renamed_in r c) those (renamed_as r d key))
      × (HoldsBy d (renamed_in r c) those key → (old : Key) × HoldsBy d c these old × (key ≡ renamed_as r d old))

  builds_anew : (d : Code) → key.code ≡ Bans d
      → AreAnew (renamed_as r (Bans d)) (build_keys_in c these) (build_keys_in (renamed_in r c) those) key
  builds_anew d of = (λ is. builds_there d of is, λ is. builds_back d of is)

  unknown_anew : AreAnew (spanned r) (unknown_feature_keys c.policy c.graph)
      (unknown_feature_keys (renamed r c.policy) c.graph) key
  unknown_anew = keys_anew r (unknown_feature_keys c.policy c.graph)
      (unknown_feature_keys (renamed r c.policy) c.graph) key (features.unknown_anew r c.policy c.graph)

  unknown_there : key.code ≡ Bans code.UnknownFeature → HoldsAs code.UnknownFeature c these key
      → HoldsAs code.UnknownFeature (renamed_in r c) those (spanned r key)
  unknown_there of (inl is) = inl (unknown_anew.0 is)
  unknown_there of (inr is) = inr (builds_there code.UnknownFeature of is)

  unknown_back : key.code ≡ Bans code.UnknownFeature → HoldsAs code.UnknownFeature (renamed_in r c) those key
      → (old : Key) × HoldsAs code.UnknownFeature c these old × (key ≡ spanned r old)
  unknown_back of (inl is) = let found = unknown_anew.1 is in (found.0, inl found.1, found.2)
  unknown_back of (inr is) = let found = builds_back code.UnknownFeature of is in (found.0, inr found.1, found.2)

  code_anew : (d : Code) → key.code ≡ Bans d → HoldsAnew (Bans d)
  code_anew code.Banned of = keys_anew r (banned_keys c.policy c.graph) (banned_keys (renamed r c.policy) c.graph) key
      (bans.banned_anew r c.policy c.graph)
  code_anew code.AllowedByWrapper of = keys_anew r (allowed_by_wrapper_keys c.policy c.graph)
      (allowed_by_wrapper_keys (renamed r c.policy) c.graph) key
      (bans.allowed_by_anew r c.policy c.graph)
  code_anew code.UnmatchedWrapper of = keys_anew r (unmatched_wrapper_keys c.policy c.graph)
      (unmatched_wrapper_keys (renamed r c.policy) c.graph) key
      (bans.unmatched_by_anew r c.policy c.graph)
  code_anew code.UnusedWrapper of = keys_anew r (unused_wrapper_keys c.policy c.graph)
      (unused_wrapper_keys (renamed r c.policy) c.graph) key
      (bans.unused_anew r c.policy c.graph apart)
  code_anew code.Allowed of = keys_anew r (allowed_keys c.policy c.graph)
      (allowed_keys (renamed r c.policy) c.graph) key
      (bans.allowed_anew r c.policy c.graph)
  code_anew code.NotAllowed of = keys_same (not_allowed_keys c.policy c.graph)
      (not_allowed_keys (renamed r c.policy) c.graph) key
      (bans.not_allowed_stay r c.policy c.graph)
  code_anew code.Skipped of = keys_anew r (skipped_keys c.policy c.graph these.chains)
      (skipped_keys (renamed r c.policy) c.graph those.chains) key
      (skips.skipped_anew r c.policy c.graph these.chains those.chains are.chains are_new.chains)
  code_anew code.SkippedByRoot of = keys_anew r (skipped_by_root_keys c.policy c.graph these.chains)
      (skipped_by_root_keys (renamed r c.policy) c.graph those.chains) key
      (skips.by_root_anew r c.policy c.graph these.chains those.chains are.chains are_new.chains)
  code_anew code.UnmatchedSkip of = keys_anew r (unmatched_skip_keys c.policy c.graph these.chains)
      (unmatched_skip_keys (renamed r c.policy) c.graph those.chains) key
      (skips.unmatched_anew r c.policy c.graph these.chains those.chains are.chains are_new.chains)
  code_anew code.UnnecessarySkip of = keys_anew r (unnecessary_skip_keys c.policy c.graph these.chains)
      (unnecessary_skip_keys (renamed r c.policy) c.graph those.chains) key
      (skips.unnecessary_anew r c.policy c.graph these.chains those.chains are.chains are_new.chains)
  code_anew code.UnmatchedSkipRoot of = keys_anew r (unmatched_skip_root_keys c.policy c.graph)
      (unmatched_skip_root_keys (renamed r c.policy) c.graph) key
      (skips.unmatched_root_anew r c.policy c.graph these.chains those.chains are.chains are_new.chains)
  code_anew code.Duplicate of = (
    λ is. skips.duplicates_there r c.policy c.graph these.chains those.chains are.chains are_new.chains key is,
    λ is. (
      key,
      skips.duplicates_back r c.policy c.graph these.chains those.chains are.chains are_new.chains key is,
      refl,
    ),
  )
  code_anew code.ReplacedInStd of = keys_same (replaced_keys_in c) (replaced_keys_in (renamed_in r c)) key
      (ignores.replaced_in_stay r c)
  code_anew code.UnmatchedReplacementIgnore of = keys_anew r (unmatched_ignore_keys_in c)
      (unmatched_ignore_keys_in (renamed_in r c)) key (ignores.unmatched_in_anew r c apart)
  code_anew code.ExactFeaturesMismatch of = keys_anew r (mismatched_keys c.policy c.graph)
      (mismatched_keys (renamed r c.policy) c.graph) key
      (features.mismatched_anew r c.policy c.graph)
  code_anew code.FeatureBanned of = keys_anew r (feature_banned_keys c.policy c.graph)
      (feature_banned_keys (renamed r c.policy) c.graph) key
      (features.banned_anew r c.policy c.graph)
  code_anew code.UnknownFeature of = (λ is. unknown_there of is, λ is. unknown_back of is)
  code_anew code.DefaultFeatureEnabled of = keys_anew r (default_enabled_keys c.policy c.graph)
      (default_enabled_keys (renamed r c.policy) c.graph) key
      (features.default_anew r c.policy c.graph)
  code_anew code.FeatureNotExplicitlyAllowed of = (
    λ is. features.not_allowed_there r c.policy c.graph key is,
    λ is. features.not_allowed_back r c.policy c.graph key is,
  )
  code_anew code.Wildcard of = keys_same (wildcard_keys c.policy c.graph these.chains c.view)
      (wildcard_keys (renamed r c.policy) c.graph those.chains c.view) key
      (skips.wildcards_stay r c.policy c.graph these.chains those.chains are.chains are_new.chains c.view)
  code_anew code.UnresolvedWorkspaceDependency of = keys_same (unresolved_keys c.policy c.graph these.chains c.view)
      (unresolved_keys (renamed r c.policy) c.graph those.chains c.view) key
      (skips.unresolved_stay r c.policy c.graph these.chains those.chains are.chains are_new.chains c.view)
  code_anew code.WorkspaceDuplicate of = (λ is. is, λ is. (key, is, refl))
  code_anew code.UnusedWorkspaceDependency of = (λ is. is, λ is. (key, is, refl))
  code_anew code.BuildScriptNotAllowed of = builds_anew code.BuildScriptNotAllowed of
  code_anew code.PathBypassed of = builds_anew code.PathBypassed of
  code_anew code.PathBypassedByGlob of = builds_anew code.PathBypassedByGlob of
  code_anew code.ChecksumMatch of = builds_anew code.ChecksumMatch of
  code_anew code.ChecksumMismatch of = builds_anew code.ChecksumMismatch of
  code_anew code.DeniedByExtension of = builds_anew code.DeniedByExtension of
  code_anew code.DetectedExecutable of = builds_anew code.DetectedExecutable of
  code_anew code.DetectedExecutableScript of = builds_anew code.DetectedExecutableScript of
  code_anew code.UnableToCheckPath of = builds_anew code.UnableToCheckPath of
  code_anew code.FeaturesEnabled of = builds_anew code.FeaturesEnabled of
  code_anew code.UnmatchedBypass of = builds_anew code.UnmatchedBypass of
  code_anew code.UnmatchedPathBypass of = builds_anew code.UnmatchedPathBypass of
  code_anew code.UnmatchedGlob of = builds_anew code.UnmatchedGlob of

  expired_anew : expired_keys (renamed_in r c).expired ≡ map (spanned r) (expired_keys c.expired)
  unfolding expired_key
  expired_anew = made_anew (renamed_waiver r) expired_key expired_key (spanned r) c.expired (λ w. refl)

  key_anew : (d : DiagnosticCode) → key.code ≡ d → HoldsAnew d
  key_anew Deprecated of = keys_anew r (deprecated_keys_in c) (deprecated_keys_in (renamed_in r c)) key
      (bypasses.deprecated_anew r c)
  key_anew (Bans d) of = code_anew d of
  key_anew (License d) of = (
    λ is. licences.licensed_there r c.licensing c.graph key apart_too d is,
    λ is. licences.licensed_back r c.licensing c.graph key apart_too d is,
  )
  key_anew Expired of = keys_anew r (expired_keys c.expired) (expired_keys (renamed_in r c).expired) key expired_anew

  there_key : Holds c these key → Holds (renamed_in r c) those (renamed_key r key)
  there_key is = (key_anew key.code refl).0 is

  back_key : Holds (renamed_in r c) those key → (old : Key) × Holds c these old × (key ≡ renamed_key r old)
  back_key is =
      let found = (key_anew key.code refl).1 is in
      let of_code = ap (λ (k : Key). k.code) found.2 in (
        found.0,
        subst (λ (d : DiagnosticCode). HoldsBy d c these found.0) of_code found.1,
        subst (λ (d : DiagnosticCode). key ≡ renamed_as r d found.0) of_code found.2,
      )

-- ---- hits

module _ (r : Renaming) (c : Circumstances) (these those : Facts) (are : AreFacts c these)
    (are_new : AreFacts (renamed_in r c) those) (apart : KeepsApart r c.policy)
    (apart_too : KeepsLicencesApart r c.licensing) (bypasses_apart : KeepsBypassesApart r c.building) where
  crate_hits_anew : all_hits (renamed r c.policy) c.graph those.chains ≡ map (renamed_hit r)
      (all_hits c.policy c.graph these.chains)
  crate_hits_anew =
      let p = c.policy in
      let of_skips = filter_map (skip_hit c.graph these.chains) p.skip in
      let of_roots = filter_map (root_hit c.graph) p.skip_tree in
      let of_wrappers = flat_map (wrapper_hits_of p c.graph) p.deny in
      ap (λ (hits : List Hit). hits ++ (filter_map (root_hit c.graph) (map (renamed_root r) p.skip_tree)
      ++ flat_map (wrapper_hits_of (renamed r p) c.graph) (map (renamed_ban r) p.deny)))
      (skips.skip_hits_anew r p c.graph these.chains those.chains are.chains are_new.chains)
      ∙ (ap (λ (hits : List Hit). map (renamed_hit r) of_skips ++ (hits
      ++ flat_map (wrapper_hits_of (renamed r p) c.graph) (map (renamed_ban r) p.deny)))
      (skips.root_hits_anew r p c.graph these.chains those.chains are.chains are_new.chains)
      ∙ (ap (λ (hits : List Hit). map (renamed_hit r) of_skips ++ (map (renamed_hit r) of_roots ++ hits))
      (bans.wrapper_hits_anew r p c.graph apart)
      ∙ (ap (λ (hits : List Hit). map (renamed_hit r) of_skips ++ hits)
      (sym (map-append (renamed_hit r) of_roots of_wrappers))
      ∙ sym (map-append (renamed_hit r) of_skips (of_roots ++ of_wrappers)))))

  hits_anew : hits_in (renamed_in r c) those ≡ map (renamed_hit r) (hits_in c these)
  hits_anew =
      let of_crates = all_hits c.policy c.graph these.chains in
      ap (λ (hits : List Hit). hits ++ (ignore_hits_in (renamed_in r c) ++ bypass_hits_in (renamed_in r c) those))
      crate_hits_anew
      ∙ (ap (λ (hits : List Hit). map (renamed_hit r) of_crates ++ (hits ++ bypass_hits_in (renamed_in r c) those))
      (ignores.ignore_hits_anew r c apart)
      ∙ (ap (λ (hits : List Hit). map (renamed_hit r) of_crates ++ (map (renamed_hit r) (ignore_hits_in c) ++ hits))
      (bypasses.bypass_hits_anew r c these those are are_new bypasses_apart)
      ∙ (ap (λ (hits : List Hit). map (renamed_hit r) of_crates ++ hits)
      (sym (map-append (renamed_hit r) (ignore_hits_in c) (bypass_hits_in c these)))
      ∙ sym (map-append (renamed_hit r) of_crates (ignore_hits_in c ++ bypass_hits_in c these)))))

  pub all_renamed : AreRenamed r c these those
  all_renamed = record {
    whole = λ key is. there_key r c these those are are_new apart apart_too bypasses_apart key is;
    sound = λ key is. back_key r c these those are are_new apart apart_too bypasses_apart key is;
    hits = hits_anew;
    licence_hits = λ counts. licences.licensed_hits r c.licensing c.graph counts apart_too;
    whole_hits = λ counts e w is. hits.hit_there r c these those are are_new apart apart_too bypasses_apart counts e w is;
    sound_hits = λ counts e w is. hits.hit_back r c these those are are_new apart apart_too bypasses_apart counts e w is;
  }
