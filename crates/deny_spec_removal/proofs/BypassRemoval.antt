-- Bypasses, and paths and globs of bypasses, that nothing hits can be taken out of a policy.
use Rattle.std.proofs.Common.{◌≡◌, ◌++◌, List, None, Option, Some, [], ap, false, refl, subst}
use Rattle.std.specs.Prelude.{option_map}
use Rattle.std.specs.Option.{option_map_or}
use Rattle.deny_base_lists.specs.Ascending.{Lists}
use Rattle.deny_base.specs.KeyOrder.{key_cmp}
use Rattle.deny_base.specs.declared.code.Code.{Code}
use Rattle.deny_base.specs.declared.code.Code.TheVariants as code
use Rattle.deny_base.specs.declared.code.DiagnosticCode.{DiagnosticCode}
use Rattle.deny_base.specs.declared.code.DiagnosticCode.TheVariants.{Bans}
use Rattle.deny_base.specs.declared.entry.EntryId.{EntryId}
use Rattle.deny_base.specs.declared.entry.Hit.{Hit}
use Rattle.deny_base.specs.declared.key.Key.{Key}
use Rattle.deny_spec.specs.Building.{Building}
use Rattle.deny_spec.specs.Hits.{all_hits}
use Rattle.deny_spec_report.specs.Circumstances.{Circumstances}
use Rattle.deny_spec_report.specs.Facts.{Facts, AreFacts}
use Rattle.deny_spec_report.specs.Hits.{hits_in}
use Rattle.deny_spec_report.specs.Packages.{build_keys, build_keys_in, bypass_hits, bypass_hits_in, deprecated_keys}
use Rattle.deny_spec_report.specs.Packages.{deprecated_keys_in, scanning}
use Rattle.deny_spec_report.specs.Holding.{Holds}
use Rattle.deny_spec_report.specs.StdReplacements.{ignore_hits_in}
use Rattle.deny_spec_removal.specs.BypassRemoval.{AreUnhitBypasses, BypassesStay, without_bypasses_in}
use Rattle.deny_spec_removal.specs.Removal.{AreGone, cut_building, names, names_as, unnaming}
use Rattle.deny_spec_removal.proofs.BypassHits.{bypass_hits_same}
use Rattle.deny_spec_removal.proofs.PackageRemoval.{build_part}
use Rattle.std.proofs.Math.Logic.{⊎_map}
use Rattle.deny_spec_removal.proofs.KeyParts.{StillListed, part_listed, same_listed}
use Rattle.deny_spec_removal.proofs.ManifestRemoval.{manifests_hold}
use Rattle.deny_spec_removal.proofs.OtherParts.{allow_list_holds, bans_hold, licences_hold, replacing_holds, skips_hold}
use Rattle.deny_spec_removal.proofs.PolicyParts.{BuildsHold, FeaturesHold, PartsHold, listed_in_rest}

-- ---- keys and hits of a policy that may say nothing of builds

module _ (c : Circumstances) (facts : Facts) (taken : List EntryId) (unhit : AreUnhitBypasses c facts taken) where
  -- bypasses, paths and globs that are hit stay
  abbrev Stay : Option Building → Type 0
  Stay o = (b : Building) → o ≡ Some b → BypassesStay (scanning c facts b) taken

  build_in_part : build_keys_in (without_bypasses_in c taken) facts ≡ unnaming taken (build_keys_in c facts)
  build_in_part = by c.building unhit.bypasses
    where
      by : (o : Option Building) → Stay o
          → option_map_or (λ b. build_keys (scanning c facts b)) (option_map (cut_building taken) o) []
          ≡ unnaming taken (option_map_or (λ b. build_keys (scanning c facts b)) o [])
      by None stay = refl
      by (Some b) stay = build_part (scanning c facts b) taken (stay b refl)

  bypass_hits_stay : bypass_hits_in (without_bypasses_in c taken) facts ≡ bypass_hits_in c facts
  bypass_hits_stay = by c.building unhit.bypasses
    where
      by : (o : Option Building) → Stay o
          → option_map_or (λ b. bypass_hits (scanning c facts b)) (option_map (cut_building taken) o) []
          ≡ option_map_or (λ b. bypass_hits (scanning c facts b)) o []
      by None stay = refl
      by (Some b) stay = bypass_hits_same (scanning c facts b) taken (stay b refl)

  all_hits_stay : hits_in (without_bypasses_in c taken) facts ≡ hits_in c facts
  all_hits_stay = ap (λ (hits : List Hit). all_hits c.policy c.graph facts.chains ++ (ignore_hits_in c ++ hits))
      bypass_hits_stay

deprecated_stay : (c : Circumstances) (taken : List EntryId)
    → deprecated_keys_in (without_bypasses_in c taken) ≡ deprecated_keys_in c
unfolding deprecated_keys
deprecated_stay c taken = by c.building
  where
    by : (o : Option Building) → option_map_or deprecated_keys (option_map (cut_building taken) o) []
        ≡ option_map_or deprecated_keys o []
    by None = refl
    by (Some b) = refl

-- ---- part by part

module _ (c : Circumstances) (facts : Facts) (taken : List EntryId) (unhit : AreUnhitBypasses c facts taken)
    (key : Key) where
  abbrev builds_left : Option Building
  builds_left = option_map (cut_building taken) c.building

  -- a key of builds names an entry that is taken out by its code
  build_key_holds : (d : Code) → key.code ≡ Bans d → StillListed (names_as taken (Bans d) key) (build_keys_in c facts)
      (build_keys_in (without_bypasses_in c taken) facts) key
  build_key_holds d of = subst
      (λ (e : DiagnosticCode). StillListed (names_as taken e key) (build_keys_in c facts)
      (build_keys_in (without_bypasses_in c taken) facts) key) of
      (part_listed (names taken) (build_keys_in c facts) (build_keys_in (without_bypasses_in c taken) facts) key
      (build_in_part c facts taken unhit))

  builds_still_hold : BuildsHold c (without_bypasses_in c taken) facts taken key
  builds_still_hold = record {
    script_not_allowed = build_key_holds code.BuildScriptNotAllowed;
    path_bypassed = build_key_holds code.PathBypassed;
    path_bypassed_by_glob = build_key_holds code.PathBypassedByGlob;
    checksum_match = build_key_holds code.ChecksumMatch;
    checksum_mismatch = build_key_holds code.ChecksumMismatch;
    denied_by_extension = build_key_holds code.DeniedByExtension;
    executable = build_key_holds code.DetectedExecutable;
    executable_script = build_key_holds code.DetectedExecutableScript;
    unable_to_check = build_key_holds code.UnableToCheckPath;
    features_enabled = build_key_holds code.FeaturesEnabled;
    unmatched_bypass = build_key_holds code.UnmatchedBypass;
    unmatched_path = build_key_holds code.UnmatchedPathBypass;
    unmatched_glob = build_key_holds code.UnmatchedGlob;
  }

  -- a required feature that a crate does not have is among the keys of builds
  features_still_hold : FeaturesHold c (without_bypasses_in c taken) facts taken key
  features_still_hold = record {
    mismatch = λ of. (λ unnamed is. is, λ is. (is, refl));
    not_explicitly_allowed = λ of. (λ unnamed is. is, λ is. (is, refl));
    feature_banned = λ of. (λ unnamed is. is, λ is. (is, refl));
    unknown = λ of. let required = build_key_holds code.UnknownFeature of in (
      λ unnamed is. ⊎_map (λ it. it) (required.0 refl) is,
      λ is. (⊎_map (λ it. it) (λ it. (required.1 it).0) is, refl),
    );
    default_enabled = λ of. (λ unnamed is. is, λ is. (is, refl));
  }

  parts_hold : PartsHold c (without_bypasses_in c taken) facts taken key
  parts_hold =
      let p = c.policy in
      record {
        deprecated = λ of. same_listed (deprecated_keys_in c) (deprecated_keys_in (without_bypasses_in c taken)) key
            false refl (deprecated_stay c taken);
        expired = λ of. (λ unnamed is. is, λ is. (is, refl));
        bans = bans_hold c facts taken key p.skip p.skip_tree p.replacing c.licensing builds_left
            (unhit.no_wrapper key.entry);
        allow_list = allow_list_holds c facts taken key p.deny p.skip p.skip_tree p.replacing c.licensing builds_left;
        skips = skips_hold c facts taken key p.deny p.replacing c.licensing builds_left (unhit.no_skip key.entry)
            (unhit.no_root key.entry);
        features = features_still_hold;
        manifests = manifests_hold c facts p.deny p.skip p.skip_tree p.replacing (λ k known. refl) taken key
            c.licensing builds_left;
        replacing = replacing_holds c facts taken key p.deny p.skip p.skip_tree c.licensing builds_left
            (unhit.no_ignore key.entry);
        builds = builds_still_hold;
        licences = licences_hold c facts taken key p.deny p.skip p.skip_tree p.replacing builds_left
            unhit.no_licence;
      }

-- ---- all together

pub bypasses_gone : (c : Circumstances) (facts : Facts) (taken : List EntryId) (keys : List Key) → AreFacts c facts
    → AreUnhitBypasses c facts taken
    → Lists key_cmp (Holds c facts) keys → AreGone c (without_bypasses_in c taken) facts taken keys
bypasses_gone c facts taken keys are unhit listed = record {
  facts_hold = record {
    chains = record { counts = are.chains.counts; in_tree = are.chains.in_tree };
    reached = are.reached;
  };
  listed = listed_in_rest c (without_bypasses_in c taken) facts taken keys
      (λ key. parts_hold c facts taken unhit key) listed;
  hits = all_hits_stay c facts taken unhit;
  licence_hits = λ counts reports. refl;
}
