-- The keys of a part of a policy hold still where entries of other parts are taken out.
use Rattle.std.proofs.Common.{◌≡◌, List, Option, false, refl}
use Rattle.deny_base.specs.declared.entry.EntryId.{EntryId}
use Rattle.deny_base.specs.declared.entry.EntryKind.TheVariants.{ReplacementIgnore, Skip, SkipRoot, Wrapper}
use Rattle.deny_base.specs.declared.key.Key.{Key}
use Rattle.deny_spec.specs.Bans.{allowed_by_wrapper_keys_of, banned_keys_of, concerns, is_banned, is_exempt}
use Rattle.deny_spec.specs.Bans.{is_not_allowed, is_wrapped, not_allowed_keys, unmatched_wrapper_keys_of}
use Rattle.deny_spec.specs.Building.{Building}
use Rattle.deny_spec.specs.Duplicates.{IsDuplicate, duplicate_level, is_denied_multiple}
use Rattle.deny_spec.specs.Facts as chains
use Rattle.deny_spec.specs.Graph.{Graph}
use Rattle.deny_spec.specs.Groups.{is_in_group, is_in_skipped_tree, is_marked, may_duplicate, reduced}
use Rattle.deny_spec.specs.Licensing.{Licensing}
use Rattle.deny_spec.specs.Policy.{Ban, Entry, Policy, Replacing, Root}
use Rattle.deny_spec.specs.Skips.{is_needless, is_skipped_by_root, skipped_by_root_keys_of, unmatched_skip_keys}
use Rattle.deny_spec.specs.Skips.{unmatched_skip_root_keys, unnecessary_skip_keys}
use Rattle.deny_spec.specs.Wrappers.{hits_wrapper, is_hit_wrapper, unused_wrapper_keys_of}
use Rattle.deny_spec_report.specs.Bans.{allowed_by_wrapper_keys, banned_keys, unmatched_wrapper_keys}
use Rattle.deny_spec_report.specs.Circumstances.{Circumstances}
use Rattle.deny_spec_report.specs.Facts.{Facts}
use Rattle.deny_spec_report.specs.SkippedTrees.{skipped_by_root_keys}
use Rattle.deny_spec_report.specs.Wrappers.{unused_wrapper_keys}
use Rattle.deny_spec_removal.specs.Removal.{NoBypasses, NoLicences, is_taken}
use Rattle.deny_spec_removal.proofs.KeyParts.{no_licence_named, same_listed}
use Rattle.deny_spec_removal.proofs.PolicyParts.{AllowListHolds, BansHold, BuildsHold, HoldsStill, ReplacingHolds}
use Rattle.deny_spec_removal.proofs.PolicyParts.{SkipsHold}
use Rattle.deny_spec_removal.proofs.PolicyParts.{with_lists, with_parts}
use Rattle.deny_base.specs.declared.code.DiagnosticCode.TheVariants.{License}
use Rattle.deny_base.specs.declared.license_code.LicenseCode.{LicenseCode}

-- ---- bans and the allow list read no skips and ignores

module _ (p : Policy) (g : Graph) (skip : List Entry) (skip_tree : List Root) (replacing : Option Replacing) where
  abbrev other_lists : Policy
  other_lists = with_lists p p.deny skip skip_tree replacing

  banned_same : banned_keys other_lists g ≡ banned_keys p g
  unfolding banned_keys_of is_banned concerns is_exempt
  banned_same = refl

  allowed_by_same : allowed_by_wrapper_keys other_lists g ≡ allowed_by_wrapper_keys p g
  unfolding allowed_by_wrapper_keys_of is_wrapped concerns is_exempt
  allowed_by_same = refl

  unmatched_by_same : unmatched_wrapper_keys other_lists g ≡ unmatched_wrapper_keys p g
  unfolding unmatched_wrapper_keys_of is_wrapped concerns is_exempt
  unmatched_by_same = refl

  unused_same : unused_wrapper_keys other_lists g ≡ unused_wrapper_keys p g
  unfolding unused_wrapper_keys_of is_hit_wrapper hits_wrapper concerns is_exempt
  unused_same = refl

not_allowed_same : (p : Policy) (g : Graph) (deny : List Ban) (skip : List Entry) (skip_tree : List Root)
    (replacing : Option Replacing)
    → not_allowed_keys (with_lists p deny skip skip_tree replacing) g ≡ not_allowed_keys p g
unfolding not_allowed_keys is_not_allowed is_exempt
not_allowed_same p g deny skip skip_tree replacing = refl

-- ---- skips, skipped trees and groups read no bans and ignores

module _ (p : Policy) (g : Graph) (f : chains.Facts) (deny : List Ban) (replacing : Option Replacing) where
  abbrev other_bans : Policy
  other_bans = with_lists p deny p.skip p.skip_tree replacing

  by_root_same : skipped_by_root_keys other_bans g f ≡ skipped_by_root_keys p g f
  unfolding skipped_by_root_keys_of is_skipped_by_root is_marked
  by_root_same = refl

  unmatched_skip_same : unmatched_skip_keys other_bans g f ≡ unmatched_skip_keys p g f
  unfolding unmatched_skip_keys
  unmatched_skip_same = refl

  unmatched_root_same : unmatched_skip_root_keys other_bans g ≡ unmatched_skip_root_keys p g
  unfolding unmatched_skip_root_keys
  unmatched_root_same = refl

  unnecessary_same : unnecessary_skip_keys other_bans g f ≡ unnecessary_skip_keys p g f
  unfolding unnecessary_skip_keys is_needless reduced is_in_group may_duplicate is_marked is_in_skipped_tree
  unnecessary_same = refl

  duplicate_there : (key : Key) → IsDuplicate p g f key → IsDuplicate other_bans g f key
  unfolding duplicate_level is_denied_multiple reduced is_in_group may_duplicate is_marked is_in_skipped_tree
  duplicate_there key found = let d = found.2 in (
    found.0,
    found.1,
    record { crates = d.crates; listed = d.listed; several = d.several; active = d.active; is = d.is },
  )

  duplicate_back : (key : Key) → IsDuplicate other_bans g f key → IsDuplicate p g f key
  unfolding duplicate_level is_denied_multiple reduced is_in_group may_duplicate is_marked is_in_skipped_tree
  duplicate_back key found = let d = found.2 in (
    found.0,
    found.1,
    record { crates = d.crates; listed = d.listed; several = d.several; active = d.active; is = d.is },
  )

-- ---- part by part

module _ (c : Circumstances) (facts : Facts) (taken : List EntryId) (key : Key) where
  pub bans_hold : (skip : List Entry) (skip_tree : List Root) (replacing : Option Replacing)
      (licensing : Option Licensing) (building : Option Building) → is_taken taken Wrapper key.entry ≡ false
      → BansHold c (with_parts c c.policy.deny skip skip_tree replacing licensing building) facts taken key
  bans_hold skip skip_tree replacing licensing building none =
      let rest : Policy = with_lists c.policy c.policy.deny skip skip_tree replacing in
      record {
        banned = λ of. same_listed (banned_keys c.policy c.graph) (banned_keys rest c.graph) key false refl
            (banned_same c.policy c.graph skip skip_tree replacing);
        allowed_by_wrapper = λ of. same_listed (allowed_by_wrapper_keys c.policy c.graph)
            (allowed_by_wrapper_keys rest c.graph) key false refl
            (allowed_by_same c.policy c.graph skip skip_tree replacing);
        unmatched_wrapper = λ of. same_listed (unmatched_wrapper_keys c.policy c.graph)
            (unmatched_wrapper_keys rest c.graph) key false refl
            (unmatched_by_same c.policy c.graph skip skip_tree replacing);
        unused_wrapper = λ of. same_listed (unused_wrapper_keys c.policy c.graph) (unused_wrapper_keys rest c.graph)
            key (is_taken taken Wrapper key.entry) none (unused_same c.policy c.graph skip skip_tree replacing);
      }

  pub allow_list_holds : (deny : List Ban) (skip : List Entry) (skip_tree : List Root)
      (replacing : Option Replacing) (licensing : Option Licensing) (building : Option Building)
      → AllowListHolds c (with_parts c deny skip skip_tree replacing licensing building) facts taken key
  allow_list_holds deny skip skip_tree replacing licensing building = record {
    allowed = λ of. (λ unnamed is. is, λ is. (is, refl));
    not_allowed = λ of. same_listed (not_allowed_keys c.policy c.graph)
        (not_allowed_keys (with_lists c.policy deny skip skip_tree replacing) c.graph) key false refl
        (not_allowed_same c.policy c.graph deny skip skip_tree replacing);
  }

  pub skips_hold : (deny : List Ban) (replacing : Option Replacing) (licensing : Option Licensing)
      (building : Option Building) → is_taken taken Skip key.entry ≡ false → is_taken taken SkipRoot key.entry ≡ false
      → SkipsHold c (with_parts c deny c.policy.skip c.policy.skip_tree replacing licensing building) facts taken key
  skips_hold deny replacing licensing building no_skip no_root =
      let rest : Policy = with_lists c.policy deny c.policy.skip c.policy.skip_tree replacing in
      record {
        skipped = λ of. (λ unnamed is. is, λ is. (is, refl));
        skipped_by_root = λ of. same_listed (skipped_by_root_keys c.policy c.graph facts.chains)
            (skipped_by_root_keys rest c.graph facts.chains) key false refl
            (by_root_same c.policy c.graph facts.chains deny replacing);
        unmatched_skip = λ of. same_listed (unmatched_skip_keys c.policy c.graph facts.chains)
            (unmatched_skip_keys rest c.graph facts.chains) key (is_taken taken Skip key.entry) no_skip
            (unmatched_skip_same c.policy c.graph facts.chains deny replacing);
        unmatched_skip_root = λ of. same_listed (unmatched_skip_root_keys c.policy c.graph)
            (unmatched_skip_root_keys rest c.graph) key (is_taken taken SkipRoot key.entry) no_root
            (unmatched_root_same c.policy c.graph facts.chains deny replacing);
        unnecessary_skip = λ of. same_listed (unnecessary_skip_keys c.policy c.graph facts.chains)
            (unnecessary_skip_keys rest c.graph facts.chains) key false refl
            (unnecessary_same c.policy c.graph facts.chains deny replacing);
        duplicate = λ of. (
          λ unnamed is. duplicate_there c.policy c.graph facts.chains deny replacing key is,
          λ is. (duplicate_back c.policy c.graph facts.chains deny replacing key is, refl),
        );
      }

  pub replacing_holds : (deny : List Ban) (skip : List Entry) (skip_tree : List Root)
      (licensing : Option Licensing) (building : Option Building) → is_taken taken ReplacementIgnore key.entry ≡ false
      → ReplacingHolds c (with_parts c deny skip skip_tree c.policy.replacing licensing building) facts taken key
  replacing_holds deny skip skip_tree licensing building none = record {
    replaced = λ of. (λ unnamed is. is, λ is. (is, refl));
    unmatched_ignore = λ of. (λ unnamed is. is, λ is. (is, none));
  }

  pub builds_hold : (deny : List Ban) (skip : List Entry) (skip_tree : List Root) (replacing : Option Replacing)
      (licensing : Option Licensing) → NoBypasses taken
      → BuildsHold c (with_parts c deny skip skip_tree replacing licensing c.building) facts taken key
  builds_hold deny skip skip_tree replacing licensing none = record {
    script_not_allowed = λ of. (λ unnamed is. is, λ is. (is, refl));
    path_bypassed = λ of. (λ unnamed is. is, λ is. (is, refl));
    path_bypassed_by_glob = λ of. (λ unnamed is. is, λ is. (is, refl));
    checksum_match = λ of. (λ unnamed is. is, λ is. (is, refl));
    checksum_mismatch = λ of. (λ unnamed is. is, λ is. (is, refl));
    denied_by_extension = λ of. (λ unnamed is. is, λ is. (is, refl));
    executable = λ of. (λ unnamed is. is, λ is. (is, refl));
    executable_script = λ of. (λ unnamed is. is, λ is. (is, refl));
    unable_to_check = λ of. (λ unnamed is. is, λ is. (is, refl));
    features_enabled = λ of. (λ unnamed is. is, λ is. (is, refl));
    unmatched_bypass = λ of. (λ unnamed is. is, λ is. (is, none.bypasses key.entry));
    unmatched_path = λ of. (λ unnamed is. is, λ is. (is, none.paths key.entry));
    unmatched_glob = λ of. (λ unnamed is. is, λ is. (is, none.globs key.entry));
  }

  -- the licence check reads neither these lists nor what the policy says of builds
  pub licences_hold : (deny : List Ban) (skip : List Entry) (skip_tree : List Root) (replacing : Option Replacing)
      (building : Option Building) → NoLicences taken → (d : LicenseCode)
      → HoldsStill c (with_parts c deny skip skip_tree replacing c.licensing building) facts taken key (License d)
  licences_hold deny skip skip_tree replacing building none d of =
      (λ unnamed is. is, λ is. (is, no_licence_named taken key none d))
