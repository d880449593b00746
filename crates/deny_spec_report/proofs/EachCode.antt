-- A line for each code: its keys are in a section of the bans check, hold by any true facts, and hold whatever was read
-- of files where the code asks nothing of them.
use Rattle.std.specs.Prelude.{Contains, IsTrue}
use Rattle.std.proofs.Common.{inl, inr, refl, subst, sym, ◌≡◌, List}
use Rattle.deny_base_lists.proofs.Agreement.{flat_map_on}
use Rattle.deny_base_lists.proofs.Members.{Contains-same}
use Rattle.deny_base.specs.Code.{is_free}
use Rattle.deny_base.specs.declared.code.Code.{Code}
use Rattle.deny_base.specs.declared.code.Code.TheVariants as code
use Rattle.deny_base.specs.declared.key.Key.{Key}
use Rattle.deny_base.specs.declared.key.Section.{Section}
use Rattle.deny_spec.specs.Skips.{skipped_by_root_keys_of, skipped_keys_of}
use Rattle.deny_spec.specs.View.{View}
use Rattle.deny_spec.proofs.Agreement.{TwoFacts, duplicates_alike, in_tree_keys_alike, skipped_keys_alike}
use Rattle.deny_spec.proofs.Agreement.{unmatched_alike, unnecessary_alike}
use Rattle.deny_spec.specs.declared.package.Package.{Package}
use Rattle.deny_spec_report.specs.Circumstances.{Circumstances, seen_anew}
use Rattle.deny_spec_report.specs.Codes.{is_of_bans}
use Rattle.deny_spec_report.specs.EachCode.{HoldsAs, message_as}
use Rattle.deny_spec_report.specs.Facts.{Facts, AreFacts}
use Rattle.deny_spec_report.specs.Packages.{build_keys_in}
use Rattle.deny_spec_report.proofs.BuildAlike.{keys_of_builds_alike}
use Rattle.deny_spec_report.proofs.BuildMade.{build_made}
use Rattle.deny_spec_report.proofs.Made.{Made, allowed_by_wrapper_made, allowed_made, banned_made, default_enabled_made}
use Rattle.deny_spec_report.proofs.Made.{duplicate_made, feature_banned_made, feature_not_allowed_made, mismatched_made}
use Rattle.deny_spec_report.proofs.Made.{not_allowed_made, replaced_made, skipped_by_root_made, skipped_made}
use Rattle.deny_spec_report.proofs.Made.{unknown_feature_made, unmatched_ignore_made, unmatched_skip_made}
use Rattle.deny_spec_report.proofs.Made.{unmatched_skip_root_made, unmatched_wrapper_made, unnecessary_skip_made}
use Rattle.deny_spec_report.proofs.Made.{unresolved_made, unused_entry_made, unused_wrapper_made, wildcard_made}
use Rattle.deny_spec_report.proofs.Made.{workspace_duplicate_made}
use Rattle.deny_spec_report.proofs.WildcardLemmas.{unresolved_keys_alike, wildcard_keys_alike}

-- ---- the sections of keys

within : {s : Section} {d : Code} (key : Key) → Made s d key → IsTrue (is_of_bans s) → IsTrue (is_of_bans key.section)
within {s} {d} key made mine = subst (λ (t : Section). IsTrue (is_of_bans t)) (sym made.section_is) mine

of_builds : (c : Circumstances) (facts : Facts) (key : Key) → Contains (build_keys_in c facts) key
    → IsTrue (is_of_bans key.section)
of_builds c facts key is = let made = build_made c facts key is in within key made.made made.of_bans

-- a key that holds by a rule on bans is in a section of the bans check
pub as_code : (d : Code) (c : Circumstances) (facts : Facts) (key : Key) → HoldsAs d c facts key
    → IsTrue (is_of_bans key.section)
as_code code.Banned c facts key is = within key (banned_made c.policy c.graph key is) refl
as_code code.Allowed c facts key is = within key (allowed_made c.policy c.graph key is) refl
as_code code.NotAllowed c facts key is = within key (not_allowed_made c.policy c.graph key is) refl
as_code code.Duplicate c facts key is = within key (duplicate_made c.policy c.graph facts.chains key is) refl
as_code code.Skipped c facts key is = within key (skipped_made c.policy c.graph facts.chains key is) refl
as_code code.UnmatchedSkip c facts key is = within key (unmatched_skip_made c.policy c.graph facts.chains key is) refl
as_code code.UnnecessarySkip c facts key is = within key
    (unnecessary_skip_made c.policy c.graph facts.chains key is) refl
as_code code.AllowedByWrapper c facts key is = within key (allowed_by_wrapper_made c.policy c.graph key is) refl
as_code code.UnmatchedWrapper c facts key is = within key (unmatched_wrapper_made c.policy c.graph key is) refl
as_code code.SkippedByRoot c facts key is = within key (skipped_by_root_made c.policy c.graph facts.chains key is) refl
as_code code.UnmatchedSkipRoot c facts key is = within key (unmatched_skip_root_made c.policy c.graph key is) refl
as_code code.ExactFeaturesMismatch c facts key is = within key (mismatched_made c.policy c.graph key is) refl
as_code code.FeatureNotExplicitlyAllowed c facts key is =
    within key (feature_not_allowed_made c.policy c.graph key is) refl
as_code code.FeatureBanned c facts key is = within key (feature_banned_made c.policy c.graph key is) refl
as_code code.UnknownFeature c facts key is = elim is as (λ _. IsTrue (is_of_bans key.section)) [
  | inl here ↦ within key (unknown_feature_made c.policy c.graph key here) refl
  | inr there ↦ of_builds c facts key there
]
as_code code.DefaultFeatureEnabled c facts key is = within key (default_enabled_made c.policy c.graph key is) refl
as_code code.UnusedWrapper c facts key is = within key (unused_wrapper_made c.policy c.graph key is) refl
as_code code.ReplacedInStd c facts key is = within key (replaced_made c key is) refl
as_code code.UnmatchedReplacementIgnore c facts key is = within key (unmatched_ignore_made c key is) refl
as_code code.Wildcard c facts key is = within key (wildcard_made c.policy c.graph facts.chains c.view key is) refl
as_code code.WorkspaceDuplicate c facts key is =
    within key (workspace_duplicate_made c.graph c.view key c.policy is) refl
as_code code.UnresolvedWorkspaceDependency c facts key is =
    within key (unresolved_made c.policy c.graph facts.chains c.view key is) refl
as_code code.UnusedWorkspaceDependency c facts key is = within key (unused_entry_made c.policy c.view key is) refl
as_code code.BuildScriptNotAllowed c facts key is = of_builds c facts key is
as_code code.PathBypassed c facts key is = of_builds c facts key is
as_code code.PathBypassedByGlob c facts key is = of_builds c facts key is
as_code code.ChecksumMatch c facts key is = of_builds c facts key is
as_code code.ChecksumMismatch c facts key is = of_builds c facts key is
as_code code.DeniedByExtension c facts key is = of_builds c facts key is
as_code code.DetectedExecutable c facts key is = of_builds c facts key is
as_code code.DetectedExecutableScript c facts key is = of_builds c facts key is
as_code code.UnableToCheckPath c facts key is = of_builds c facts key is
as_code code.FeaturesEnabled c facts key is = of_builds c facts key is
as_code code.UnmatchedBypass c facts key is = of_builds c facts key is
as_code code.UnmatchedPathBypass c facts key is = of_builds c facts key is
as_code code.UnmatchedGlob c facts key is = of_builds c facts key is

-- ---- by other facts

-- the keys of a code hold by any facts that are true
module _ (c : Circumstances) (these those : Facts) (left : AreFacts c these) (right : AreFacts c those) where
  both : TwoFacts c.policy c.graph these.chains those.chains
  both = record { left = left.chains; right = right.chains }

  built : (key : Key) → Contains (build_keys_in c these) key → Contains (build_keys_in c those) key
  built key is = Contains-same _ _ key (keys_of_builds_alike c these those left.reached right.reached) is

  -- the last line is that of the codes that ask nothing of facts
  pub as_alike : (d : Code) (key : Key) → HoldsAs d c these key → HoldsAs d c those key
  as_alike code.Duplicate key is = duplicates_alike c.policy c.graph these.chains those.chains key both is
  as_alike code.Skipped key is = Contains-same _ _ key
      (flat_map_on (skipped_keys_of c.graph these.chains) (skipped_keys_of c.graph those.chains) c.policy.skip
      (skipped_keys_alike c.policy c.graph these.chains those.chains both)) is
  as_alike code.SkippedByRoot key is = Contains-same _ _ key
      (flat_map_on (skipped_by_root_keys_of c.policy c.graph these.chains)
      (skipped_by_root_keys_of c.policy c.graph those.chains) c.policy.skip_tree
      (in_tree_keys_alike c.policy c.graph these.chains those.chains both)) is
  as_alike code.UnmatchedSkip key is = Contains-same _ _ key
      (unmatched_alike c.policy c.graph these.chains those.chains both) is
  as_alike code.UnnecessarySkip key is = Contains-same _ _ key
      (unnecessary_alike c.policy c.graph these.chains those.chains both) is
  as_alike code.Wildcard key is = Contains-same _ _ key
      (wildcard_keys_alike c.policy c.graph these.chains those.chains c.view both) is
  as_alike code.UnresolvedWorkspaceDependency key is = Contains-same _ _ key
      (unresolved_keys_alike c.policy c.graph these.chains those.chains c.view both) is
  as_alike code.UnknownFeature key is = elim is as (λ _. HoldsAs code.UnknownFeature c those key)
      [ inl here ↦ inl here | inr there ↦ inr (built key there) ]
  as_alike code.BuildScriptNotAllowed key is = built key is
  as_alike code.PathBypassed key is = built key is
  as_alike code.PathBypassedByGlob key is = built key is
  as_alike code.ChecksumMatch key is = built key is
  as_alike code.ChecksumMismatch key is = built key is
  as_alike code.DeniedByExtension key is = built key is
  as_alike code.DetectedExecutable key is = built key is
  as_alike code.DetectedExecutableScript key is = built key is
  as_alike code.UnableToCheckPath key is = built key is
  as_alike code.FeaturesEnabled key is = built key is
  as_alike code.UnmatchedBypass key is = built key is
  as_alike code.UnmatchedPathBypass key is = built key is
  as_alike code.UnmatchedGlob key is = built key is
  as_alike _ key is = is

-- ---- by other files

-- the keys of a code that asks nothing of files hold, and have the same message, whatever was read
module _ (c : Circumstances) (view : View) (packages : List Package) where
  abbrev anew : Circumstances
  anew = seen_anew c view packages

  -- the last lines hold at each code by itself: a code that reads what was seen and is called free is refused there;
  -- those before them read it, and are not
  pub code_there : (d : Code) (facts : Facts) (key : Key) → IsTrue (is_free d) → HoldsAs d c facts key
      → HoldsAs d anew facts key
  code_there code.Banned facts key free is = is
  code_there code.Wildcard facts key free is = absurd (cc free)
  code_there code.WorkspaceDuplicate facts key free is = absurd (cc free)
  code_there code.UnresolvedWorkspaceDependency facts key free is = absurd (cc free)
  code_there code.UnusedWorkspaceDependency facts key free is = absurd (cc free)
  code_there code.BuildScriptNotAllowed facts key free is = absurd (cc free)
  code_there code.UnknownFeature facts key free is = absurd (cc free)
  code_there code.PathBypassed facts key free is = absurd (cc free)
  code_there code.PathBypassedByGlob facts key free is = absurd (cc free)
  code_there code.ChecksumMatch facts key free is = absurd (cc free)
  code_there code.ChecksumMismatch facts key free is = absurd (cc free)
  code_there code.DeniedByExtension facts key free is = absurd (cc free)
  code_there code.DetectedExecutable facts key free is = absurd (cc free)
  code_there code.DetectedExecutableScript facts key free is = absurd (cc free)
  code_there code.UnableToCheckPath facts key free is = absurd (cc free)
  code_there code.FeaturesEnabled facts key free is = absurd (cc free)
  code_there code.UnmatchedBypass facts key free is = absurd (cc free)
  code_there code.UnmatchedPathBypass facts key free is = absurd (cc free)
  code_there code.UnmatchedGlob facts key free is = absurd (cc free)
  code_there _ facts key free is = is

  pub code_back : (d : Code) (facts : Facts) (key : Key) → IsTrue (is_free d) → HoldsAs d anew facts key
      → HoldsAs d c facts key
  code_back code.Banned facts key free is = is
  code_back code.Wildcard facts key free is = absurd (cc free)
  code_back code.WorkspaceDuplicate facts key free is = absurd (cc free)
  code_back code.UnresolvedWorkspaceDependency facts key free is = absurd (cc free)
  code_back code.UnusedWorkspaceDependency facts key free is = absurd (cc free)
  code_back code.BuildScriptNotAllowed facts key free is = absurd (cc free)
  code_back code.UnknownFeature facts key free is = absurd (cc free)
  code_back code.PathBypassed facts key free is = absurd (cc free)
  code_back code.PathBypassedByGlob facts key free is = absurd (cc free)
  code_back code.ChecksumMatch facts key free is = absurd (cc free)
  code_back code.ChecksumMismatch facts key free is = absurd (cc free)
  code_back code.DeniedByExtension facts key free is = absurd (cc free)
  code_back code.DetectedExecutable facts key free is = absurd (cc free)
  code_back code.DetectedExecutableScript facts key free is = absurd (cc free)
  code_back code.UnableToCheckPath facts key free is = absurd (cc free)
  code_back code.FeaturesEnabled facts key free is = absurd (cc free)
  code_back code.UnmatchedBypass facts key free is = absurd (cc free)
  code_back code.UnmatchedPathBypass facts key free is = absurd (cc free)
  code_back code.UnmatchedGlob facts key free is = absurd (cc free)
  code_back _ facts key free is = is

  pub messages_alike : (d : Code) (key : Key) → IsTrue (is_free d) → message_as d anew key ≡ message_as d c key
  unfolding message_as
  messages_alike code.Banned key free = refl
  messages_alike code.Wildcard key free = absurd (cc free)
  messages_alike code.WorkspaceDuplicate key free = absurd (cc free)
  messages_alike code.UnresolvedWorkspaceDependency key free = absurd (cc free)
  messages_alike code.UnusedWorkspaceDependency key free = absurd (cc free)
  messages_alike code.BuildScriptNotAllowed key free = absurd (cc free)
  messages_alike code.UnknownFeature key free = absurd (cc free)
  messages_alike code.PathBypassed key free = absurd (cc free)
  messages_alike code.PathBypassedByGlob key free = absurd (cc free)
  messages_alike code.ChecksumMatch key free = absurd (cc free)
  messages_alike code.ChecksumMismatch key free = absurd (cc free)
  messages_alike code.DeniedByExtension key free = absurd (cc free)
  messages_alike code.DetectedExecutable key free = absurd (cc free)
  messages_alike code.DetectedExecutableScript key free = absurd (cc free)
  messages_alike code.UnableToCheckPath key free = absurd (cc free)
  messages_alike code.FeaturesEnabled key free = absurd (cc free)
  messages_alike code.UnmatchedBypass key free = absurd (cc free)
  messages_alike code.UnmatchedPathBypass key free = absurd (cc free)
  messages_alike code.UnmatchedGlob key free = absurd (cc free)
  messages_alike _ key free = refl
