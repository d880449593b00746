use Rattle.std.proofs.Common.{ap, subst, ◌∙◌}
use Rattle.deny_base.specs.declared.code.Code.{Code}
use Rattle.deny_base.specs.declared.code.DiagnosticCode.TheVariants.{Bans}
use Rattle.deny_spec_report.specs.EachCode.{HoldsAs}
use Rattle.deny_diags.proofs.NamedLemmas.{allowed_by_wrapper_named, allowed_named, banned_named, feature_banned_named}
use Rattle.deny_diags.proofs.NamedLemmas.{feature_not_allowed_named, mismatched_named, skipped_by_root_named}
use Rattle.deny_diags.proofs.NamedLemmas.{skipped_named, unmatched_skip_named, unmatched_wrapper_named}
use Rattle.deny_diags.proofs.NamedLemmas.{unnecessary_skip_named, unused_named}
use Rattle.deny_diags.proofs.RequiredLemmas.{feature_named}
use Rattle.deny_diags.specs.private.DiagWriter.{circumstances_from}
use Rattle.deny_diags.proofs.diag.message_as.Goals as goal

pub banned_diag-requires : goal.banned_diag-requires
banned_diag-requires c =
    let d = circumstances_from c.args.writer.now in
    let key = c.args.key.now in
    let facts = c.requires.holds.0 in
    let is = subst (λ (code : Code). HoldsAs code d facts key) c.in-Banned.is c.requires.holds.1 in
    banned_named d.policy d.graph key is

pub allowed_diag-requires : goal.allowed_diag-requires
allowed_diag-requires c =
    let d = circumstances_from c.args.writer.now in
    let key = c.args.key.now in
    let facts = c.requires.holds.0 in
    let is = subst (λ (code : Code). HoldsAs code d facts key) c.in-Allowed.is c.requires.holds.1 in
    allowed_named d.policy d.graph key is

pub skipped_diag-requires : goal.skipped_diag-requires
skipped_diag-requires c =
    let d = circumstances_from c.args.writer.now in
    let key = c.args.key.now in
    let facts = c.requires.holds.0 in
    let is = subst (λ (code : Code). HoldsAs code d facts key) c.in-Skipped.is c.requires.holds.1 in
    skipped_named d.policy d.graph key facts.chains is

pub unmatched_skip_diag-requires : goal.unmatched_skip_diag-requires
unmatched_skip_diag-requires c =
    let d = circumstances_from c.args.writer.now in
    let key = c.args.key.now in
    let facts = c.requires.holds.0 in
    let is = subst (λ (code : Code). HoldsAs code d facts key) c.in-UnmatchedSkip.is c.requires.holds.1 in
    unmatched_skip_named d.policy d.graph key facts.chains is

pub unnecessary_skip_diag-requires : goal.unnecessary_skip_diag-requires
unnecessary_skip_diag-requires c =
    let d = circumstances_from c.args.writer.now in
    let key = c.args.key.now in
    let facts = c.requires.holds.0 in
    let is = subst (λ (code : Code). HoldsAs code d facts key) c.in-UnnecessarySkip.is c.requires.holds.1 in
    unnecessary_skip_named d.policy d.graph key facts.chains is

pub allowed_by_wrapper_diag-requires : goal.allowed_by_wrapper_diag-requires
allowed_by_wrapper_diag-requires c =
    let d = circumstances_from c.args.writer.now in
    let key = c.args.key.now in
    let facts = c.requires.holds.0 in
    let is = subst (λ (code : Code). HoldsAs code d facts key) c.in-AllowedByWrapper.is c.requires.holds.1 in
    allowed_by_wrapper_named d.policy d.graph key is

pub unmatched_wrapper_diag-requires : goal.unmatched_wrapper_diag-requires
unmatched_wrapper_diag-requires c =
    let d = circumstances_from c.args.writer.now in
    let key = c.args.key.now in
    let facts = c.requires.holds.0 in
    let is = subst (λ (code : Code). HoldsAs code d facts key) c.in-UnmatchedWrapper.is c.requires.holds.1 in
    unmatched_wrapper_named d.policy d.graph key is

pub skipped_by_root_diag-requires : goal.skipped_by_root_diag-requires
skipped_by_root_diag-requires c =
    let d = circumstances_from c.args.writer.now in
    let key = c.args.key.now in
    let facts = c.requires.holds.0 in
    let is = subst (λ (code : Code). HoldsAs code d facts key) c.in-SkippedByRoot.is c.requires.holds.1 in
    skipped_by_root_named d.policy d.graph key facts.chains is

pub mismatched_diag-requires : goal.mismatched_diag-requires
mismatched_diag-requires c =
    let d = circumstances_from c.args.writer.now in
    let key = c.args.key.now in
    let facts = c.requires.holds.0 in
    let is = subst (λ (code : Code). HoldsAs code d facts key) c.in-ExactFeaturesMismatch.is c.requires.holds.1 in
    mismatched_named d.policy d.graph key is

pub feature_not_allowed_diag-requires : goal.feature_not_allowed_diag-requires
feature_not_allowed_diag-requires c =
    let d = circumstances_from c.args.writer.now in
    let key = c.args.key.now in
    let facts = c.requires.holds.0 in
    let is = subst (λ (code : Code). HoldsAs code d facts key) c.in-FeatureNotExplicitlyAllowed.is
    c.requires.holds.1 in
    feature_not_allowed_named d.policy d.graph key is

pub feature_banned_diag-requires : goal.feature_banned_diag-requires
feature_banned_diag-requires c =
    let d = circumstances_from c.args.writer.now in
    let key = c.args.key.now in
    let facts = c.requires.holds.0 in
    let is = subst (λ (code : Code). HoldsAs code d facts key) c.in-FeatureBanned.is c.requires.holds.1 in
    feature_banned_named d.policy d.graph key is

pub unknown_feature_diag-requires : goal.unknown_feature_diag-requires
unknown_feature_diag-requires c =
    let d = circumstances_from c.args.writer.now in
    let key = c.args.key.now in
    let facts = c.requires.holds.0 in
    let is = subst (λ (code : Code). HoldsAs code d facts key) c.in-UnknownFeature.is c.requires.holds.1 in
    feature_named d facts key (c.requires.code ∙ ap Bans c.in-UnknownFeature.is) is

pub unused_entry_diag-requires-clause-there : goal.unused_entry_diag-requires-clause-there
unused_entry_diag-requires-clause-there c =
    let d = circumstances_from c.args.writer.now in
    let key = c.args.key.now in
    let facts = c.requires.holds.0 in
    let is = subst (λ (code : Code). HoldsAs code d facts key) c.in-UnusedWorkspaceDependency.is c.requires.holds.1 in
    unused_named d.policy d.view key is
