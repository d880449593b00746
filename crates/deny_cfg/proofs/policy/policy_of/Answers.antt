use Rattle.std.proofs.Common.{List, ◌++◌, ◌-◌, ap, arith, length, subst, sym, ◌∙◌}
use Rattle.std.proofs.lemmas.List.{length-append}
use Rattle.deny_base.specs.declared.finding.Diagnostic.{Diagnostic}
use Rattle.deny_cfg.specs.Clashes.{AreClashes}
use Rattle.deny_cfg.specs.PolicyView.{past_waivers_of}
use Rattle.deny_cfg.specs.Warnings.{expired_warnings, warnings_of}
use Rattle.deny_cfg.specs.private.Warnings.{AreReported}
use Rattle.deny_cfg.specs.PolicyText.{IsNoPolicy, ListsFaults, globs_files}
use Rattle.deny_cfg.specs.private.PolicyText.{AddsOnError}
use Rattle.deny_cfg.specs.Valid.{IsValidOf}
use Rattle.deny_cfg.specs.Validating.{source_in}
use Rattle.deny_cfg.specs.declared.policy.PolicyError.TheVariants as error
use Rattle.deny_cfg.proofs.AddedLaws.{handed_on, memory_adds}
use Rattle.deny_cfg.proofs.BuiltLaws.{globs_asked, older_key_lies}
use Rattle.deny_cfg.proofs.CurrentLaws.{current_file, current_labels, current_licence_labels, current_older_key}
use Rattle.deny_cfg.proofs.ExpiredLabels.{expired_labels}
use Rattle.deny_cfg.proofs.LabelValid.{valid_are_labels}
use Rattle.deny_cfg.proofs.LawfulLaws.{lawful, lawful_licences}
use Rattle.deny_cfg.proofs.PolicyLaws.{first_left, gained, no_policy_of, none_added, none_before, none_reported}
use Rattle.deny_cfg.proofs.ReportedLaws.{reported_lie}
use Rattle.deny_cfg.proofs.policy.policy_of.Goals as goal

pub returns-in_err-tables-clause-cause : goal.returns-in_err-tables-clause-cause
returns-in_err-tables-clause-cause c =
    let e = c.in_err-tables.field-0.0 in
    handed_on c.from_residual.result e (IsNoPolicy c.args.today c.args.text.now c.args.file) c.from_residual.ensures.1
    (no_policy_of c.args.today c.args.text.now c.args.file e c.in_err-tables.ensures.faults)

pub returns-in_err-tables-clause-files_too : goal.returns-in_err-tables-clause-files_too
returns-in_err-tables-clause-files_too c =
    let e = c.in_err-tables.field-0.0 in
    let files = c.args.files.now in
    handed_on c.from_residual.result e (λ f. AddsOnError c.args.today f c.args.text.now files files) c.from_residual.ensures.1
    (none_added c.args.today e (ListsFaults c.args.today c.args.text.now) c.args.text.now files c.in_err-tables.ensures.faults)

pub returns-in_err-bans-clause-files_too : goal.returns-in_err-bans-clause-files_too
returns-in_err-bans-clause-files_too c =
    let files = c.args.files.now in
    handed_on c.from_residual-in_err-bans.result error.Memory (λ f. AddsOnError c.args.today f c.args.text.now files _)
    c.from_residual-in_err-bans.ensures.1
    (memory_adds c.args.today c.args.text.now c.in_ok-tables.tables.bans c.in_ok-tables.tables.licenses files _
    c.in_ok-tables.ensures.says c.in_err-bans.ensures.files_too)

pub overflow_sub-clashes : goal.overflow_sub-clashes
overflow_sub-clashes c =
    let file = c.args.file in
    let config = c.in_ok-tables.tables.bans in
    let source = source_in c.args.files.now file in
    let all = c.validate.new.ctx.1.1.1.0 in
    let reported = gained (AreReported source config file) c.new-reported.result all c.new-reported.ensures
    c.in_ok-bans.ensures.reported in
    let warnings = warnings_of file config in
    omega (
      arith,
      c.len-else-len-warnings.ensures,
      ap length reported.is,
      length-append reported.clashes warnings,
      c.warnings_len-warnings.ensures file,
    )

pub returns-in_ok-current_policy-clause-policy : goal.returns-in_ok-current_policy-clause-policy
returns-in_ok-current_policy-clause-policy c =
    let config = c.in_ok-tables.tables.bans in
    let file = c.args.file in
    let source = source_in c.args.files.now file in
    let all = c.validate.new.ctx.1.1.1.0 in
    let reported =
    subst (λ text. AreReported text config file all) (sym c.requires.source)
    (gained (AreReported source config file) c.new-reported.result all c.new-reported.ensures
    c.in_ok-bans.ensures.reported) in
    let warnings = warnings_of file config in
    let none =
    none_before reported.clashes warnings all reported.is
    (sym c.len.ensures ∙ (c.if-len-warnings.true ∙ c.warnings_len-warnings.ensures file)) in
    record {
      config = config;
      licensing = c.in_ok-tables.tables.licenses;
      says = c.in_ok-tables.ensures.says;
      no_clash = none_reported c.args.text.now config file reported.clashes reported.are none;
      written = c.in_ok-bans.bans;
      valid =
          subst (λ number. IsValidOf config file number c.in_ok-bans.bans) c.requires.last
          c.in_ok-bans.ensures.valid;
      current = c.in_ok-current_policy.ensures.current;
      warnings =
          c.in_ok-current_policy.ensures.warnings
          ∙ ap
          (λ (before : List Diagnostic). before
          ++ expired_warnings file (past_waivers_of c.in_ok-current_policy.field-0))
          (reported.is ∙ ap (λ (clashes : List Diagnostic). clashes ++ warnings) none);
    }

pub returns-in_ok-current_policy-clause-labels : goal.returns-in_ok-current_policy-clause-labels
returns-in_ok-current_policy-clause-labels c =
    current_labels c.args.today c.args.text.now c.in_ok-bans.bans c.in_ok-current_policy.field-0.bans
    c.in_ok-current_policy.ensures.current.bans
    (valid_are_labels c.args.text.now c.in_ok-tables.tables.bans c.args.file (length c.args.files.now)
    c.in_ok-bans.bans c.in_ok-bans.ensures.valid c.in_ok-tables.ensures.labels)

pub returns-in_ok-current_policy-clause-older_key : goal.returns-in_ok-current_policy-clause-older_key
returns-in_ok-current_policy-clause-older_key c =
    current_older_key c.args.today c.args.text.now c.in_ok-bans.bans c.in_ok-current_policy.field-0.bans
    c.in_ok-current_policy.ensures.current.bans
    (older_key_lies c.args.text.now c.in_ok-tables.tables.bans c.args.file (length c.args.files.now)
    c.in_ok-bans.bans c.in_ok-bans.ensures.valid c.in_ok-tables.ensures.lists)

pub returns-in_ok-current_policy-clause-expired_labels : goal.returns-in_ok-current_policy-clause-expired_labels
returns-in_ok-current_policy-clause-expired_labels c =
    expired_labels c.args.today c.args.text.now c.in_ok-bans.bans c.in_ok-tables.tables.licenses
    c.in_ok-current_policy.field-0 c.in_ok-current_policy.ensures.current
    (valid_are_labels c.args.text.now c.in_ok-tables.tables.bans c.args.file (length c.args.files.now)
    c.in_ok-bans.bans c.in_ok-bans.ensures.valid c.in_ok-tables.ensures.labels)
    c.in_ok-tables.ensures.licence_labels

pub returns-in_ok-current_policy-clause-lawful : goal.returns-in_ok-current_policy-clause-lawful
returns-in_ok-current_policy-clause-lawful c =
    lawful c.args.text.now c.in_ok-current_policy.field-0.bans (returns-in_ok-current_policy-clause-labels c)

pub returns-in_ok-current_policy-clause-licence_labels : goal.returns-in_ok-current_policy-clause-licence_labels
returns-in_ok-current_policy-clause-licence_labels c =
    current_licence_labels c.args.today c.args.text.now c.in_ok-tables.tables.licenses
    c.in_ok-current_policy.field-0.licenses c.in_ok-current_policy.ensures.current.licenses
    c.in_ok-tables.ensures.licence_labels

pub returns-in_ok-current_policy-clause-lawful_licences : goal.returns-in_ok-current_policy-clause-lawful_licences
returns-in_ok-current_policy-clause-lawful_licences c =
    lawful_licences c.args.text.now c.in_ok-current_policy.field-0.licenses
    (returns-in_ok-current_policy-clause-licence_labels c)

pub returns-in_ok-current_policy-clause-files : goal.returns-in_ok-current_policy-clause-files
returns-in_ok-current_policy-clause-files c =
    c.in_ok-bans.ensures.files
    ∙ ap (λ added. c.args.files.now ++ added)
    (globs_asked c.in_ok-tables.tables.bans c.args.file (length c.args.files.now) c.in_ok-bans.bans
    c.in_ok-bans.ensures.valid
    ∙ ap globs_files
    (sym (current_file c.args.today c.in_ok-bans.bans c.in_ok-current_policy.field-0.bans
    c.in_ok-current_policy.ensures.current.bans)))

pub returns-else-len-warnings-clause-cause : goal.returns-else-len-warnings-clause-cause
returns-else-len-warnings-clause-cause c =
    let config = c.in_ok-tables.tables.bans in
    let file = c.args.file in
    let source = source_in c.args.files.now file in
    let all = c.validate.new.ctx.1.1.1.0 in
    let reported =
    subst (λ text. AreReported text config file all) (sym c.requires.source)
    (gained (AreReported source config file) c.new-reported.result all c.new-reported.ensures
    c.in_ok-bans.ensures.reported) in
    let warnings = warnings_of file config in
    let same =
    c.first_reported.ensures
    ∙ first_left reported.clashes warnings all _ reported.is
    (λ i. c.len-else-len-warnings.ensures i - c.warnings_len-warnings.ensures file i) in
    let are = subst (AreClashes c.args.text.now config file) (sym same) reported.are in
    record {
      config = config;
      licensing = c.in_ok-tables.tables.licenses;
      says = c.in_ok-tables.ensures.says;
      some =
          λ none. c.if-len-warnings.false
          (c.len.ensures
          ∙ (ap length (reported.is ∙ ap (λ (clashes : List Diagnostic). clashes ++ warnings) (sym same ∙ none))
          ∙ sym (c.warnings_len-warnings.ensures file)));
      are = are;
      located =
          reported_lie c.args.text.now config file c.first_reported.result c.utf8.text c.in_ok-tables.ensures.labels
          c.in_ok-tables.ensures.lists are;
    }

pub returns-else-len-warnings-clause-files_too : goal.returns-else-len-warnings-clause-files_too
returns-else-len-warnings-clause-files_too c = record {
  config = c.in_ok-tables.tables.bans;
  licensing = c.in_ok-tables.tables.licenses;
  says = c.in_ok-tables.ensures.says;
  is = c.in_ok-bans.ensures.files;
}
