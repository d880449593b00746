-- When an error may come, once the policy was read.
use Rattle.std.proofs.Common.{◌≡◌, ℕ, List, Option, Result, Ok, Err, subst}
use Rattle.std.specs.Prelude.{IfOk, IfErr}
use Rattle.deny_cfg.specs.PolicyText.{IsPolicyOf}
use Rattle.deny_cfg.specs.PolicyView.{policy_view}
use Rattle.deny_cfg.specs.declared.policy.Policy.{Policy}
use Rattle.deny_spec_removal.specs.Removal.{EntriesCanGo}
use Rattle.deny_spec_removal.specs.Asking.{PackagesStay}
use Rattle.deny_spec.specs.Policy as model
use Rattle.deny_base_disk.specs.Disk.{Disk}
use Rattle.deny_build_scan.specs.Why.{AreFoldersOf}
use Rattle.deny_base_unread.specs.Bound.{Folders}
use Rattle.deny_base_unread.specs.Causes.{AreCaused}
use Rattle.deny_gate.specs.Dead.{CanDoWithoutDead}
use Rattle.deny_gate.specs.Gating.{HasGraph, IsCause, IsCausedReport, IsFirstFault}
use Rattle.deny_gate.specs.private.Gating.{IsCauseBehind, IsMetadataCause}
use Rattle.deny_gate.specs.Gating.{IsReportBy, IsReportOf, InputTexts}
use Rattle.deny_gate.specs.private.Gating.{IsPolicyReport, IsTableCauseFor}
use Rattle.deny_gate.specs.Headline.{IsHeadlineOf}
use Rattle.deny_gate.specs.Report.{policy_id}
use Rattle.deny_gate.specs.declared.report.GateError.{GateError}
use Rattle.deny_gate.specs.declared.report.GateError.TheVariants.{Config, Invalid, Metadata, Replacement}
use Rattle.deny_gate.specs.declared.report.GateError.TheVariants.{Memory}
use Rattle.deny_gate.specs.declared.report.Report.{Report}
use Rattle.deny_gate.specs.Stats.{code_of, exit_code}
use Rattle.deny_gate.proofs.DeadLaws.{dead_of_unhit, without_unhit}
use Rattle.deny_gate.proofs.ExitLaws.{exit_of}
use Rattle.deny_gate.proofs.HeadlineLaws.{headline_of}

-- the metadata has no graph, or it has one and the table that the policy asks for is not there
pub no_graph_cause : (p : model.Policy) (texts : InputTexts) (metadata : List ℕ) (error : GateError)
    → metadata ≡ texts.metadata → IsMetadataCause metadata error → IsCauseBehind p texts error
no_graph_cause p texts metadata (Config faults) same cause = cause
no_graph_cause p texts metadata (Invalid clashes) same cause = cause
no_graph_cause p texts metadata (Metadata f) same cause = subst (λ (bytes : List ℕ). IsFirstFault bytes f) same cause
no_graph_cause p texts metadata (Replacement at) same cause = absurd cause
no_graph_cause p texts metadata Memory same cause = tt

pub no_table_cause : (p : model.Policy) (texts : InputTexts) (replacements : Option (List ℕ)) (error : GateError)
    → replacements ≡ texts.replacements → HasGraph texts.metadata → IsTableCauseFor p replacements error
    → IsCauseBehind p texts error
no_table_cause p texts replacements (Config faults) same graph cause = cause.1
no_table_cause p texts replacements (Invalid clashes) same graph cause = cause.1
no_table_cause p texts replacements (Metadata f) same graph cause = absurd cause.1
no_table_cause p texts replacements (Replacement at) same graph cause =
    (graph, subst (λ (table : Option (List ℕ)). IsTableCauseFor p table (Replacement at)) same cause)
no_table_cause p texts replacements Memory same graph cause = tt

-- the text that was read is that of the policy in the inputs
module _ (texts : InputTexts) (said : Policy) (read : List ℕ) (same : read ≡ texts.policy)
    (handed : IsPolicyOf texts.today read policy_id said) where
  of_text : IsPolicyOf texts.today texts.policy policy_id said
  of_text = subst (λ (text : List ℕ). IsPolicyOf texts.today text policy_id said) same handed

  by_rest : (error : GateError) → IsCauseBehind (policy_view said.bans) texts error → IsCause texts error
  by_rest (Metadata f) cause = (record { said = said; is_said = of_text }, cause)
  by_rest (Replacement at) cause =
      (record { said = said; is_said = of_text; asks = cause.1.0 }, cause.0, cause.1.1)
  by_rest Memory cause = tt
  by_rest (Config faults) cause = absurd cause
  by_rest (Invalid clashes) cause = absurd cause

  pub cause_then : (result : Result Report GateError) → IfErr result (IsCauseBehind (policy_view said.bans) texts)
      → IfErr result (IsCause texts)
  cause_then (Ok report) cause = tt
  cause_then (Err error) cause = by_rest error cause

  module _ (old new : Disk) where
    report_by : (report : Report) (on : IsPolicyReport old new said texts report)
        → IsReportBy old.files texts on.seen.view on.seen.packages report
    report_by report on = record {
      said = said;
      is_said = of_text;
      graph = on.graph;
      is_graph = on.is_graph;
      table = on.table;
      ascending = on.seen.ascending;
      seen = on.seen.seen;
      packages_seen = on.seen.packages_seen;
      is_report = on.seen.is_report;
    }

    report_is : (report : Report) → IsPolicyReport old new said texts report → IsReportOf old.files texts report
    report_is report on =
        record { view = on.seen.view; packages = on.seen.packages; by = report_by report on }

    pub report_then : (result : Result Report GateError) → IfOk result (IsPolicyReport old new said texts)
        → IfOk result (IsReportOf old.files texts)
    report_then (Ok report) on = report_is report on
    report_then (Err error) on = tt

    pub caused_then : (result : Result Report GateError) → IfOk result (IsPolicyReport old new said texts)
        → IfOk result (λ report. (folder : Folders) → AreFoldersOf report.krates folder
        → AreCaused folder old new report.unread)
        → IfOk result (IsCausedReport old new texts)
    unfolding report_by
    caused_then (Ok report) on caused = record {
      view = on.seen.view;
      packages = on.seen.packages;
      by = report_by report on;
      caused = caused;
      causes = on.seen.causes;
    }
    caused_then (Err error) on caused = tt

    pub headline_then : (result : Result Report GateError) → IfOk result (IsPolicyReport old new said texts)
        → IfOk result (IsHeadlineOf texts)
    headline_then (Ok report) on = headline_of old.files texts report (report_is report on)
    headline_then (Err error) on = tt

    pub code_then : (result : Result Report GateError) → IfOk result (IsPolicyReport old new said texts)
        → IfOk result (λ report. exit_code report.stats ≡ code_of report.verdict)
    code_then (Ok report) on = exit_of old.files texts report (report_is report on)
    code_then (Err error) on = tt

    pub dead_then : EntriesCanGo → PackagesStay → (result : Result Report GateError)
        → IfOk result (IsPolicyReport old new said texts) → IfOk result (CanDoWithoutDead old.files texts)
    dead_then law stay (Ok report) on =
        dead_of_unhit old.files texts report (without_unhit law stay old.files texts report (report_is report on))
    dead_then law stay (Err error) on = tt
