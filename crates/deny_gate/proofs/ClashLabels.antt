-- The labels of clashes mark spans of the policy's text, which is the only file.
use Rattle.std.proofs.Common.{◌≡◌, ℕ, Bool, true, false, List, [], ◌∷◌, Option, Result, Ok, Err, refl, sym}
use Rattle.std.proofs.Common.{subst}
use Rattle.std.specs.Prelude.{All, IfErr, codes, if◌then◌else◌, map}
use Rattle.std.specs.List.{AllByRecursion}
use Rattle.std.specs.Result.{IsErrAnd}
use Rattle.std.proofs.lemmas.List.Elements.{All-nil, All-cons, recursion_from_All}
use Rattle.deny_base.specs.declared.finding.Diagnostic.{Diagnostic}
use Rattle.deny_base.specs.declared.label.Label.{Label}
use Rattle.deny_base.specs.declared.label.LabelStyle.TheVariants.{Primary, Secondary}
use Rattle.deny_cfg.specs.Clashes.{clash_labels, label_of, one_label, clash_diag}
use Rattle.deny_cfg.specs.LabelSpans.{reported_spans}
use Rattle.deny_cfg.specs.PolicyText.{ReportsClashes}
use Rattle.deny_cfg.specs.declared.clash.Clash.{Clash}
use Rattle.deny_cfg_entries.specs.declared.day.Day.{Day}
use Rattle.deny_cfg.specs.declared.clash.ClashKind.{ClashKind}
use Rattle.deny_cfg.specs.declared.clash.ClashKind.TheVariants as clash
use Rattle.deny_cfg.proofs.Among.{lie_prefix, lie_rest}
use Rattle.deny_cfg.proofs.LabelLaws.{Lie}
use Rattle.deny_cfg.specs.Marks.{IsClashSpan}
use Rattle.deny_spec.specs.Policy.{Policy}
use Rattle.deny_gate.specs.Gating.{InputTexts}
use Rattle.deny_gate.specs.private.Gating.{IsCauseBehind, IsPolicyCause}
use Rattle.deny_gate.specs.Labels.{AreLabelledClashes, IsClashLabel, IsLabelledCause}
use Rattle.deny_gate.specs.Report.{policy_id}
use Rattle.deny_gate.specs.declared.report.GateError.{GateError}
use Rattle.deny_gate.specs.declared.report.GateError.TheVariants.{Config, Invalid, Metadata, Replacement}
use Rattle.deny_gate.specs.declared.report.GateError.TheVariants.{Memory}
use Rattle.deny_gate.specs.declared.report.Report.{Report}

abbrev AreIn : ℕ → List Label → Type 0
AreIn file labels = AllByRecursion (λ (label : Label). label.file_id ≡ file) labels

extension_in_file : (ascii : Bool) (file : ℕ) (c : Clash) → AreIn file (if ascii
    then label_of Primary file c.first (codes "extension")
    ∷ label_of Secondary file c.second (codes "invalid character") ∷ []
    else one_label file c (codes "invalid extension"))
extension_in_file true file c = (refl, (refl, tt))
extension_in_file false file c = (refl, tt)

in_file : (kind : ClashKind) (file : ℕ) (c : Clash) → AreIn file (clash_labels kind file c)
in_file clash.WrappersOfMultiple file c = (refl, (refl, tt))
in_file clash.DenyAndAllow file c = (refl, (refl, tt))
in_file clash.DenyAndSkip file c = (refl, (refl, tt))
in_file clash.AllowAndSkip file c = (refl, (refl, tt))
in_file clash.FeatureTwice file c = (refl, (refl, (refl, tt)))
in_file clash.Extension file c = extension_in_file c.ascii file c
in_file clash.Glob file c = (refl, tt)
in_file clash.Path file c = (refl, tt)

reported_in_file : (file : ℕ) (c : Clash) → AreIn file (clash_diag file c).labels
unfolding clash_diag
reported_in_file file c = in_file c.kind file c

module _ (text : List ℕ) where
  labels_placed : (labels : List Label) → AreIn policy_id labels
      → Lie (IsClashSpan text) (map (λ (label : Label). label.span) labels) → All (IsClashLabel text) labels
  labels_placed [] in_policy lie = All-nil (IsClashLabel text)
  labels_placed (l ∷ ls) in_policy lie =
      All-cons (IsClashLabel text) l ls (record { in_policy = in_policy.0; span = lie.0 })
      (labels_placed ls in_policy.1 lie.1)

  reported_placed : (cs : List Clash) → Lie (IsClashSpan text) (reported_spans (map (clash_diag policy_id) cs))
      → AreLabelledClashes text (map (clash_diag policy_id) cs)
  reported_placed [] lie = All-nil (λ (d : Diagnostic). All (IsClashLabel text) d.labels)
  reported_placed (c ∷ cs) lie =
      let labels = (clash_diag policy_id c).labels in
      let first = map (λ (label : Label). label.span) labels in
      let others = reported_spans (map (clash_diag policy_id) cs) in
      All-cons (λ (d : Diagnostic). All (IsClashLabel text) d.labels) (clash_diag policy_id c)
      (map (clash_diag policy_id) cs)
      (labels_placed labels (reported_in_file policy_id c) (lie_prefix (IsClashSpan text) first others lie))
      (reported_placed cs (lie_rest (IsClashSpan text) first others lie))

  clashes_labelled : (today : Option Day) (clashes : List Diagnostic) → ReportsClashes today text policy_id clashes
      → AreLabelledClashes text clashes
  clashes_labelled today clashes reports =
      let lie = recursion_from_All (IsClashSpan text) (reported_spans clashes) reports.located in
      subst (λ (ds : List Diagnostic). AreLabelledClashes text ds) (sym reports.are.is)
      (reported_placed reports.are.clashes (subst (λ (ds : List Diagnostic). Lie (IsClashSpan text) (reported_spans ds))
      reports.are.is lie))

  cause_labelled : (today : Option Day) (error : GateError) → IsPolicyCause today text error
      → IsLabelledCause text error
  cause_labelled today (Invalid clashes) cause = clashes_labelled today clashes cause
  cause_labelled today (Config faults) cause = tt
  cause_labelled today (Metadata f) cause = tt
  cause_labelled today (Replacement at) cause = tt
  cause_labelled today Memory cause = tt

-- the error of a policy in the inputs has its labels in that text
pub policy_cause_labelled : (today : Option Day) (policy text : List ℕ) (result : Result Report GateError)
    (error : GateError) → text ≡ policy → IsErrAnd result (λ e. e ≡ error) → IsPolicyCause today text error
    → IfErr result (IsLabelledCause policy)
policy_cause_labelled today policy text (Ok report) error same is cause = absurd is
policy_cause_labelled today policy text (Err handed) error same is cause =
    subst (λ (e : GateError). IsLabelledCause policy e) (sym is)
    (subst (λ (t : List ℕ). IsLabelledCause t error) same (cause_labelled text today error cause))

-- an error that comes behind the policy is no clash
no_clash : (policy : List ℕ) (p : Policy) (texts : InputTexts) (error : GateError) → IsCauseBehind p texts error
    → IsLabelledCause policy error
no_clash policy p texts (Invalid clashes) cause = absurd cause
no_clash policy p texts (Config faults) cause = tt
no_clash policy p texts (Metadata f) cause = tt
no_clash policy p texts (Replacement at) cause = tt
no_clash policy p texts Memory cause = tt

pub cause_behind_labelled : (policy : List ℕ) (p : Policy) (texts : InputTexts) (result : Result Report GateError)
    → IfErr result (IsCauseBehind p texts) → IfErr result (IsLabelledCause policy)
cause_behind_labelled policy p texts (Ok report) cause = tt
cause_behind_labelled policy p texts (Err error) cause = no_clash policy p texts error cause
