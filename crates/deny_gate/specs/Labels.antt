-- Labels lie in their files.
use Rattle.std.specs.Prelude.{◌≡◌, ℕ, List, Some, All}
use Rattle.std.specs.Prelude.{slice_get}
use Rattle.deny_base.specs.declared.files.File.{File}
use Rattle.deny_base.specs.declared.finding.Diagnostic.{Diagnostic}
use Rattle.deny_base.specs.declared.label.Label.{Label}
use Rattle.deny_cfg.specs.Marks.{IsClashSpan, IsMarked}
use Rattle.deny_toml.specs.Spans.{IsSpan}
use Rattle.deny_gate.specs.Report.{policy_id}
use Rattle.deny_gate.specs.declared.report.Finding.{Finding}
use Rattle.deny_gate.specs.declared.report.GateError.{GateError}
use Rattle.deny_gate.specs.declared.report.GateError.TheVariants.{Config, Invalid, Metadata, Replacement}
use Rattle.deny_gate.specs.declared.report.GateError.TheVariants.{Memory}

-- a label marks a span of its file, on character boundaries; in the policy's file, that of a value of its text's tree or
-- of the name of a spec in one
pub record IsPlaced (files : List File) (label : Label) : Type 0 where
  pub file : File
  pub there : slice_get files label.file_id ≡ Some file
  pub span : IsSpan file.source label.span
  pub marked : label.file_id ≡ policy_id → IsMarked file.source label.span

abbrev pub ArePlaced : List File → List Label → Type 0
ArePlaced files labels = All (IsPlaced files) labels

-- the labels of findings lie in their files
abbrev pub AreLabelled : List File → List Finding → Type 0
AreLabelled files findings = All (λ f. ArePlaced files f.diag.diag.labels) findings

-- a label of a clash marks a span of the policy's text, which is the only file
pub record IsClashLabel (text : List ℕ) (label : Label) : Type 0 where
  pub in_policy : label.file_id ≡ policy_id
  pub span : IsClashSpan text label.span

abbrev pub AreLabelledClashes : List ℕ → List Diagnostic → Type 0
AreLabelledClashes text clashes = All (λ d. All (IsClashLabel text) d.labels) clashes

abbrev pub IsLabelledCause : List ℕ → GateError → Type 0
IsLabelledCause text (Config faults) = Unit {0}
IsLabelledCause text (Invalid clashes) = AreLabelledClashes text clashes
IsLabelledCause text (Metadata f) = Unit {0}
IsLabelledCause text (Replacement at) = Unit {0}
IsLabelledCause text Memory = Unit {0}
