-- Diagnostics as JSON: those of findings, and those of entries that clash.
use Rattle.std.specs.Prelude.{ℕ, List, [], ◌∷◌, Option, Some, None, codes, map}
use Rattle.serde_json.specs.Data.{Data, array, string, object, Members, member, no_members}
use Rattle.serde_json.specs.View.{items_of}
use Rattle.deny_base.specs.Code.{diagnostic_code_name}
use Rattle.deny_base.specs.declared.code.DiagnosticCode.{DiagnosticCode}
use Rattle.deny_base.specs.declared.files.File.{File}
use Rattle.deny_base.specs.declared.finding.Diagnostic.{Diagnostic}
use Rattle.deny_base.specs.declared.label.Label.{Label}
use Rattle.deny_base.specs.declared.level.Severity.{Severity}
use Rattle.deny_base.specs.declared.level.Severity.TheVariants as severity
use Rattle.deny_gate_json.specs.Labels.{label_value}

-- the value of a line: its fields, and the name of its type
abbrev pub reports : List ℕ → Members → Data
reports kind fields = object (member (codes "fields") (object fields) (member (codes "type") (string kind) no_members))

abbrev pub severity_word : Severity → List ℕ
severity_word severity.Bug = codes "bug"
severity_word severity.Error = codes "error"
severity_word severity.Warning = codes "warning"
severity_word severity.Note = codes "note"
severity_word severity.Help = codes "help"

-- members that are left out where they are empty
abbrev pub code_member : Option DiagnosticCode → Members → Members
code_member None others = others
code_member (Some code) others = member (codes "code") (string (diagnostic_code_name code)) others

abbrev pub labels_member : List File → List Label → Members → Members
labels_member files [] others = others
labels_member files (label ∷ labels) others = member (codes "labels")
    (array (items_of (map (label_value files) (label ∷ labels)))) others

abbrev pub notes_member : List (List ℕ) → Members → Members
notes_member [] others = others
notes_member (note ∷ notes) others = member (codes "notes") (array (items_of (map string (note ∷ notes)))) others

-- the fields of a diagnostic, from the last to the first
abbrev pub notes_of : Diagnostic → Members
notes_of d = notes_member d.notes (member (codes "severity") (string (severity_word d.severity)) no_members)

abbrev pub fields_after_labels : Diagnostic → Members
fields_after_labels d = member (codes "message") (string d.message) (notes_of d)

abbrev pub fields_after_code : List File → Diagnostic → Members
fields_after_code files d = labels_member files d.labels (fields_after_labels d)

abbrev pub fields_of : List File → Diagnostic → Members
fields_of files d = code_member d.code (fields_after_code files d)

unfoldable pub diagnostic_value : List File → Diagnostic → Data
diagnostic_value files d = reports (codes "diagnostic") (fields_of files d)
