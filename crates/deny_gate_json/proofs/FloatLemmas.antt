-- The values of findings and of trees contain no float.
use Rattle.std.proofs.Common.{◌≡◌, ℕ, false, List, [], ◌∷◌, Option, Some, None, codes, refl}
use Rattle.std.specs.Prelude.{map}
use Rattle.std.proofs.lemmas.Bool.{or_from}
use Rattle.serde_json.specs.Data.{Data, Members, array, member, no_members, string}
use Rattle.serde_json.specs.View.{items_of}
use Rattle.serde_json.specs.Written.{has_float, items_have_float, members_have_float}
use Rattle.deny_base.specs.declared.code.DiagnosticCode.{DiagnosticCode}
use Rattle.deny_base.specs.declared.files.File.{File}
use Rattle.deny_base.specs.declared.finding.Diagnostic.{Diagnostic}
use Rattle.deny_base.specs.declared.label.Label.{Label}
use Rattle.deny_gate_json.specs.Diagnostics.{code_member, diagnostic_value, fields_after_code, fields_after_labels}
use Rattle.deny_gate_json.specs.Diagnostics.{fields_of, labels_member, notes_member, notes_of, severity_word, reports}
use Rattle.deny_gate_json.specs.Labels.{label_value}

pub in_items : {X : Type 0} (f : X → Data) → ((x : X) → has_float (f x) ≡ false) → (xs : List X)
    → items_have_float (items_of (map f xs)) ≡ false
in_items f each [] = refl
in_items f each (x ∷ xs) = or_from (has_float (f x)) (items_have_float (items_of (map f xs))) (each x)
    (in_items f each xs)

pub in_front : (key : List ℕ) (value : Data) (others : Members) → has_float value ≡ false
    → members_have_float others ≡ false → members_have_float (member key value others) ≡ false
in_front key value others here later = or_from (has_float value) (members_have_float others) here later

pub in_reports : (kind : List ℕ) (fields : Members) → members_have_float fields ≡ false
    → has_float (reports kind fields) ≡ false
in_reports kind fields is = or_from (members_have_float fields) _ is refl

in_label : (files : List File) (label : Label) → has_float (label_value files label) ≡ false
unfolding label_value
in_label files label = refl

in_code : (code : Option DiagnosticCode) (others : Members) → members_have_float others ≡ false
    → members_have_float (code_member code others) ≡ false
in_code None others is = is
in_code (Some code) others is = is

in_labels : (files : List File) (labels : List Label) (others : Members) → members_have_float others ≡ false
    → members_have_float (labels_member files labels others) ≡ false
in_labels files [] others is = is
in_labels files (label ∷ labels) others is =
    in_front (codes "labels") (array (items_of (map (label_value files) (label ∷ labels)))) others
    (in_items (label_value files) (in_label files) (label ∷ labels)) is

in_notes : (notes : List (List ℕ)) (others : Members) → members_have_float others ≡ false
    → members_have_float (notes_member notes others) ≡ false
in_notes [] others is = is
in_notes (note ∷ notes) others is = in_front (codes "notes") (array (items_of (map string (note ∷ notes)))) others
    (in_items string (λ s. refl) (note ∷ notes)) is

pub in_fields_after_code : (files : List File) (d : Diagnostic) → members_have_float (fields_after_code files d) ≡ false
in_fields_after_code files d =
    in_labels files d.labels (fields_after_labels d)
    (in_front (codes "message") (string d.message) (notes_of d) refl
    (in_notes d.notes (member (codes "severity") (string (severity_word d.severity)) no_members) refl))

pub in_diagnostic : (files : List File) (d : Diagnostic) → has_float (diagnostic_value files d) ≡ false
unfolding diagnostic_value
in_diagnostic files d = in_reports (codes "diagnostic") (fields_of files d)
    (in_code d.code (fields_after_code files d) (in_fields_after_code files d))
