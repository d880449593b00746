-- Small cases of the lines of findings worked out, so that the definitions can be read against texts.
use Rattle.std.proofs.Common.{◌≡◌, ◌∙◌, ◌++◌, ℕ, List, [], ◌∷◌, codes, Option, Some, None, ap, refl}
use Rattle.std.specs.Fmt.{digits}
use Rattle.std.specs.Str.{chars}
use Rattle.serde_json.proofs.OnLiterals.{serde_json_on_literals}
use Rattle.serde_json.specs.Data.{Data, array, item, member, no_items, no_members, number, object, string, unsigned}
use Rattle.deny_base.specs.Code.{code_name}
use Rattle.deny_base.specs.Files.{location_at, location_in}
use Rattle.deny_base.specs.declared.code.Code.TheVariants.{Allowed, Banned}
use Rattle.deny_base.specs.declared.code.DiagnosticCode.TheVariants.{Bans}
use Rattle.deny_base.specs.declared.files.File.{File}
use Rattle.deny_base.specs.declared.files.Location.{Location}
use Rattle.deny_base.specs.declared.finding.Diagnostic.{Diagnostic}
use Rattle.deny_base.specs.declared.label.Label.{Label}
use Rattle.deny_base.specs.declared.label.LabelStyle.TheVariants.{Primary}
use Rattle.deny_base.specs.declared.level.Severity.TheVariants as severity
use Rattle.deny_gate_json.specs.Diagnostics.{diagnostic_value, reports}
use Rattle.deny_gate_json.specs.Findings.{finding_value}
use Rattle.deny_gate_json.specs.Graphs.{graph_value}
use Rattle.deny_gate_json.specs.Labels.{column_of, label_value, shown_line, marked, span_in, trimmed}
use Rattle.deny_gate_json.specs.Lines.{line, line_with_graphs}
use Rattle.deny_gate_json.proofs.GraphRows.{x, x_value}

-- `[bans]`, a newline, `deny = ["x"]` and a newline
abbrev pub a_policy : List ℕ
a_policy = codes "[bans]\ndeny = [\"x\"]\n"

abbrev pub the_files : List File
the_files = record { path = codes "deny.toml"; source = a_policy } ∷ []

abbrev pub a_label : Label
a_label = record { style = Primary; file_id = 0; span = record { start = 16; end = 17 }; message = codes "banned here" }

abbrev pub a_diagnostic : Diagnostic
a_diagnostic = record {
  severity = severity.Error;
  code = Some (Bans Banned);
  message = codes "crate 'x = 1.0.0' is explicitly banned";
  labels = a_label ∷ [];
  notes = [];
}

lies_in : location_in the_files 0 16 ≡ Some (record { line = 1; column = 9 })
unfolding location_at chars
lies_in = refl

marks : marked the_files a_label ≡ codes "x"
unfolding marked span_in trimmed
marks = refl

abbrev label_at : Option Location → List ℕ → Data
label_at at text = object
    (member (codes "column") (number (unsigned (column_of at)))
    (member (codes "line") (number (unsigned (shown_line at)))
    (member (codes "message") (string (codes "banned here"))
    (member (codes "span") (string text) no_members))))

is_labelled : label_value the_files a_label ≡ label_at (Some (record { line = 1; column = 9 })) (codes "x")
unfolding label_value
is_labelled = ap (λ (at : Option Location). label_at at (marked the_files a_label)) lies_in
    ∙ ap (label_at (Some (record { line = 1; column = 9 }))) marks

abbrev ban_value : Data → Data → Data
ban_value label graph = reports (codes "diagnostic")
    (member (codes "code") (string (codes "banned"))
    (member (codes "graphs") (array (item graph no_items))
    (member (codes "labels") (array (item label no_items))
    (member (codes "message") (string (codes "crate 'x = 1.0.0' is explicitly banned"))
    (member (codes "severity") (string (codes "error")) no_members)))))

-- a ban, with the tree of its crate
pub is_banned : line_with_graphs the_files a_diagnostic (x ∷ [])
    ≡ codes "{\"fields\":{\"code\":\"banned\",\"graphs\":["
    ++ (codes "{\"Krate\":{\"name\":\"x\",\"version\":\"1.0.0\"},\"parents\":["
    ++ (codes "{\"Krate\":{\"name\":\"app\",\"version\":\"0.1.0\"}}]}],"
    ++ (codes "\"labels\":[{\"column\":10,\"line\":2,\"message\":\"banned here\",\"span\":\"x\"}],"
    ++ (codes "\"message\":\"crate 'x = 1.0.0' is explicitly banned\","
    ++ codes "\"severity\":\"error\"},\"type\":\"diagnostic\"}\n"))))
unfolding serde_json_on_literals digits line_with_graphs finding_value code_name
is_banned =
    ap (λ (label : Data). line (ban_value label (graph_value x))) is_labelled
    ∙ ap (λ (graph : Data). line (ban_value (label_at (Some (record { line = 1; column = 9 })) (codes "x")) graph))
    x_value

abbrev a_note : Diagnostic
a_note = record {
  severity = severity.Note;
  code = Some (Bans Allowed);
  message = codes "m";
  labels = [];
  notes = codes "a" ∷ codes "" ∷ [];
}

-- the member of the trees is there also where there are none; those of labels and notes are not
pub has_no_tree : line_with_graphs [] a_note []
    ≡ codes "{\"fields\":{\"code\":\"allowed\",\"graphs\":[],\"message\":\"m\",\"notes\":[\"a\",\"\"],"
    ++ codes "\"severity\":\"note\"},\"type\":\"diagnostic\"}\n"
unfolding serde_json_on_literals line_with_graphs finding_value code_name
has_no_tree = refl

-- a diagnostic alone has no member of trees
pub has_no_graphs : line (diagnostic_value [] (record a_note { code = None; notes = [] }))
    ≡ codes "{\"fields\":{\"message\":\"m\",\"severity\":\"note\"},\"type\":\"diagnostic\"}\n"
unfolding serde_json_on_literals diagnostic_value
has_no_graphs = refl

-- the quotes at both ends are removed, those between stay
pub quotes_go : trimmed (codes "\"\"a \"b\" c\"") ≡ codes "a \"b\" c"
unfolding trimmed
quotes_go = refl
