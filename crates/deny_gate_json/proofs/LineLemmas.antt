-- The line of a finding, from its parts.
use Rattle.std.proofs.Common.{◌≡◌, ℕ, true, false, List, [], ◌∷◌, ◌++◌, Option, Some, None, codes, ap, refl, ◌∙◌}
use Rattle.std.proofs.Common.{sym, append_assoc}
use Rattle.serde_json.proofs.OnLiterals.{serde_json_on_literals}
use Rattle.serde_json.specs.Data.{Members, string}
use Rattle.serde_json.specs.Written.{compact_text, members_text}
use Rattle.deny_base.specs.Code.{diagnostic_code_name}
use Rattle.deny_base.specs.declared.code.DiagnosticCode.{DiagnosticCode}
use Rattle.deny_base.specs.declared.files.File.{File}
use Rattle.deny_base.specs.declared.finding.Diagnostic.{Diagnostic}
use Rattle.deny_krates_trees.specs.declared.node.GraphNode.{GraphNode}
use Rattle.deny_gate_json.specs.Diagnostics.{code_member, fields_after_code}
use Rattle.deny_gate_json.specs.Findings.{finding_fields, finding_value, graphs_member}
use Rattle.deny_gate_json.specs.Lines.{line_with_graphs}
use Rattle.deny_gate_json.specs.private.Writing.{code_text, graphs_text}

with_code : (code : Option DiagnosticCode) (graphs : List GraphNode) (others : Members)
    → members_text false (code_member code (graphs_member graphs others))
    ≡ code_text code ++ (codes "\"graphs\":" ++ (graphs_text graphs ++ members_text true others))
unfolding serde_json_on_literals
with_code None graphs others = refl
with_code (Some code) graphs others =
    ap (λ (text : List ℕ). codes "\"code\":" ++ text)
    (sym (append_assoc (compact_text (string (diagnostic_code_name code))) (codes ",")
    (codes "\"graphs\":" ++ (graphs_text graphs ++ members_text true others))))

finding_text : (files : List File) (d : Diagnostic) (graphs : List GraphNode)
    → line_with_graphs files d graphs
    ≡ codes "{\"fields\":{" ++ (members_text false (finding_fields files d graphs)
    ++ codes ",\"type\":\"diagnostic\"}\n")
unfolding serde_json_on_literals line_with_graphs finding_value
finding_text files d graphs =
    ap (λ (text : List ℕ). codes "{\"fields\":{" ++ text)
    (append_assoc (members_text false (finding_fields files d graphs)) (codes ",\"type\":\"diagnostic\"}") (10 ∷ []))

grouped : (start code key graphs others end : List ℕ)
    → ((((start ++ code) ++ key) ++ graphs) ++ others) ++ end
    ≡ start ++ ((code ++ (key ++ (graphs ++ others))) ++ end)
grouped start code key graphs others end = simp append_assoc

after : (old start new part : List ℕ) → old ≡ start → new ≡ old ++ part → new ≡ start ++ part
after old start new part same written = written ∙ ap (λ (text : List ℕ). text ++ part) same

-- the line, part after part
pub line_written : (files : List File) (d : Diagnostic) (graphs : List GraphNode) (a b c e f g : List ℕ)
    → a ≡ codes "{\"fields\":{" → b ≡ a ++ code_text d.code → c ≡ b ++ codes "\"graphs\":"
    → e ≡ c ++ graphs_text graphs → f ≡ e ++ members_text true (fields_after_code files d)
    → g ≡ f ++ codes ",\"type\":\"diagnostic\"}\n" → g ≡ line_with_graphs files d graphs
line_written files d graphs a b c e f g at_a at_b at_c at_e at_f at_g =
    let start = codes "{\"fields\":{" in
    let end = codes ",\"type\":\"diagnostic\"}\n" in
    let code = code_text d.code in
    let key = codes "\"graphs\":" in
    let others = members_text true (fields_after_code files d) in
    let to_b = after a start b code at_a at_b in
    let to_c = after b (start ++ code) c key to_b at_c in
    let to_e = after c ((start ++ code) ++ key) e (graphs_text graphs) to_c at_e in
    let to_f = after e (((start ++ code) ++ key) ++ graphs_text graphs) f others to_e at_f in
    after f ((((start ++ code) ++ key) ++ graphs_text graphs) ++ others) g end to_f at_g
    ∙ (grouped start code key (graphs_text graphs) others end
    ∙ (ap (λ (text : List ℕ). start ++ (text ++ end)) (sym (with_code d.code graphs (fields_after_code files d)))
    ∙ sym (finding_text files d graphs)))
