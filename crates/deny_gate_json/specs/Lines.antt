-- Lines: each is compact JSON with its keys in byte order, and a newline.
use Rattle.std.specs.Prelude.{ℕ, List, [], ◌∷◌, ◌++◌, Option}
use Rattle.serde_json.specs.Data.{Data}
use Rattle.serde_json.specs.Written.{compact_text}
use Rattle.deny_base.specs.declared.files.File.{File}
use Rattle.deny_base.specs.declared.finding.Diag.{Diag}
use Rattle.deny_base.specs.declared.finding.Diagnostic.{Diagnostic}
use Rattle.deny_base.specs.declared.span.Kid.{Kid}
use Rattle.deny_spec.specs.Graph.{Graph}
use Rattle.deny_krates_trees.specs.Shown.{graphs_shown}
use Rattle.deny_krates_trees.specs.declared.node.GraphNode.{GraphNode}
use Rattle.deny_gate_json.specs.Findings.{finding_value}

abbrev pub line : Data → List ℕ
line value = compact_text value ++ 10 ∷ []

-- the line of a diagnostic that is reported with these trees, and whose labels are in these files
unfoldable pub line_with_graphs : List File → Diagnostic → List GraphNode → List ℕ
line_with_graphs files d graphs = line (finding_value files d graphs)

-- the line of a finding about this crate, or about no single one, with the trees of the graph that it shows
unfoldable pub diag_line : List File → Graph → Option Kid → Diag → List ℕ
diag_line files g kid diag = line_with_graphs files diag.diag (graphs_shown g kid diag)
