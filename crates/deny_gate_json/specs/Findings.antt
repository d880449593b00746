-- Findings as JSON: a diagnostic, with the trees that it shows of the graph.
use Rattle.std.specs.Prelude.{List, Option, None, Some, codes, map}
use Rattle.serde_json.specs.Data.{Data, array, Members, member}
use Rattle.serde_json.specs.View.{items_of}
use Rattle.deny_base.specs.declared.files.File.{File}
use Rattle.deny_base.specs.declared.finding.Diag.{Diag}
use Rattle.deny_base.specs.declared.finding.Diagnostic.{Diagnostic}
use Rattle.deny_spec.specs.Graph.{Graph}
use Rattle.deny_krates_trees.specs.Shown.{graphs_shown}
use Rattle.deny_krates_trees.specs.declared.node.GraphNode.{GraphNode}
use Rattle.deny_gate_json.specs.Diagnostics.{code_member, diagnostic_value, fields_after_code, reports}
use Rattle.deny_gate_json.specs.Graphs.{graph_value}

-- the member of the trees of a finding, which is there also where there are none
abbrev pub graphs_member : List GraphNode → Members → Members
graphs_member graphs others = member (codes "graphs") (array (items_of (map graph_value graphs))) others

-- the fields of a diagnostic that is reported with these trees
abbrev pub finding_fields : List File → Diagnostic → List GraphNode → Members
finding_fields files d graphs = code_member d.code (graphs_member graphs (fields_after_code files d))

unfoldable pub finding_value : List File → Diagnostic → List GraphNode → Data
finding_value files d graphs = reports (codes "diagnostic") (finding_fields files d graphs)

-- a finding, with the trees of this graph that it shows, or without trees where there is no graph
abbrev pub reported_value : List File → Diag → Option Graph → Data
reported_value files diag None = diagnostic_value files diag.diag
reported_value files diag (Some g) = finding_value files diag.diag (graphs_shown g None diag)
