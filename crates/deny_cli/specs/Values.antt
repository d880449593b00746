-- The values of a report's lines, one for each line, which are read back from them.
use Rattle.std.specs.Prelude.{ℕ, ◌<◌, ◌^◌, ◌++◌, List, [], ◌∷◌, Option, None, Some, All, map}
use Rattle.serde_json.specs.Data.{Data}
use Rattle.deny_base.specs.declared.entry.EntryId.{EntryId}
use Rattle.deny_base.specs.declared.files.File.{File}
use Rattle.deny_spec.specs.Graph.{Graph}
use Rattle.deny_krates_trees.specs.Shown.{graphs_shown}
use Rattle.deny_gate_json.specs.Findings.{finding_value}
use Rattle.deny_gate_json.specs.Reading.{AreJsonLines, AreShort}
use Rattle.deny_gate.specs.declared.report.Finding.{Finding}
use Rattle.deny_gate.specs.declared.report.Report.{Report}
use Rattle.deny_cli.specs.Dead.{dead_value}
use Rattle.deny_cli.specs.Lines.{verdict_value}
use Rattle.deny_cli.specs.Outcome.{bits_of}
use Rattle.deny_cli.specs.Summary.{lines_for, report_summary}
use Rattle.deny_cli.specs.Unread.{malformed_value, unread_value}
use Rattle.deny_cli.specs.Arguments.{Command, asked_by, check, generate}

abbrev pub finding_data : List File → Graph → Finding → Data
finding_data files g finding = finding_value files finding.diag.diag (graphs_shown g finding.kid finding.diag)

-- the values of the lines, in their order
abbrev pub report_values : Report → List Data
report_values report = map (finding_data report.files report.krates) report.findings
    ++ (map dead_value report.dead
    ++ (map (unread_value report.krates) report.unread
    ++ (map malformed_value report.malformed ++ verdict_value report.verdict ∷ [])))

-- the values that a command writes of a report: those of the report's lines, or its summary where crates were
-- generated
abbrev pub answer_values : Command → Report → List Data
answer_values (check asked) report = report_values report
answer_values (generate crates) report = report_summary crates report ∷ []

-- nothing is written where no command is asked for
abbrev pub values_for : Option Command → Report → List Data
values_for None report = []
values_for (Some command) report = answer_values command report

-- what arguments have written of a report is lines of JSON, one value each
abbrev pub ReportsJson : List (List ℕ) → Report → Type 0
ReportsJson arguments report = AreJsonLines (lines_for (asked_by arguments) report)
    (values_for (asked_by arguments) report)

-- the span of an entry has numbers of 64 bits
abbrev pub HasNumbers : EntryId → Type 0
HasNumbers e = (e.range.start < 2 ^ 64) × (e.range.end < 2 ^ 64)

-- the numbers in a report fit 64 bits, as those of every report that is made do
pub record AreNumbers (report : Report) : Type 0 where
  pub files : AreShort report.files
  pub dead : All HasNumbers report.dead
  pub bits : bits_of report.verdict < 2 ^ 64
