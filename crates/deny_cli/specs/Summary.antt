-- The line that sums up a report on generated crates, and what a command writes of a report.
use Rattle.std.specs.Prelude.{ℕ, List, [], codes, filter, length, Option, None, Some}
use Rattle.serde_json.specs.Data.{Data, string, number, unsigned, member, no_members}
use Rattle.deny_gate_json.specs.Diagnostics.{reports}
use Rattle.deny_gate_json.specs.Lines.{line}
use Rattle.deny_gate.specs.Report.{has_error}
use Rattle.deny_gate.specs.declared.report.Finding.{Finding}
use Rattle.deny_gate.specs.declared.report.Report.{Report}
use Rattle.deny_gate.specs.declared.report.Verdict.{Verdict}
use Rattle.deny_cli.specs.Lines.{lines, verdict_word}
use Rattle.deny_cli.specs.Arguments.{Command, check, generate}

-- the summary of so many generated crates: how many crates the graph has, how many entries are dead, and how many
-- findings are errors
abbrev pub summary_value : ℕ → ℕ → ℕ → ℕ → Verdict → Data
summary_value made crates dead errors verdict = reports (codes "summary")
    (member (codes "crates") (number (unsigned crates))
    (member (codes "dead") (number (unsigned dead))
    (member (codes "errors") (number (unsigned errors))
    (member (codes "generated") (number (unsigned made))
    (member (codes "verdict") (string (verdict_word verdict)) no_members)))))

abbrev pub error_count : List Finding → ℕ
error_count findings = length (filter has_error findings)

abbrev pub report_summary : ℕ → Report → Data
report_summary made report = summary_value made (length report.krates.crates) (length report.dead)
    (error_count report.findings) report.verdict

unfoldable pub summary_line : ℕ → Report → List ℕ
summary_line made report = line (report_summary made report)

-- the lines that a command writes of a report: all of them, or the summary where crates were generated
abbrev pub answer_lines : Command → Report → List ℕ
answer_lines (check asked) report = lines report
answer_lines (generate crates) report = summary_line crates report

-- nothing is written where no command is asked for
abbrev pub lines_for : Option Command → Report → List ℕ
lines_for None report = []
lines_for (Some command) report = answer_lines command report
