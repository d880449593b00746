-- The lines of a report: each is compact JSON with its keys in byte order, and a newline.
use Rattle.std.specs.Prelude.{ℕ, List, ◌++◌, codes}
use Rattle.std.specs.List.{flat_map}
use Rattle.serde_json.specs.Data.{Data, string, number, unsigned, member, no_members}
use Rattle.deny_base.specs.declared.entry.EntryId.{EntryId}
use Rattle.deny_base.specs.declared.files.File.{File}
use Rattle.deny_spec.specs.Graph.{Graph}
use Rattle.deny_gate_json.specs.Diagnostics.{reports}
use Rattle.deny_gate_json.specs.Lines.{diag_line, line}
use Rattle.deny_base.specs.declared.unread.Unread.{Unread}
use Rattle.deny_gate.specs.declared.report.Finding.{Finding}
use Rattle.deny_gate.specs.declared.report.Report.{Report}
use Rattle.deny_gate.specs.declared.report.Verdict.{Verdict}
use Rattle.deny_gate.specs.declared.report.Verdict.TheVariants.{Pass, Fail}
use Rattle.deny_cli.specs.Dead.{dead_value}
use Rattle.deny_cli.specs.Outcome.{bits_of}
use Rattle.deny_cli.specs.Unread.{malformed_value, unread_value}

abbrev pub verdict_word : Verdict → List ℕ
verdict_word Pass = codes "pass"
verdict_word (Fail bits) = codes "fail"

abbrev pub verdict_value : Verdict → Data
verdict_value verdict = reports (codes "verdict")
    (member (codes "bits") (number (unsigned (bits_of verdict)))
    (member (codes "verdict") (string (verdict_word verdict)) no_members))

-- the line of a finding, whose labels lie in these files, with the trees that it shows of the graph
unfoldable pub finding_line : List File → Graph → Finding → List ℕ
finding_line files g finding = diag_line files g finding.kid finding.diag

unfoldable pub dead_line : EntryId → List ℕ
dead_line e = line (dead_value e)

-- the line of what could not be read, whose crate is in the graph
unfoldable pub unread_line : Graph → Unread → List ℕ
unread_line g u = line (unread_value g u)

-- the line of a malformed manifest, by its path
unfoldable pub malformed_line : List ℕ → List ℕ
malformed_line path = line (malformed_value path)

unfoldable pub verdict_line : Verdict → List ℕ
verdict_line verdict = line (verdict_value verdict)

-- the lines of a report: its findings in order with their trees, then its dead entries, what could not be read, which
-- manifests are malformed, and its verdict
unfoldable pub lines : Report → List ℕ
lines report = flat_map (finding_line report.files report.krates) report.findings
    ++ (flat_map dead_line report.dead
    ++ (flat_map (unread_line report.krates) report.unread
    ++ (flat_map malformed_line report.malformed ++ verdict_line report.verdict)))
