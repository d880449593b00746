use Rattle.std.proofs.Common.{◌≡◌, ◌++◌, All, drop, take}
use Rattle.std.specs.List.{flat_map}
use Rattle.deny_cli.specs.Lines.{finding_line}
use Rattle.deny_cli.specs.private.Counted.{IsCounted}
use Rattle.deny_cli.proofs.lines.push_findings.Given as goal

abbrev pub invariant-loop-finding : goal.invariant-loop-finding
invariant-loop-finding l =
    (l.text ++ flat_map (finding_line l.files l.grapher.krates.now) (drop l.finding-index l.findings)
    ≡ l.fn.text ++ flat_map (finding_line l.files l.grapher.krates.now) l.findings)
    × All (IsCounted l.files) (take l.finding-index l.findings)
