use Rattle.std.proofs.Common.{◌≡◌, ◌++◌, drop}
use Rattle.std.specs.List.{flat_map}
use Rattle.deny_cli.specs.Lines.{malformed_line}
use Rattle.deny_cli.proofs.lines.push_malformed.Given as goal

abbrev pub invariant-loop-path : goal.invariant-loop-path
invariant-loop-path l =
    l.text ++ flat_map malformed_line (drop l.path-index l.malformed) ≡ l.fn.text ++ flat_map malformed_line l.malformed
