use Rattle.std.proofs.Common.{◌≡◌, ◌++◌, All, drop, take}
use Rattle.std.specs.List.{flat_map}
use Rattle.deny_cli.specs.Lines.{dead_line}
use Rattle.deny_cli.specs.Values.{HasNumbers}
use Rattle.deny_cli.proofs.lines.push_dead.Given as goal

abbrev pub invariant-loop-entry : goal.invariant-loop-entry
invariant-loop-entry l =
    (l.text ++ flat_map dead_line (drop l.entry-index l.dead) ≡ l.fn.text ++ flat_map dead_line l.dead)
    × All HasNumbers (take l.entry-index l.dead)
