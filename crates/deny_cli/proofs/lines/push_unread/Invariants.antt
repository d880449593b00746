use Rattle.std.proofs.Common.{◌≡◌, ◌++◌, drop}
use Rattle.std.specs.List.{flat_map}
use Rattle.deny_cli.specs.Lines.{unread_line}
use Rattle.deny_cli.proofs.lines.push_unread.Given as goal

abbrev pub invariant-loop-entry : goal.invariant-loop-entry
invariant-loop-entry l =
    l.text ++ flat_map (unread_line l.krates) (drop l.entry-index l.unread)
    ≡ l.fn.text ++ flat_map (unread_line l.krates) l.unread
