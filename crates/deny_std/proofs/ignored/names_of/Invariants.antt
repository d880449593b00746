use Rattle.std.proofs.Common.{◌≡◌, map, take}
use Rattle.deny_std.specs.private.Ignored.{entry_name}
use Rattle.deny_std.proofs.ignored.names_of.Given as goal

abbrev pub invariant-loop-entry : goal.invariant-loop-entry
invariant-loop-entry l = l.names ≡ map entry_name (take l.entry-index l.entries)
