use Rattle.std.proofs.Common.{◌≡◌, ◌++◌, drop, map}
use Rattle.deny_toml.specs.TableHelper.{unknown}
use Rattle.deny_toml.proofs.table_helper.add_unknown.Given as goal

abbrev pub invariant-loop-entry : goal.invariant-loop-entry
invariant-loop-entry l =
    l.faults ++ map unknown (drop l.entry-index l.left) ≡ l.initial.faults ++ map unknown l.left
