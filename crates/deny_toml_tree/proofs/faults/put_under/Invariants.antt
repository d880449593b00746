use Rattle.std.proofs.Common.{◌≡◌}
use Rattle.deny_toml_tree.specs.Faults.{under}
use Rattle.deny_toml_tree.proofs.faults.put_under.Given as goal

abbrev pub invariant-faults : goal.invariant-faults
invariant-faults l = l.all ≡ under l.name l.yielded
