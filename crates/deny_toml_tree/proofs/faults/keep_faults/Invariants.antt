use Rattle.std.proofs.Common.{◌≡◌, ◌++◌}
use Rattle.deny_toml_tree.proofs.faults.keep_faults.Given as goal

abbrev pub invariant-more : goal.invariant-more
invariant-more l = l.kept ≡ l.initial.kept ++ l.yielded
