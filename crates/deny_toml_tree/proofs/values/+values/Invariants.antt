use Rattle.std.proofs.Common.{◌≡◌, map}
use Rattle.deny_toml_tree.specs.Tree.{written_value, written_member}
use Rattle.deny_toml_tree.proofs.values.+values.Given as goal

abbrev pub invariant-values_of-written : goal.invariant-values_of-written
invariant-values_of-written l = l.values ≡ map written_value l.yielded

abbrev pub invariant-members_of-assignments : goal.invariant-members_of-assignments
invariant-members_of-assignments l = l.members ≡ map written_member l.yielded
