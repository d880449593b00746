use Rattle.std.proofs.Common.{◌≡◌, ◌++◌}
use Rattle.deny_toml_tree.specs.declared.lines.PathEnd.TheVariants as path_end
use Rattle.deny_toml_tree.specs.Tree.{end_steps}
use Rattle.deny_toml_tree.proofs.lines.add_member_steps.Given as goal

abbrev pub invariant-members : goal.invariant-members
invariant-members l = l.found ≡ l.initial.found ++ end_steps (path_end.Table l.yielded)
