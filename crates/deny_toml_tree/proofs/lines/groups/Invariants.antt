use Rattle.deny_toml_tree.specs.private.Gathered.{IsGrouped}
use Rattle.deny_toml_tree.proofs.lines.groups.Given as goal

abbrev pub invariant-steps : goal.invariant-steps
invariant-steps l = IsGrouped l.yielded l.found.entries
