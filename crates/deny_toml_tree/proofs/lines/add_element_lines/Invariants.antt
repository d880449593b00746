use Rattle.std.proofs.Common.{◌≡◌, List, ◌++◌}
use Rattle.deny_toml_tree.specs.declared.lines.Line.{Line}
use Rattle.deny_toml_tree.specs.private.Gathered.{elements_with}
use Rattle.deny_toml_tree.proofs.lines.add_element_lines.Given as goal

abbrev pub invariant-lines : goal.invariant-lines
invariant-lines l =
    (rest : List Line) → elements_with l.initial.found l.initial.table (l.yielded ++ rest) ≡ elements_with l.found
    l.table rest
