use Rattle.std.proofs.Common.{◌≡◌, List, ◌++◌}
use Rattle.deny_toml_grammar.specs.declared.expression.TomlExpression.{TomlExpression}
use Rattle.deny_toml_tree.specs.private.Gathered.{lines_with}
use Rattle.deny_toml_tree.proofs.tree.add_expressions.Given as goal

abbrev pub invariant-expressions : goal.invariant-expressions
invariant-expressions l =
    (rest : List TomlExpression) → lines_with l.fn.span l.initial.found l.initial.header l.initial.members
    (l.yielded ++ rest) ≡ lines_with l.fn.span l.found l.header l.members rest
