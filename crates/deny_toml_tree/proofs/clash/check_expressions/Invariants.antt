use Rattle.std.proofs.Common.{◌≡◌, List, map, drop}
use Rattle.deny_toml_tree.specs.Clash.{Segment, line_of, clash_after, clash}
use Rattle.deny_toml_tree.specs.private.Slots.{Reports}
use Rattle.deny_toml_tree.proofs.clash.check_expressions.Given as goal

abbrev pub invariant-loop-expression : goal.invariant-loop-expression
invariant-loop-expression l =
    (now : List Segment) × (clash l.expressions ≡ clash_after now l.table
    (map line_of (drop l.expression-index l.expressions))) × Reports l.slots now
