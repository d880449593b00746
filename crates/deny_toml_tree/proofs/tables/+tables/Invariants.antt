use Rattle.std.proofs.Common.{◌≡◌, ◌+◌, ◌*◌, ◌-◌, map}
use Rattle.deny_toml_tree.specs.Tree.{entry_of, table_value, table}
use Rattle.deny_toml_tree.proofs.tables.+tables.Given as goal

abbrev pub decreases-table : goal.decreases-table
decreases-table l = 6 * l.depth

abbrev pub decreases-table_value : goal.decreases-table_value
decreases-table_value l = 6 * l.depth + 1

abbrev pub decreases-array : goal.decreases-array
decreases-array l = 6 * l.depth + 2

abbrev pub decreases-array_value : goal.decreases-array_value
decreases-array_value l = 6 * l.depth + 3

abbrev pub decreases-value_of_lines : goal.decreases-value_of_lines
decreases-value_of_lines l = 6 * l.depth + 4

abbrev pub decreases-add_entry : goal.decreases-add_entry
decreases-add_entry l = 6 * l.depth + 5

abbrev pub invariant-table-groups : goal.invariant-table-groups
invariant-table-groups l = l.entries ≡ map (entry_of (table (l.fn.depth - 1))) l.yielded

abbrev pub invariant-array-elements : goal.invariant-array-elements
invariant-array-elements l = l.values ≡ map (table_value (table l.fn.depth)) l.yielded
