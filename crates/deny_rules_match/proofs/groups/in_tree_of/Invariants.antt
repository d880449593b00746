use Rattle.std.proofs.Common.{◌≡◌, map, take}
use Rattle.std.specs.List.{list_any}
use Rattle.deny_rules_match.specs.Marks.{marked}
use Rattle.deny_rules_match.proofs.groups.in_tree_of.Given as goal

abbrev pub invariant-loop-tree : goal.invariant-loop-tree
invariant-loop-tree l = l.in_skipped_tree ≡ map (λ c. list_any (λ tree. marked tree c)
    (take l.tree-index l.trees)) l.krates.crates
