use Rattle.std.proofs.Common.{◌+◌, take, ap}
use Rattle.std.specs.List.{list_any}
use Rattle.deny_rules_match.specs.Marks.{mark_at, marked}
use Rattle.deny_rules_match.proofs.MarkLemmas.{adds_marks, any_next, more_marks}
use Rattle.deny_rules_match.proofs.groups.in_tree_of.Goals as goal

pub loop-tree-preserved : goal.loop-tree-preserved
loop-tree-preserved c =
    let crates = c.args.krates.now.crates in
    let trees = c.args.trees.now in
    let i = c.loop-tree.tree-index in
    let tree = c.tree-item.result in
    more_marks crates (λ d. list_any (λ t. marked t d) (take i trees))
    (λ d. list_any (λ t. marked t d) (take (i + 1) trees))
    (marked tree) c.loop-tree.in_skipped_tree c.mark_tree.new.in_skipped_tree c.loop-tree.invariant
    (adds_marks crates c.are_placed.ensures (mark_at c.as_slice.result.now)
    (marked tree) c.loop-tree.in_skipped_tree c.mark_tree.new.in_skipped_tree c.mark_tree.ensures
    (λ d _. ap (λ ms. marked ms d) c.as_slice.ensures))
    (λ d. any_next (λ t. marked t d) trees i tree c.loop-tree-test.true c.tree-item.is)
