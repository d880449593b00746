use Rattle.deny_krates_trees.specs.private.Weights.{turns_left}
use Rattle.deny_krates_trees.proofs.dropping.drop_trees.Given as goal

abbrev pub decreases-loop-next : goal.decreases-loop-next
decreases-loop-next l = turns_left l.left.items l.next
