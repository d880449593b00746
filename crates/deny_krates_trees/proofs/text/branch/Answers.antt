use lib.Utf8.{encode}
use Rattle.std.proofs.Common.{ap, sym}
use Rattle.deny_krates_trees.specs.Text.{branch}
use Rattle.deny_krates_trees.proofs.text.branch.Goals as goal

pub returns-then-is_last : goal.returns-then-is_last
unfolding encode
returns-then-is_last c = ap branch (sym c.if-is_last.true)

pub returns-else-is_last : goal.returns-else-is_last
unfolding encode
returns-else-is_last c = ap branch (sym c.if-is_last.false)
