use lib.Utf8.{encode}
use Rattle.std.proofs.Common.{ap, sym}
use Rattle.deny_krates_trees.specs.Text.{trunk}
use Rattle.deny_krates_trees.proofs.text.trunk.Goals as goal

pub returns-else-is_last : goal.returns-else-is_last
unfolding encode
returns-else-is_last c = ap trunk (sym c.if-is_last.false)
