use Rattle.deny_toml_tree.proofs.TreeOrderLaws.{tree_orderly}
use Rattle.deny_toml_tree.proofs.tree.names_of_trees_ascend.Goals as goal

pub returns : goal.returns
returns c = tree_orderly
