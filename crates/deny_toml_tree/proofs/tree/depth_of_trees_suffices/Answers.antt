use Rattle.deny_toml_tree.proofs.TreeDepthLaws.{depth_suffices}
use Rattle.deny_toml_tree.proofs.tree.depth_of_trees_suffices.Goals as goal

pub returns : goal.returns
returns c = depth_suffices
