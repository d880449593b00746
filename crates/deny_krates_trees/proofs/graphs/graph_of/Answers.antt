use Rattle.std.specs.Prelude.{option_copied}
use Rattle.deny_krates_trees.proofs.GraphLemmas.{graph_found, no_graph}
use Rattle.deny_krates_trees.proofs.graphs.graph_of.Goals as goal

pub returns-in_ok-headed_tree-in-Some : goal.returns-in_ok-headed_tree-in-Some
returns-in_ok-headed_tree-in-Some c =
    graph_found c.args.krates.now c.args.most c.args.shown.now c.in-Some.node.0 (option_copied c.feature_of.result)
    c.in_ok-headed_tree-in-Some.field-0 c.in-Some.ensures.within c.in-Some.ensures.found c.feature_of.ensures
    c.in_ok-headed_tree-in-Some.ensures

pub returns-in-None : goal.returns-in-None
returns-in-None c =
    no_graph c.args.krates.now c.args.most c.args.shown.now (option_copied c.feature_of.result) c.in-None.ensures.none
    c.feature_of.ensures
