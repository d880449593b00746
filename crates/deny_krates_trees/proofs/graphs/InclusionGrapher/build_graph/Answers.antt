use Rattle.std.proofs.Common.{◌∙◌, Some, sym}
use Rattle.deny_krates_trees.proofs.OnceLemmas.{shows_once}
use Rattle.deny_krates_trees.proofs.graphs.InclusionGrapher.build_graph.Goals as goal

pub returns-in-Ok-Some-clause-once : goal.returns-in-Ok-Some-clause-once
returns-in-Ok-Some-clause-once c =
    shows_once c.args.self.now.krates.now (Some c.args.max_feature_depth) c.args.id.now c.in-Ok-Some.tree
    (sym c.in-Ok-Some.field-0-is ∙ c.in-Ok-Some.ensures)
