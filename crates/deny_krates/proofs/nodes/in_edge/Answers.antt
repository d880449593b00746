use Rattle.std.proofs.Common.{◌∙◌, ap, refl}
use Rattle.deny_krates.specs.private.Sources.{node_here, source_of}
use Rattle.deny_krates.proofs.NodeLemmas.{incoming_of}
use Rattle.deny_krates.proofs.nodes.in_edge.Goals as goal

pub returns-clause-source : goal.returns-clause-source
returns-clause-source c =
    let g = c.args.krates.now in
    let p = c.args.parent.now in
    incoming_of g _ (source_of p) (c.in-Some.ensures.found
    ∙ (ap (node_here g p.place) c.feature_of.ensures ∙ c.requires)) refl
