use Rattle.deny_krates.specs.Nodes.{sources_of_feature}
use Rattle.deny_krates.proofs.ParentLemmas.{by_three}
use Rattle.deny_krates.proofs.incoming.add_feature_edges.Goals as goal

pub returns : goal.returns
returns c x p x_at p_at =
    by_three c.args.krates.now
    (sources_of_feature c.args.krates.now x c.args.feature.now p) c.args.parents.now
    c.add_feature_edges_of_kind.new.parents
    c.add_feature_edges_of_kind-2.new.parents c.add_feature_edges_of_kind-3.new.parents
    (c.in_ok-add_feature_edges_of_kind.ensures x p x_at p_at)
    (c.in_ok-add_feature_edges_of_kind-2.ensures x p x_at p_at)
    (c.in_ok-add_feature_edges_of_kind-3.ensures x p x_at p_at)
