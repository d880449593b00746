use Rattle.deny_krates.specs.Nodes.{sources_of_crate}
use Rattle.deny_krates.proofs.ParentLemmas.{by_three}
use Rattle.deny_krates.proofs.incoming.add_crate_edges.Goals as goal

pub returns : goal.returns
returns c x p x_at p_at =
    by_three c.args.krates.now (sources_of_crate c.args.krates.now x p) c.args.parents.now
    c.add_crate_edges_of_kind.new.parents
    c.add_crate_edges_of_kind-2.new.parents c.add_crate_edges_of_kind-3.new.parents
    (c.in_ok-add_crate_edges_of_kind.ensures x p x_at p_at)
    (c.in_ok-add_crate_edges_of_kind-2.ensures x p x_at p_at) (c.in_ok-add_crate_edges_of_kind-3.ensures x p x_at p_at)
