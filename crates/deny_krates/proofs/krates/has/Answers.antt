use Rattle.deny_base.specs.Edge.{edge_cmp}
use Rattle.deny_krates_graph.proofs.SearchLemmas.{search_finds}
use Rattle.deny_krates.proofs.krates.has.Goals as goal

pub returns : goal.returns
returns c =
    rw c.is_ok.ensures.value
    (search_finds edge_cmp c.edge_order.ensures.total c.edge_order.ensures.equal c.args.edges.now c.args.edge.now
    c.binary_search.result c.requires c.binary_search.ensures.bound c.binary_search.ensures.position)
