use Rattle.deny_base_lists.proofs.Results.{if_ok_then}
use Rattle.deny_krates_graph.proofs.ReachLemmas.{link_stays, reached_are}
use Rattle.deny_krates_graph.proofs.reach.reach.Goals as goal

pub reach-requires-clause-inside : goal.reach-requires-clause-inside
reach-requires-clause-inside c = link_stays c.args.rows.now c.args.starts.now c.requires.links

pub returns : goal.returns
returns c = if_ok_then c.reach.result c.reach.ensures
    (λ marks are. reached_are c.args.rows.now c.args.starts.now marks are)
