use Rattle.std.proofs.Common.{arith}
use Rattle.deny_globs.proofs.TrieLemmas.{edge_put, keeps_edge, keeps_no_edge}
use Rattle.deny_globs.proofs.trie.add_node.Goals as goal

pub returns-in_err-add_edge-clause-keeps : goal.returns-in_err-add_edge-clause-keeps
returns-in_err-add_edge-clause-keeps c = keeps_no_edge c.push_node.ensures.keeps c.in_err-add_edge.ensures.err

pub returns-clause-ok : goal.returns-clause-ok
returns-clause-ok c = edge_put c.in_ok-add_edge.ensures.ok

pub returns-clause-keeps : goal.returns-clause-keeps
returns-clause-keeps c = keeps_edge c.requires.trie c.requires.inside c.requires.fresh c.in_ok-push_node.ensures.ok
    (omega (arith, c.len-next.ensures, c.args.nodes.now.ok.0)) c.in_ok-add_edge.ensures.ok

pub add_edge-requires : goal.add_edge-requires
add_edge-requires c = omega (arith, c.requires.inside, c.push_node.ensures.keeps.size)
