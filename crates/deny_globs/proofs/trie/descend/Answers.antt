use Rattle.std.proofs.Common.{refl, sym, ◌∙◌}
use Rattle.deny_globs.proofs.TrieLemmas.{edge_read, no_edge_read, keeps_same}
use Rattle.deny_globs.proofs.trie.descend.Goals as goal

pub returns-in-Some-clause-ok : goal.returns-in-Some-clause-ok
returns-in-Some-clause-ok c = edge_read c.args.nodes.now.items c.args.node c.args.character c.index.result.now
    c.requires.inside c.index.ensures (sym c.next_node.ensures ∙ c.in-Some.is)

pub returns-in-Some-clause-keeps : goal.returns-in-Some-clause-keeps
returns-in-Some-clause-keeps c = keeps_same c.requires.trie refl

pub add_node-requires-clause-fresh : goal.add_node-requires-clause-fresh
add_node-requires-clause-fresh c = no_edge_read c.args.nodes.now.items c.args.node c.args.character
    c.index.result.now c.requires.inside c.index.ensures (sym c.next_node.ensures ∙ c.in-None.is)
