use Rattle.std.proofs.Common.{arith, ap, drop, length, length-drop, sym, ◌-◌, ◌∙◌}
use Rattle.deny_globs.specs.declared.trie.TrieNode.{TrieNode}
use Rattle.deny_globs.proofs.MarkedLemmas.{take_all}
use Rattle.deny_globs.proofs.TrieLemmas.{reading_first, reading_past, reading_step, reading_end}
use Rattle.deny_globs.proofs.trie.find_prefixes.Goals as goal

pub loop-node-init : goal.loop-node-init
loop-node-init c = record {
  reading = reading_first c.args.nodes.now c.args.path.now c.args.found.now.items;
  inside = omega arith;
}

pub loop-node-preserved : goal.loop-node-preserved
loop-node-preserved c =
    let path = c.args.path.now in
    let index = c.loop-node.index in
    let step =
    reading_step c.args.nodes.now path index c.index-nodes-node.result c.index-nodes-node-in-loop-node.result
    (omega (arith, c.loop-node-test.true)) c.index-nodes-node.is c.index-nodes-node-in-loop-node.is
    (c.as_slice.ensures ∙ ap (λ (n : TrieNode). n.numbers) (sym c.index-nodes-node.is))
    c.in_ok-extend_from_slice.ensures.items
    (take_all (drop index path) (length path - index) (omega (arith, length-drop index path)))
    (sym c.next_of.ensures ∙ c.in-Some.is) c.loop-node.invariant.inside c.loop-node.invariant.reading in
    record { reading = step.0; inside = step.1 }

pub returns-in-None : goal.returns-in-None
returns-in-None c =
    let path = c.args.path.now in
    let index = c.loop-node.index in
    reading_end c.args.nodes.now path index c.index-nodes-node.result c.index-nodes-node-in-loop-node.result
    (omega (arith, c.loop-node-test.true)) c.index-nodes-node.is c.index-nodes-node-in-loop-node.is
    (c.as_slice.ensures ∙ ap (λ (n : TrieNode). n.numbers) (sym c.index-nodes-node.is))
    c.in_ok-extend_from_slice.ensures.items
    (take_all (drop index path) (length path - index) (omega (arith, length-drop index path)))
    (sym c.next_of.ensures ∙ c.in-None.is) c.loop-node.invariant.reading

pub returns : goal.returns
returns c = reading_past (omega (arith, c.loop-node-test.false)) c.loop-node.invariant.reading
