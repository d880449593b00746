use Rattle.std.proofs.Common.{arith}
use Rattle.deny_krates_sources.specs.Checked.{resolved_node}
use Rattle.deny_krates_sources.specs.private.Index.{number_by}
use Rattle.deny_base_lists.specs.Reader.{Fails, IsFault}
use Rattle.deny_krates_metadata.specs.declared.fault.MetadataFault.TheVariants.{Memory}
use Rattle.deny_base_lists.proofs.ReaderLemmas.{goes_on, fails_here, handed_on, next_each, no_more_each, all_read}
use Rattle.deny_krates_sources.proofs.checked.resolve_nodes.Goals as goal

pub returns-in_err-resolve_node : goal.returns-in_err-resolve_node
returns-in_err-resolve_node c =
    let read = resolved_node (number_by c.args.indexes.now.packages) (number_by c.args.indexes.now.nodes) in
    let step = next_each read c.args.nodes.now c.loop-node.node-index c.node-item.result
    (omega (arith, c.loop-node-test.true)) c.node-item.is in
    let fault = c.in_err-resolve_node.field-0.0 in
    let fails : Fails Memory (IsFault (read c.node-item.result)) fault = c.in_err-resolve_node.ensures in
    handed_on Memory _ _ _ fault c.from_residual.ensures.1
    (fails_here Memory _ _ _ (read c.node-item.result) c.loop-node.rows fault c.loop-node.invariant step fails)

pub loop-node-preserved : goal.loop-node-preserved
loop-node-preserved c =
    let read = resolved_node (number_by c.args.indexes.now.packages) (number_by c.args.indexes.now.nodes) in
    let step = next_each read c.args.nodes.now c.loop-node.node-index c.node-item.result
    (omega (arith, c.loop-node-test.true)) c.node-item.is in
    rw c.in_ok-push.ensures.ok (goes_on _ _ _ (read c.node-item.result) c.loop-node.rows c.in_ok-resolve_node.field-0
    c.loop-node.invariant step c.in_ok-resolve_node.ensures)

pub returns : goal.returns
returns c = all_read _ _ c.loop-node.rows c.loop-node.invariant
    (no_more_each _ c.args.nodes.now c.loop-node.node-index (omega (arith, c.loop-node-test.false)))
