use Rattle.std.proofs.Common.{◌≡◌, drop}
use Rattle.deny_krates_sources.specs.Checked.{resolved_node}
use Rattle.deny_krates_sources.specs.private.Index.{number_by}
use Rattle.deny_base_lists.specs.Reader.{each}
use Rattle.deny_base_lists.proofs.ReaderLemmas.{with_prefix}
use Rattle.deny_krates_sources.proofs.checked.resolve_nodes.Given as goal

abbrev pub invariant-loop-node : goal.invariant-loop-node
invariant-loop-node l =
    each (resolved_node (number_by l.indexes.packages) (number_by l.indexes.nodes)) l.nodes
    ≡ with_prefix l.rows (each (resolved_node (number_by l.indexes.packages) (number_by l.indexes.nodes))
    (drop l.node-index l.nodes))
