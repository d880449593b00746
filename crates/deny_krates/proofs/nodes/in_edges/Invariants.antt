use Rattle.std.proofs.Common.{◌≡◌, ◌<◌, length, map, take}
use Rattle.std.specs.Prelude.{All}
use Rattle.deny_krates.specs.Nodes.{incoming_at, nodes_of}
use Rattle.deny_krates.specs.private.Sources.{source_of}
use Rattle.deny_krates.proofs.nodes.in_edges.Given as goal

abbrev pub invariant-loop-parent : goal.invariant-loop-parent
invariant-loop-parent l = record {
  sources : map (incoming_at l.krates) l.edges ≡ map source_of (take l.parent-index l.parents);
  within : All (λ edge. edge.node.0 < length (nodes_of l.krates)) l.edges;
}
