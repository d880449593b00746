use Rattle.std.proofs.Common.{take}
use Rattle.deny_krates_graph.specs.private.OtherLinks.{AreOtherLinks}
use Rattle.deny_krates_graph.proofs.filtered.other_links.Given as goal

abbrev pub invariant-loop-edge : goal.invariant-loop-edge
invariant-loop-edge l = AreOtherLinks l.kind (take l.edge-index l.edges) l.crates l.rows.items
