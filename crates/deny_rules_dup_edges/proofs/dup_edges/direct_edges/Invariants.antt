use Rattle.std.proofs.Common.{[], take}
use Rattle.deny_base_lists.specs.Ascending.{Adds}
use Rattle.deny_rules_dup_edges.specs.private.EdgeLists.{IsToOne}
use Rattle.deny_rules_dup_edges.proofs.dup_edges.direct_edges.Given as goal

abbrev pub invariant-loop-child : goal.invariant-loop-child
invariant-loop-child l = Adds (IsToOne l.krates (take l.child-index l.children)) [] l.edges
