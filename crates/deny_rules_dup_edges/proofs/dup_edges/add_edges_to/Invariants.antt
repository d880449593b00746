use Rattle.deny_base_lists.specs.Ascending.{Adds}
use Rattle.deny_rules_dup_edges.proofs.EdgeLemmas.{FromFirst}
use Rattle.deny_rules_dup_edges.proofs.dup_edges.add_edges_to.Given as goal

abbrev pub invariant-loop-dependent : goal.invariant-loop-dependent
invariant-loop-dependent l = Adds (FromFirst l.krates l.child l.dependent-items l.dependent-index) l.fn.edges l.edges
