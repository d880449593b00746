use Rattle.std.proofs.Common.{◌≡◌, ◌++◌, drop}
use Rattle.deny_rules_dup_edges.proofs.DupSetLemmas.{numbers_from}
use Rattle.deny_rules_dup_edges.proofs.dup_edges.numbers_of.Given as goal

abbrev pub invariant-loop-number : goal.invariant-loop-number
invariant-loop-number l =
    l.numbers ++ numbers_from l.distances l.number (drop l.number l.edges) ≡ numbers_from l.distances 0 l.edges
