use Rattle.std.proofs.Common.{take}
use Rattle.deny_rules_crates.specs.private.WrappedEdges.{LeadToFirsts}
use Rattle.deny_rules_crates.proofs.hits.firsts_by_span.Given as goal

abbrev pub invariant-loop-edge : goal.invariant-loop-edge
invariant-loop-edge l = LeadToFirsts (take l.edge-index l.edges) l.firsts
