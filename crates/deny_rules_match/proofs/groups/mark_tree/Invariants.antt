use Rattle.std.proofs.Common.{take}
use Rattle.deny_rules_match.specs.Marks.{HaveBesides, mark_at}
use Rattle.deny_rules_match.proofs.groups.mark_tree.Given as goal

abbrev pub invariant-loop-place : goal.invariant-loop-place
invariant-loop-place l = HaveBesides (mark_at (take l.place l.tree)) l.initial.in_skipped_tree l.in_skipped_tree
