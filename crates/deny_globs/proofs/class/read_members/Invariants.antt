use Rattle.std.proofs.Common.{length, ◌-◌}
use Rattle.deny_globs.proofs.ClassLemmas.{AreMembersTo}
use Rattle.deny_globs.proofs.class.read_members.Given as goal

abbrev pub invariant-loop-next : goal.invariant-loop-next
invariant-loop-next l = AreMembersTo l.body l.next l.ranges

abbrev pub decreases-loop-next : goal.decreases-loop-next
decreases-loop-next l = length l.body - l.next
