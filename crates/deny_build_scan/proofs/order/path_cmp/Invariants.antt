use Rattle.std.proofs.Common.{◌≡◌, length}
use Rattle.deny_spec.specs.Paths.{path_cmp}
use Rattle.deny_build_scan.proofs.order.path_cmp.Given as goal

abbrev pub invariant-loop-next : goal.invariant-loop-next
invariant-loop-next l = path_cmp l.a l.b ≡ path_cmp l.rests.0.now l.rests.1.now

abbrev pub decreases-loop-next : goal.decreases-loop-next
decreases-loop-next l = length l.rests.0.now
