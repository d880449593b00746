use Rattle.std.proofs.Common.{◌≡◌, length, take}
use Rattle.std.specs.Prelude.{fold}
use Rattle.deny_base_lists.specs.private.Reaching.{reached}
use Rattle.deny_base_lists.proofs.walk.reach_roots.Given as goal

abbrev pub invariant-loop-root : goal.invariant-loop-root
invariant-loop-root l = record {
  folds : (l.distances, l.order) ≡ fold (reached 0) (l.initial.distances, l.initial.order) (take l.root-index l.roots);
  long : length l.distances ≡ length l.initial.distances;
}
