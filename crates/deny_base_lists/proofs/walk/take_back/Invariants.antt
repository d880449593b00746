use Rattle.std.proofs.Common.{◌≡◌, drop, length}
use Rattle.std.specs.Prelude.{fold}
use Rattle.deny_base_lists.proofs.TakeBackLemmas.{unset_at}
use Rattle.deny_base_lists.proofs.walk.take_back.Given as goal

abbrev pub invariant-loop-place : goal.invariant-loop-place
invariant-loop-place l = record {
  folds : fold unset_at l.distances-inside.vec.items (drop l.place-index l.places)
      ≡ fold unset_at l.fn.distances l.places;
  long : length l.distances-inside.vec.items ≡ length l.fn.distances;
}
