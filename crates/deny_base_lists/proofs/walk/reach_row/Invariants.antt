use Rattle.std.proofs.Common.{◌≡◌, ◌+◌, length, map, take}
use Rattle.std.specs.Prelude.{fold}
use Rattle.deny_base_lists.specs.private.Reaching.{reached}
use Rattle.deny_base_lists.proofs.walk.reach_row.Given as goal

abbrev pub invariant-loop-neighbour : goal.invariant-loop-neighbour
invariant-loop-neighbour g l = record {
  folds : (l.distances, l.order) ≡ fold (reached l.distance) (l.initial.distances, l.initial.order)
      (map g.G.Neighbours.place_of (take l.neighbour-index l.row));
  long : length l.distances ≡ length l.initial.distances;
  steps : l.steps ≡ l.fn.steps + l.neighbour-index;
}
