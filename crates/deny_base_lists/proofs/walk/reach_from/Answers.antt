use Rattle.std.proofs.Common.{◌≡◌, ◌<◌, ◌≤◌, ◌+◌, ℕ, Option, map, length, take, sym, ap, ◌∙◌, subst, arith}
use Rattle.std.specs.Prelude.{fold, unwrap_or}
use Rattle.std.proofs.lemmas.List.Elements.{All-weaker}
use Rattle.deny_base_lists.specs.Walk.{TakesInStep}
use Rattle.deny_base_lists.specs.private.Reaching.{reached}
use Rattle.deny_base_lists.proofs.ReachingLemmas.{State, grows_all}
use Rattle.deny_base_lists.proofs.WalkLemmas.{IsSpreading, next_is, spreading_from, spreading_more, spreading_end}
use Rattle.deny_base_lists.proofs.WalkLemmas.{good_those, row_inside, steps_more, steps_grown, steps_reached}
use Rattle.deny_base_lists.proofs.walk.reach_from.Goals as goal

pub loop-next-init : goal.loop-next-init
loop-next-init g c =
    let graph = g.G.Neighbours in
    let s : State = (c.reach_roots.new.distances, c.reach_roots.new.order) in
    record {
      spreading = spreading_from (graph.leads c.args.graph.now) (graph.count c.args.graph.now) c.args.roots.now
          c.args.distances.now c.new-order.result s c.requires.unset c.new-order.ensures c.requires.roots
          c.in_ok-reach_roots.ensures;
      steps = omega arith;
    }

pub reach_row-requires : goal.reach_row-requires
reach_row-requires g c =
    let graph = g.G.Neighbours in
    let leads = graph.leads c.args.graph.now in
    let count = graph.count c.args.graph.now in
    let s : State = (c.loop-next.distances, c.loop-next.order) in
    let so_far = c.loop-next.invariant.spreading in
    let place = c.nth_place-place.result in
    let more : c.loop-next.next < length c.loop-next.order = omega (arith, c.loop-next-test.true, c.len.ensures) in
    let here = next_is leads count c.args.roots.now s c.loop-next.next place so_far more c.nth_place-place.ensures in
    let inside : place < count = omega (arith, here.inside, so_far.good.long) in
    let row = map graph.place_of c.neighbours.result.now in
    All-weaker (λ n. n < count) (λ n. n < length c.loop-next.distances)
    (λ n below. omega (arith, below, so_far.good.long)) row
    (row_inside leads count place row c.requires.inside inside c.neighbours.ensures.each)

pub returns-in_err-reach_row-clause-err : goal.returns-in_err-reach_row-clause-err
returns-in_err-reach_row-clause-err g c =
    let graph = g.G.Neighbours in
    let s : State = (c.loop-next.distances, c.loop-next.order) in
    let next = c.loop-next.next in
    let so_far = c.loop-next.invariant.spreading in
    let degree = graph.degree c.args.graph.now in
    let more : next < length c.loop-next.order = omega (arith, c.loop-next-test.true, c.len.ensures) in
    let added : c.reach_row.new.steps ≤ c.loop-next.steps + 1 + length c.neighbours.result.now = omega (
      arith,
      c.reach_row.ensures.steps,
      c.tick.ensures,
    ) in
    steps_reached (graph.leads c.args.graph.now) (graph.count c.args.graph.now) c.args.roots.now degree s (next + 1)
    c.args.steps.now c.reach_row.new.steps
    so_far.good (omega (arith, more))
    (steps_more degree c.loop-next.order next c.nth_place-place.result c.args.steps.now c.loop-next.steps
    c.reach_row.new.steps (length c.neighbours.result.now)
    more c.nth_place-place.ensures c.loop-next.invariant.steps added c.neighbours.ensures.few)

pub loop-next-preserved : goal.loop-next-preserved
loop-next-preserved g c =
    let graph = g.G.Neighbours in
    let leads = graph.leads c.args.graph.now in
    let count = graph.count c.args.graph.now in
    let degree = graph.degree c.args.graph.now in
    let roots = c.args.roots.now in
    let s : State = (c.loop-next.distances, c.loop-next.order) in
    let next = c.loop-next.next in
    let so_far = c.loop-next.invariant.spreading in
    let place = c.nth_place-place.result in
    let row = map graph.place_of c.neighbours.result.now in
    let more : next < length c.loop-next.order = omega (arith, c.loop-next-test.true, c.len.ensures) in
    let here = next_is leads count roots s next place so_far more c.nth_place-place.ensures in
    let inside : place < count = omega (arith, here.inside, so_far.good.long) in
    let distance : c.distance_of-distance.result ≡ here.distance = c.distance_of-distance.ensures
    ∙ ap (λ (d : Option ℕ). unwrap_or d 0) here.is in
    let below = row_inside leads count place row c.requires.inside inside c.neighbours.ensures.each in
    let in_distances = All-weaker (λ n. n < count) (λ n. n < length c.loop-next.distances)
    (λ n is. omega (arith, is, so_far.good.long)) row below in
    let t : State = fold (reached (here.distance + 1)) s row in
    let after : (c.reach_row.new.distances, c.reach_row.new.order) ≡ t =
    c.in_ok-reach_row.ensures.reached ∙ ap (λ (n : ℕ). fold (reached (n + 1)) s row) distance in
    let added : c.reach_row.new.steps ≤ c.loop-next.steps + 1 + length c.neighbours.result.now = omega (
      arith,
      c.reach_row.ensures.steps,
      c.tick.ensures,
    ) in
    let steps = steps_more degree c.loop-next.order next place c.args.steps.now c.loop-next.steps c.reach_row.new.steps
    (length c.neighbours.result.now)
    more c.nth_place-place.ensures c.loop-next.invariant.steps added c.neighbours.ensures.few in
    record {
      spreading = subst (λ (u : State). IsSpreading leads count roots u (next + 1)) (sym after)
          (spreading_more leads count roots s next place here.distance row so_far more c.nth_place-place.ensures here.is
          below c.neighbours.ensures.each);
      steps = subst (λ (u : State). TakesInStep degree (take (next + 1) u.1) c.args.steps.now c.reach_row.new.steps)
          (sym after)
          (steps_grown degree s t (next + 1) c.args.steps.now c.reach_row.new.steps
          (grows_all (here.distance + 1) s row in_distances) (omega (arith, more)) steps);
    }

pub returns-clause-distances : goal.returns-clause-distances
returns-clause-distances g c =
    let graph = g.G.Neighbours in
    let s : State = (c.loop-next.distances, c.loop-next.order) in
    spreading_end (graph.leads c.args.graph.now) (graph.count c.args.graph.now) c.args.roots.now s c.loop-next.next
    c.loop-next.invariant.spreading (omega (arith, c.loop-next-test.false, c.len.ensures))

pub returns-clause-those : goal.returns-clause-those
returns-clause-those g c =
    let graph = g.G.Neighbours in
    let s : State = (c.loop-next.distances, c.loop-next.order) in
    good_those (graph.leads c.args.graph.now) (graph.count c.args.graph.now) c.args.roots.now s
    c.loop-next.invariant.spreading.good

pub returns-clause-err : goal.returns-clause-err
returns-clause-err g c =
    let graph = g.G.Neighbours in
    let s : State = (c.loop-next.distances, c.loop-next.order) in
    steps_reached (graph.leads c.args.graph.now) (graph.count c.args.graph.now) c.args.roots.now
    (graph.degree c.args.graph.now)
    s c.loop-next.next c.args.steps.now c.loop-next.steps c.loop-next.invariant.spreading.good
    c.loop-next.invariant.spreading.within c.loop-next.invariant.steps
