use Rattle.std.proofs.Common.{◌≡◌, ◌<◌, ℕ, get_or, map, length, sym, ap, subst, arith, ◌∙◌}
use Rattle.std.proofs.lemmas.List.{length-map, get_or-map}
use Rattle.deny_base_lists.proofs.walk.reach_row.Goals as goal

pub reach_place-requires : goal.reach_place-requires
reach_place-requires g c =
    let place_of = g.G.Neighbours.place_of in
    let row = c.args.row.now in
    let i = c.loop-neighbour.neighbour-index in
    let item = c.neighbour-item.result in
    let below : i < length (map place_of row) = omega (arith, c.loop-neighbour-test.true, length-map row place_of) in
    let at : get_or (map place_of row) i (place_of item) ≡ place_of item =
    get_or-map place_of row i item (place_of item) c.loop-neighbour-test.true ∙ ap place_of (sym c.neighbour-item.is) in
    let inside : place_of item < length c.args.distances.now =
    subst (λ (n : ℕ). n < length c.args.distances.now) at (c.requires i (place_of item) below) in
    omega (arith, inside, c.place_of.ensures, c.loop-neighbour.invariant.long)
