use Rattle.std.proofs.Common.{◌<◌, ℕ, List, length, sym, subst, arith}
use Rattle.std.specs.Prelude.{All}
use Rattle.deny_base_lists.specs.Walk.{AreUnset}
use Rattle.deny_krates.proofs.PlaceLemmas.{are_placed, length_of}
use Rattle.deny_krates_reach.proofs.ReachedLemmas.{marked, starts_inside, walk_within}
use Rattle.deny_krates_reach.proofs.StartLemmas.{starts_are}
use Rattle.deny_krates_reach.proofs.reach.build_reach.Goals as goal

pub reach_from-requires-clause-few : goal.reach_from-requires-clause-few
reach_from-requires-clause-few g c =
    let long = length_of c.krates-list.result.now c.args.krates.now.crates c.krates-list.ensures.crates in
    omega (arith, c.krates-list.ensures.few, long)

pub reach_from-requires-clause-roots : goal.reach_from-requires-clause-roots
reach_from-requires-clause-roots g c =
    let graph = c.args.krates.now in
    let ks = c.krates-list.result.now in
    let starts = starts_are ks graph.crates c.in_ok-roots.roots c.as_slice.result.now c.krates-list.ensures.crates
    c.as_slice.ensures c.in_ok-roots.ensures in
    subst (λ (roots : List ℕ). All (λ root. root < length graph.crates) roots) (sym starts)
    (starts_inside graph (are_placed ks graph.crates c.krates-list.ensures.crates) c.krates-list.ensures.orderly)

pub reach_from-requires-clause-unset : goal.reach_from-requires-clause-unset
reach_from-requires-clause-unset g c =
    let long = length_of c.krates-list.result.now c.args.krates.now.crates c.krates-list.ensures.crates in
    subst (λ (n : ℕ). AreUnset n c.in_ok-distances.distances) (sym long) c.in_ok-distances.ensures

pub returns-in_err-reach_from-clause-steps : goal.returns-in_err-reach_from-clause-steps
returns-in_err-reach_from-clause-steps g c =
    let graph = c.args.krates.now in
    let ks = c.krates-list.result.now in
    walk_within graph (are_placed ks graph.crates c.krates-list.ensures.crates) c.krates-list.ensures.orderly
    c.as_slice.result.now c.args.steps.now c.reach_from.new.steps
    (starts_are ks graph.crates c.in_ok-roots.roots c.as_slice.result.now c.krates-list.ensures.crates
    c.as_slice.ensures c.in_ok-roots.ensures) c.reach_from.ensures.err

pub returns-in_err-marks-clause-steps : goal.returns-in_err-marks-clause-steps
returns-in_err-marks-clause-steps g c =
    let graph = c.args.krates.now in
    let ks = c.krates-list.result.now in
    walk_within graph (are_placed ks graph.crates c.krates-list.ensures.crates) c.krates-list.ensures.orderly
    c.as_slice.result.now c.args.steps.now c.reach_from.new.steps
    (starts_are ks graph.crates c.in_ok-roots.roots c.as_slice.result.now c.krates-list.ensures.crates
    c.as_slice.ensures c.in_ok-roots.ensures) c.reach_from.ensures.err

pub returns-clause-steps : goal.returns-clause-steps
returns-clause-steps g c =
    let graph = c.args.krates.now in
    let ks = c.krates-list.result.now in
    walk_within graph (are_placed ks graph.crates c.krates-list.ensures.crates) c.krates-list.ensures.orderly
    c.as_slice.result.now c.args.steps.now c.reach_from.new.steps
    (starts_are ks graph.crates c.in_ok-roots.roots c.as_slice.result.now c.krates-list.ensures.crates
    c.as_slice.ensures c.in_ok-roots.ensures) c.reach_from.ensures.err

pub returns-clause-marks : goal.returns-clause-marks
returns-clause-marks g c =
    let graph = c.args.krates.now in
    let ks = c.krates-list.result.now in
    marked graph (are_placed ks graph.crates c.krates-list.ensures.crates) c.krates-list.ensures.orderly
    c.as_slice.result.now c.reach_from.new.distances c.as_slice-2.result.now c.in_ok-marks.marks
    c.marks.inside.vec.items
    (starts_are ks graph.crates c.in_ok-roots.roots c.as_slice.result.now c.krates-list.ensures.crates
    c.as_slice.ensures c.in_ok-roots.ensures)
    c.in_ok-reach_from.ensures.distances c.as_slice-2.ensures c.in_ok-marks.ensures c.marks.view_is
