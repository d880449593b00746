use Rattle.std.proofs.Common.{◌<◌, ◌++◌, List, ap, arith, length, map, slice_index_or, subst, sym}
use Rattle.std.specs.List.{flat_map}
use Rattle.std.proofs.lemmas.List.{get_or_default}
use Rattle.std.proofs.lemmas.Option.{slice_get-get_or, slice_get_within}
use Rattle.deny_base.specs.declared.edge.DepKind.TheVariants.{Normal}
use Rattle.deny_base_lists.proofs.Members.{from_there}
use Rattle.deny_krates_graph.specs.Dependents.{AreDirectDependents}
use Rattle.deny_krates.specs.Nodes.{own_leading, sources_at, sources_of_feature}
use Rattle.deny_krates.specs.private.Sources.{parent_of}
use Rattle.deny_krates.specs.declared.incoming.Parent.{Parent}
use Rattle.deny_krates_graph.specs.declared.krate.DirectDependent.{DirectDependent}
use Rattle.deny_krates.proofs.NodeLemmas.{as_many, crate_read, placed}
use Rattle.deny_krates.proofs.ParentLemmas.{leading_first}
use Rattle.deny_krates.proofs.RowLemmas.{parents_done, row_inside, row_more, row_parents, rows_done}
use Rattle.deny_krates.proofs.incoming.parents_of_feature.Goals as goal

pub bounds-krates-place : goal.bounds-krates-place
bounds-krates-place c = omega (arith, as_many c.krates.result.now c.args.krates.now c.krates.ensures.crates)

pub loop-direct-init : goal.loop-direct-init
loop-direct-init c x x_at =
    let g = c.args.krates.now in
    let ks = c.krates.result.now in
    let place = c.args.place in
    let k = c.index-krates-place.result in
    let inside : place < length ks = omega (arith, as_many ks g c.krates.ensures.crates) in
    let here = crate_read ks g c.krates.ensures.crates place k inside c.index-krates-place.is in
    ap (λ (ps : List Parent). ps ++ flat_map
    (row_parents g (sources_of_feature g x c.args.feature.now)) c.direct_dependents-dependents.result.now)
    (leading_first g x place k c.args.feature.now
    (placed ks g c.krates.ensures.crates) here x_at c.new-parents.result c.add_own_leading.new.parents
    c.new-parents.ensures c.in_ok-add_own_leading.ensures)

pub add_feature_edges-requires-clause-parent : goal.add_feature_edges-requires-clause-parent
add_feature_edges-requires-clause-parent c =
    let g = c.args.krates.now in
    let ds = c.direct_dependents-dependents.result.now in
    let d = slice_index_or ds c.loop-direct.direct-index (record { place = 0; kind = Normal }) in
    let p = row_inside g (placed c.krates.result.now g c.krates.ensures.crates) c.args.place ds d
    c.direct_dependents-dependents.ensures (from_there ds c.loop-direct.direct-index d
    (slice_get-get_or ds c.loop-direct.direct-index (record { place = 0; kind = Normal }) c.loop-direct-test.true)) in
    slice_get_within g.crates d.place p.0 p.1

pub loop-direct-preserved : goal.loop-direct-preserved
loop-direct-preserved c x x_at =
    let g = c.args.krates.now in
    let ds = c.direct_dependents-dependents.result.now in
    let i = c.loop-direct.direct-index in
    let none : DirectDependent = record { place = 0; kind = Normal } in
    let d = slice_index_or ds i none in
    let p = row_inside g (placed c.krates.result.now g c.krates.ensures.crates) c.args.place ds d
    c.direct_dependents-dependents.ensures (from_there ds i d (slice_get-get_or ds i none c.loop-direct-test.true)) in
    row_more g (sources_of_feature g x c.args.feature.now) ds d p.0 i c.loop-direct.parents
    c.add_feature_edges.new.parents
    (map (parent_of g) (own_leading x c.args.feature.now)
    ++ flat_map (row_parents g (sources_of_feature g x c.args.feature.now)) ds)
    c.loop-direct-test.true (get_or_default ds i none d c.loop-direct-test.true) p.1
    (c.in_ok-add_feature_edges.ensures x p.0 x_at p.1) (c.loop-direct.invariant x x_at)

pub returns : goal.returns
unfolding sources_at
returns c x x_at p =
    let g = c.args.krates.now in
    let ds = c.direct_dependents-dependents.result.now in
    let are = placed c.krates.result.now g c.krates.ensures.crates in
    parents_done g are (own_leading x c.args.feature.now) x ds
    (sources_of_feature g x c.args.feature.now) c.loop-direct.parents
    (subst (λ n. AreDirectDependents g n ds)
    (sym (are.each c.args.place x x_at)) c.direct_dependents-dependents.ensures)
    (rows_done g (sources_of_feature g x c.args.feature.now) ds c.loop-direct.direct-index c.loop-direct.parents
    (map (parent_of g) (own_leading x c.args.feature.now) ++ flat_map
    (row_parents g (sources_of_feature g x c.args.feature.now)) ds) (omega (arith, c.loop-direct-test.false))
    (c.loop-direct.invariant x x_at)) p
