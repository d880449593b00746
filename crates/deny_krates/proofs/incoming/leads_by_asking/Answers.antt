use Rattle.std.proofs.Common.{◌≡◌, ◌<◌, ◌∙◌, true, ap, arith, length, refl, subst, sym}
use Rattle.std.proofs.lemmas.Option.{same_Some}
use Rattle.deny_base_lists.proofs.Members.{some_at}
use Rattle.deny_krates_graph.specs.Crates.{crate_view}
use Rattle.deny_krates.specs.Nodes.{has_edge, leads_by_asking}
use Rattle.deny_krates_graph.specs.declared.krate.Krate.{Krate}
use Rattle.deny_krates.proofs.NodeLemmas.{as_many, crate_of_krate, crate_read, placed}
use Rattle.deny_krates.proofs.ParentLemmas.{edge_at, no_edge_to_feature, to_feature_answer}
use Rattle.deny_krates.proofs.incoming.leads_by_asking.Goals as goal
use Rattle.deny_spec.specs.Graph.{Crate}

pub returns-then-not-has_edge : goal.returns-then-not-has_edge
returns-then-not-has_edge c x p x_at p_at =
    let place = placed c.krates-all.result.now c.args.krates.now c.krates-all.ensures.crates in
    no_edge_to_feature c.args.krates.now p x c.args.kind c.args.feature.now
    (sym c.if-not-has_edge.true
    ∙ edge_at c.args.krates.now p x c.args.kind c.args.parent c.args.child c.has_edge.result
    (place.each c.args.parent p p_at) (place.each c.args.child x x_at) c.has_edge.ensures)

pub bounds-all-parent : goal.bounds-all-parent
bounds-all-parent c = omega (arith, as_many c.krates-all.result.now c.args.krates.now c.krates-all.ensures.crates)

pub returns : goal.returns
returns c x p x_at p_at =
    let g = c.args.krates.now in
    let ks = c.krates-all.result.now in
    let same = c.krates-all.ensures.crates in
    let child = c.args.child in
    let parent = c.args.parent in
    let kind = c.args.kind in
    let kp = c.index-all-parent.result in
    let p_inside : parent < length ks = omega (arith, as_many ks g same) in
    let p_here = crate_read ks g same parent kp p_inside c.index-all-parent.is in
    let p_same : crate_view parent kp ≡ p = same_Some (crate_view parent kp) p (sym p_here ∙ p_at) in
    let kc_at = some_at ks child (omega (arith, as_many ks g same)) in
    let kc = kc_at.0 in
    let x_same : crate_view child kc ≡ x = same_Some (crate_view child kc) x
    (sym (crate_of_krate ks g same child kc kc_at.1) ∙ x_at) in
    let has : true ≡ has_edge g (crate_view parent kp) (crate_view child kc) kind =
    sym c.if-not-has_edge.false
    ∙ edge_at g (crate_view parent kp) (crate_view child kc) kind parent child c.has_edge.result refl refl
    c.has_edge.ensures in
    let deps = c.as_slice-declarations.ensures ∙ ap (λ (j : Krate). j.deps) (sym c.index-all-parent.is) in
    let here = to_feature_answer g child parent kc kp kind c.resolved_between-run.result.now
    c.as_slice-declarations.result.now p_here c.resolved_between-run.ensures deps c.args.feature.now
    c.any_asks_for.result has c.any_asks_for.ensures in
    subst (λ (q : Crate). c.any_asks_for.result ≡ leads_by_asking g x c.args.feature.now q kind) p_same
    (subst (λ (y : Crate). c.any_asks_for.result
    ≡ leads_by_asking g y c.args.feature.now (crate_view parent kp) kind) x_same here)
