use Rattle.std.proofs.Common.{◌≡◌, ◌<◌, ◌∙◌, Some, true, ap, arith, length, refl, subst, sym}
use Rattle.std.specs.Prelude.{◌||◌}
use Rattle.std.proofs.lemmas.Option.{same_Some, slice_get-get_or}
use Rattle.deny_krates_graph.specs.Crates.{crate_view}
use Rattle.deny_krates.specs.Nodes.{has_edge, leads_in_vain, leads_undeclared}
use Rattle.deny_krates_graph.specs.declared.krate.Krate.{Krate}
use Rattle.deny_krates.proofs.NodeLemmas.{as_many, crate_read, enabled_ascend, placed}
use Rattle.deny_krates.proofs.ParentLemmas.{edge_at, no_edge_to_crate, to_crate_answer}
use Rattle.deny_krates.proofs.incoming.leads_to_crate.Goals as goal
use Rattle.deny_spec.specs.Graph.{Crate}

pub returns-then-not-has_edge : goal.returns-then-not-has_edge
returns-then-not-has_edge c x p x_at p_at =
    let place = placed c.krates-all.result.now c.args.krates.now c.krates-all.ensures.crates in
    no_edge_to_crate c.args.krates.now p x c.args.kind
    (sym c.if-not-has_edge.true
    ∙ edge_at c.args.krates.now p x c.args.kind c.args.parent c.args.child c.has_edge.result
    (place.each c.args.parent p p_at) (place.each c.args.child x x_at) c.has_edge.ensures)

pub bounds-all-parent : goal.bounds-all-parent
bounds-all-parent c = omega (arith, as_many c.krates-all.result.now c.args.krates.now c.krates-all.ensures.crates)

pub bounds-all-child : goal.bounds-all-child
bounds-all-child c = omega (arith, as_many c.krates-all.result.now c.args.krates.now c.krates-all.ensures.crates)

pub leaves_crate-requires : goal.leaves_crate-requires
leaves_crate-requires c =
    let ks = c.krates-all.result.now in
    let inside : c.args.child < length ks = omega (arith, as_many ks c.args.krates.now c.krates-all.ensures.crates) in
    enabled_ascend ks c.args.krates.now c.krates-all.ensures.crates c.krates-all.ensures.orderly.enabled c.args.child
    c.index-all-child.result (slice_get-get_or ks c.args.child c.index-all-child.result inside
    ∙ ap (λ j. Some j) (sym c.index-all-child.is))

pub returns : goal.returns
returns c x p x_at p_at =
    let g = c.args.krates.now in
    let ks = c.krates-all.result.now in
    let same = c.krates-all.ensures.crates in
    let child = c.args.child in
    let parent = c.args.parent in
    let kind = c.args.kind in
    let kp = c.index-all-parent.result in
    let p_inside : parent < length ks = omega (arith, as_many ks g same) in
    let p_here = crate_read ks g same parent kp p_inside c.index-all-parent.is in
    let p_same : crate_view parent kp ≡ p = same_Some (crate_view parent kp) p (sym p_here ∙ p_at) in
    let kc = c.index-all-child.result in
    let x_inside : child < length ks = omega (arith, as_many ks g same) in
    let x_same : crate_view child kc ≡ x = same_Some (crate_view child kc) x
    (sym (crate_read ks g same child kc x_inside c.index-all-child.is) ∙ x_at) in
    let has : true ≡ has_edge g (crate_view parent kp) (crate_view child kc) kind =
    sym c.if-not-has_edge.false
    ∙ edge_at g (crate_view parent kp) (crate_view child kc) kind parent child c.has_edge.result refl refl
    c.has_edge.ensures in
    let deps = c.as_slice-declarations.ensures ∙ ap (λ (j : Krate). j.deps) (sym c.index-all-parent.is) in
    let here = to_crate_answer g child parent kc kp kind c.resolved_between-run.result.now
    c.as_slice-declarations.result.now p_here c.resolved_between-run.ensures deps c.leaves_crate.result has
    c.leaves_crate.ensures in
    subst (λ (q : Crate). c.leaves_crate.result ≡ (leads_in_vain g x q kind || leads_undeclared g x q kind)) p_same
    (subst (λ (y : Crate). c.leaves_crate.result
    ≡ (leads_in_vain g y (crate_view parent kp) kind || leads_undeclared g y (crate_view parent kp) kind)) x_same here)
