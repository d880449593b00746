use Rattle.std.proofs.Common.{get_or}
use Rattle.std.proofs.lemmas.List.{get_or_default}
use Rattle.deny_base.specs.declared.edge.DepKind.TheVariants.{Normal}
use Rattle.deny_krates.specs.krate.DirectDependent.{DirectDependent}
use Rattle.deny_rules_dup_edges.proofs.EdgeLemmas.{from_more, from_all}
use Rattle.deny_krates.proofs.PlaceLemmas.{are_placed}
use Rattle.deny_rules_dup_edges.proofs.AboveLemmas.{each_dependent_holds}
use Rattle.deny_rules_dup_edges.proofs.dup_edges.add_edges_to.Goals as goal

none : DirectDependent
none = record { place = 0; kind = Normal }

pub add_edges_between-requires-clause-parent : goal.add_edges_between-requires-clause-parent
add_edges_between-requires-clause-parent c =
    let ds = c.direct_dependents-dependent-items.result.now in
    each_dependent_holds c.args.krates.now c.args.child ds
    (are_placed c.krates-orderly.result.now c.args.krates.now.crates c.krates-orderly.ensures.crates)
    c.direct_dependents-dependent-items.ensures c.loop-dependent.dependent-index
    (record { place = 0; kind = Normal }) c.loop-dependent-test.true

pub loop-dependent-preserved : goal.loop-dependent-preserved
unfolding none
loop-dependent-preserved c =
    let ds = c.direct_dependents-dependent-items.result.now in
    let i = c.loop-dependent.dependent-index in
    let d = get_or ds i none in
    from_more c.args.krates.now c.args.child ds i d c.args.edges.now c.loop-dependent.edges
    c.add_edges_between.new.edges c.loop-dependent-test.true (get_or_default ds i none d c.loop-dependent-test.true)
    c.loop-dependent.invariant c.in_ok-add_edges_between.ensures

pub returns : goal.returns
returns c =
    from_all c.args.krates.now c.args.child c.direct_dependents-dependent-items.result.now
    c.loop-dependent.dependent-index c.args.edges.now c.loop-dependent.edges
    (are_placed c.krates-orderly.result.now c.args.krates.now.crates c.krates-orderly.ensures.crates)
    c.krates-orderly.ensures.orderly c.direct_dependents-dependent-items.ensures c.loop-dependent-test.false
    c.loop-dependent.invariant
