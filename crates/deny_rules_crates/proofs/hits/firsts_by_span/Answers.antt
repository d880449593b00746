use Rattle.std.proofs.Common.{◌≡◌, ◌+◌, true, false, get_or, is_some, take, refl, sym, ◌∙◌, subst}
use Rattle.std.specs.BTreeMap as tree
use Rattle.deny_base.specs.KeyOrder.{span_cmp}
use Rattle.deny_rules_crates.specs.private.WrappedEdges.{LeadToFirsts}
use Rattle.deny_rules_crates.specs.declared.hits.WrappedEdge.{WrappedEdge}
use Rattle.deny_rules_crates.proofs.FirstEdgeLemmas.{firsts_kept, firsts_more}
use Rattle.deny_rules_crates.proofs.hits.firsts_by_span.Goals as goal
use Rattle.deny_rules_crates.proofs.hits.firsts_by_span.Goals.{then-not-contains_key+in_ok-insert}
use Rattle.deny_rules_crates.proofs.hits.firsts_by_span.Goals.{else-not-contains_key}

abbrev none : WrappedEdge
none = record { span = record { start = 0; end = 0 }; place = 0; parent = 0 }

pub loop-edge-preserved : goal.loop-edge-preserved
loop-edge-preserved c =
    let edges = c.args.edges.now in
    let i = c.loop-edge.edge-index in
    let m = get_or edges i none in
    let old = c.loop-edge.firsts in
    elim c.if-not-contains_key.branch as (λ _. LeadToFirsts (take (i + 1) edges) c.if-not-contains_key.firsts) [
      | then-not-contains_key+in_ok-insert w ↦
          let free : is_some (tree.get span_cmp old m.span) ≡ false =
          sym c.contains_key.ensures ∙ w.if-not-contains_key.true in
          subst (LeadToFirsts (take (i + 1) edges)) (sym w.firsts-is)
          (firsts_more edges i m none old c.loop-edge-test.true refl c.loop-edge.invariant w.insert.new.self free
          w.in_ok-insert.ensures.updates.0)
      | else-not-contains_key w ↦
          let known : is_some (tree.get span_cmp old m.span) ≡ true =
          sym c.contains_key.ensures ∙ w.if-not-contains_key.false in
          subst (LeadToFirsts (take (i + 1) edges)) (sym w.firsts-is)
          (firsts_kept edges i m none old c.loop-edge-test.true refl c.loop-edge.invariant known)
    ]
