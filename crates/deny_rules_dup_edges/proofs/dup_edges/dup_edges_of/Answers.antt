use Rattle.std.proofs.Common.{◌+◌, ◌∙◌, List, length, take, filter, sym, subst}
use Rattle.std.specs.List.{AllZip}
use Rattle.deny_cfg.specs.PolicyView.{policy_view}
use Rattle.deny_base_lists.specs.Walk.{AreUnset}
use Rattle.deny_rules_dup_edges.specs.DupEdges.{AreEdgesOf, is_of_duplicate}
use Rattle.deny_rules_dup_edges.specs.declared.dup_edges.DupEdges.{DupEdges}
use Rattle.deny_rules_dup_edges.proofs.DupSetLemmas.{zip_kept, zip_passed}
use Rattle.deny_rules_dup_edges.proofs.dup_edges.dup_edges_of.Goals as goal
use Rattle.deny_rules_dup_edges.proofs.dup_edges.dup_edges_of.Goals.{then-is_of_duplicate+in_ok-edges_of_duplicate+in_ok-push}
use Rattle.deny_rules_dup_edges.proofs.dup_edges.dup_edges_of.Goals.{else-is_of_duplicate}

pub loop-key-preserved : goal.loop-key-preserved
loop-key-preserved c =
    let p = policy_view c.args.cfg.now in
    let g = c.args.krates.now in
    let keys = c.args.keys.now in
    let i = c.loop-key.key-index in
    let key = c.key-item.result in
    record {
      shown = elim c.if-is_of_duplicate.branch as (λ _. AllZip (AreEdgesOf p g) (filter is_of_duplicate
          (take (i + 1) keys)) c.if-is_of_duplicate.shown) [
            | then-is_of_duplicate+in_ok-edges_of_duplicate+in_ok-push w ↦
                subst (λ (shown : List DupEdges). AllZip (AreEdgesOf p g)
                (filter is_of_duplicate (take (i + 1) keys)) shown) (sym (w.shown-is ∙ w.in_ok-push.ensures.ok))
                (zip_kept (AreEdgesOf p g) is_of_duplicate keys c.loop-key.shown i key
                w.in_ok-edges_of_duplicate.field-0 c.loop-key-test.true c.key-item.is (sym c.is_of_duplicate.ensures
                ∙ w.if-is_of_duplicate.true) c.loop-key.invariant.shown w.in_ok-edges_of_duplicate.ensures.shown)
            | else-is_of_duplicate w ↦
                subst (λ (shown : List DupEdges). AllZip (AreEdgesOf p g)
                (filter is_of_duplicate (take (i + 1) keys)) shown) (sym w.shown-is)
                (zip_passed (AreEdgesOf p g) is_of_duplicate keys c.loop-key.shown i key c.loop-key-test.true
                c.key-item.is
                (sym c.is_of_duplicate.ensures ∙ w.if-is_of_duplicate.false) c.loop-key.invariant.shown)
          ];
      unset = elim c.if-is_of_duplicate.branch as (λ _. AreUnset (length g.crates) c.if-is_of_duplicate.distances) [
        | then-is_of_duplicate+in_ok-edges_of_duplicate+in_ok-push w ↦ subst (AreUnset (length g.crates))
            (sym w.distances-is) w.in_ok-edges_of_duplicate.ensures.unset
        | else-is_of_duplicate w ↦ subst (AreUnset (length g.crates)) (sym w.distances-is) c.loop-key.invariant.unset
      ];
    }
