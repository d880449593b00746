use Rattle.std.proofs.Common.{List, arith, map, subst, ◌∙◌}
use Rattle.deny_base_lists.specs.First.{FindsFirst}
use Rattle.deny_cfg.specs.Clashes.{feature_clash}
use Rattle.deny_cfg.specs.private.FirstSpans.{first_span, same_wording, word_span}
use Rattle.deny_cfg.proofs.ClashLaws.{gathers_next}
use Rattle.deny_cfg.proofs.FirstSpansLaws.{feature_found}
use Rattle.deny_spec.specs.Policy.{SpannedText}
use Rattle.deny_cfg.proofs.clashes.put_feature_clashes.Goals as goal

pub loop-allowed-preserved : goal.loop-allowed-preserved
loop-allowed-preserved c =
    let entry = c.args.entry.now in
    let allowed = c.allowed-item.result in
    let denied = c.in_ok-denied.denied in
    let found =
    feature_found entry allowed denied
    (subst (λ (words : List SpannedText). FindsFirst same_wording (map word_span words) (first_span denied))
    c.as_slice.ensures c.in_ok-denied.ensures) in
    gathers_next (feature_clash entry) c.as_slice-allowed-items.result.now c.loop-allowed.allowed-index allowed
    c.loop-allowed.clashes c.put_clash.new.clashes _
    c.in_ok-feature_clash.field-0 (omega (arith, c.loop-allowed-test.true)) c.allowed-item.is c.loop-allowed.invariant
    (c.in_ok-feature_clash.ensures ∙ found)
    c.in_ok-put_clash.ensures
