use Rattle.std.proofs.Common.{◌≡◌, ◌+◌, ◌++◌, [], ◌∷◌, List, ℕ, false, true, is_some, take, sym, ap, ◌∙◌, subst, arith}
use Rattle.std.proofs.Common.{rules}
use Rattle.std.specs.FinMap as finite
use Rattle.std.proofs.lemmas.List.{take_more}
use Rattle.deny_base_lists.specs.TextMap.{TextFinMap}
use Rattle.deny_base.specs.declared.span.Span.{Span}
use Rattle.deny_spec.specs.Policy.{SpannedText}
use Rattle.deny_rules_match.specs.Wrappers.{AreFirstSpans}
use Rattle.deny_rules_match.proofs.WrapperLemmas.{first_kept, first_new, no_spans}
use Rattle.deny_rules_match.proofs.wrappers.spans_by_name.Goals as goal
use Rattle.deny_rules_match.proofs.wrappers.spans_by_name.Goals.{then-not-contains_key+in_ok-clone+in_ok-insert}
use Rattle.deny_rules_match.proofs.wrappers.spans_by_name.Goals.{else-not-contains_key}

pub loop-wrapper-init : goal.loop-wrapper-init
loop-wrapper-init c = subst (λ (spans : TextFinMap Span). AreFirstSpans [] spans) (sym c.new-spans.ensures) no_spans

pub loop-wrapper-preserved : goal.loop-wrapper-preserved
loop-wrapper-preserved c =
    let i = c.loop-wrapper.wrapper-index in
    let wrapper = c.wrapper-item.result in
    let before = take i c.args.wrappers.now in
    let spans = c.loop-wrapper.spans in
    let more : take (i + 1) c.args.wrappers.now ≡ before ++ wrapper ∷ [] = take_more c.args.wrappers.now i wrapper
    (omega arith) ∙ ap (λ (w : SpannedText). before ++ w ∷ []) (sym c.wrapper-item.is) in
    let known = c.contains_key.ensures ∙ ap (λ (name : List ℕ). is_some (finite.get spans name)) c.as_str.ensures in
    let pushed : AreFirstSpans (before ++ wrapper ∷ []) c.if-not-contains_key.spans =
    elim c.if-not-contains_key.branch as (λ _. AreFirstSpans (before ++ wrapper ∷ []) c.if-not-contains_key.spans) [
      | then-not-contains_key+in_ok-clone+in_ok-insert w ↦
          let free : c.contains_key.result ≡ false = search rules in
          subst (AreFirstSpans (before ++ wrapper ∷ [])) (sym (w.spans-is ∙ (w.in_ok-insert.ensures.ok
          ∙ ap (λ (name : List ℕ). finite.insert spans name wrapper.span) w.in_ok-clone.ensures.cases)))
          (first_new before wrapper spans c.loop-wrapper.invariant (sym known ∙ free))
      | else-not-contains_key w ↦
          let there : c.contains_key.result ≡ true = search rules in
          subst (AreFirstSpans (before ++ wrapper ∷ [])) (sym w.spans-is)
          (first_kept before wrapper spans c.loop-wrapper.invariant (sym known ∙ there))
    ] in
    subst (λ (ws : List SpannedText). AreFirstSpans ws c.if-not-contains_key.spans) (sym more) pushed
