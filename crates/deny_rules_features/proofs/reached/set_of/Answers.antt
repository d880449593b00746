use Rattle.std.proofs.Common.{◌≡◌, ◌+◌, ◌++◌, [], ◌∷◌, List, ℕ, Bool, true, take, sym, ap, ◌∙◌, subst, arith}
use Rattle.std.specs.FinMap as finite
use Rattle.std.proofs.lemmas.List.{take_all, take_more}
use Rattle.deny_base_lists.specs.TextMap.{TextFinMap}
use Rattle.deny_rules_features.specs.private.Reached.{IsSetOf}
use Rattle.deny_rules_features.proofs.reached.set_of.Goals as goal
use Rattle.deny_spec.proofs.Texts.{no_texts, one_text_more}

pub loop-text-init : goal.loop-text-init
loop-text-init c = subst (λ (set : TextFinMap Bool). IsSetOf [] set) (sym c.new-set.ensures) no_texts

pub loop-text-preserved : goal.loop-text-preserved
loop-text-preserved c =
    let i = c.loop-text.text-index in
    let texts = c.args.texts.now in
    let text = c.text-item.result in
    let more : take (i + 1) texts ≡ take i texts ++ text ∷ [] = take_more texts i text (omega arith)
    ∙ ap (λ (t : List ℕ). take i texts ++ t ∷ []) (sym c.text-item.is) in
    subst (λ (ts : List (List ℕ)). IsSetOf ts c.insert.new.self) (sym more)
    (subst (λ (set : TextFinMap Bool). IsSetOf (take i texts ++ text ∷ []) set)
    (sym (c.in_ok-insert.ensures.ok
    ∙ ap (λ (t : List ℕ). finite.insert c.loop-text.set t true) c.in_ok-clone.ensures.cases))
    (one_text_more (take i texts) c.loop-text.set text true c.loop-text.invariant))

pub returns : goal.returns
returns c = subst (λ (ts : List (List ℕ)). IsSetOf ts c.loop-text.set)
    (take_all c.loop-text.text-index c.args.texts.now (omega arith)) c.loop-text.invariant
