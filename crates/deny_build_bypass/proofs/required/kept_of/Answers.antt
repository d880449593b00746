use Rattle.std.proofs.Common.{◌≡◌, ◌∙◌, ◌+◌, ◌∷◌, Bool, Bor, ap, drop, filter, refl, sym}
use Rattle.std.specs.List.{list_any}
use Rattle.std.proofs.lemmas.List.{drop_more}
use Rattle.deny_spec.specs.Policy.{SpannedText}
use Rattle.deny_spec.specs.Text.{same_text}
use Rattle.deny_build_bypass.proofs.KeptLemmas.{kept_none, kept_one}
use Rattle.deny_build_bypass.proofs.required.kept_of.Goals as goal
use Rattle.deny_build_bypass.proofs.required.kept_of.Goals.{then-has+in_ok-push, else-has}

pub loop-feature-preserved : goal.loop-feature-preserved
loop-feature-preserved c =
    let required = c.args.required.now in
    let i = c.loop-feature.feature-index in
    let here : SpannedText = c.feature-item.result in
    let kept = c.loop-feature.kept.items in
    let value : Bor SpannedText → SpannedText = λ w. w.now in
    let passes : SpannedText → Bool = λ w. list_any (same_text w.value) c.args.features.now in
    let split : drop i required ≡ here ∷ drop (i + 1) required = drop_more required i here c.loop-feature-test.true
    ∙ ap (λ (w : SpannedText). w ∷ drop (i + 1) required) (sym c.feature-item.is) in
    elim c.if-has.branch [
      | then-has+in_ok-push w ↦ kept_one value passes kept c.if-has.kept.items _ here
          (drop i required) (drop (i + 1) required) (filter passes required)
          (ap (λ (v : _). v.items) w.kept-is ∙ w.in_ok-push.ensures.items) refl split
          (sym c.has.ensures ∙ w.if-has.true) c.loop-feature.invariant
      | else-has w ↦ kept_none value passes kept c.if-has.kept.items here (drop i required) (drop (i + 1) required)
          (filter passes required) (ap (λ (v : _). v.items) w.kept-is) split (sym c.has.ensures ∙ w.if-has.false)
          c.loop-feature.invariant
    ]
