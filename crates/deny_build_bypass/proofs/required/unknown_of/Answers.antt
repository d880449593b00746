use Rattle.std.proofs.Common.{◌≡◌, ◌∙◌, ◌+◌, ◌∷◌, Bool, Bor, ap, drop, filter, is_some, not, refl, sym}
use Rattle.std.specs.FinMap as finite
use Rattle.std.proofs.lemmas.List.{drop_more}
use Rattle.deny_spec.specs.Policy.{SpannedText}
use Rattle.deny_build_bypass.proofs.KeptLemmas.{kept_none, kept_one}
use Rattle.deny_build_bypass.proofs.required.unknown_of.Goals as goal
use Rattle.deny_build_bypass.proofs.required.unknown_of.Goals.{then-not-contains_key+in_ok-push, else-not-contains_key}

pub loop-feature-preserved : goal.loop-feature-preserved
loop-feature-preserved c =
    let required = c.args.required.now in
    let i = c.loop-feature.feature-index in
    let here : SpannedText = c.feature-item.result in
    let unknown = c.loop-feature.unknown.items in
    let value : Bor SpannedText → SpannedText = λ w. w.now in
    let passes : SpannedText → Bool = λ w. not (is_some (finite.get c.args.features.now w.value)) in
    let split : drop i required ≡ here ∷ drop (i + 1) required = drop_more required i here c.loop-feature-test.true
    ∙ ap (λ (w : SpannedText). w ∷ drop (i + 1) required) (sym c.feature-item.is) in
    let found_by_key : passes here ≡ not c.contains_key.result
    = ap (λ text. not (is_some (finite.get c.args.features.now text))) (sym c.as_str.ensures)
    ∙ ap not (sym c.contains_key.ensures) in
    elim c.if-not-contains_key.branch [
      | then-not-contains_key+in_ok-push w ↦
          kept_one value passes unknown c.if-not-contains_key.unknown.items _ here (drop i required)
          (drop (i + 1) required)
          (filter passes required) (ap (λ (v : _). v.items) w.unknown-is ∙ w.in_ok-push.ensures.items) refl split
          (found_by_key ∙ ap not w.if-not-contains_key.true) c.loop-feature.invariant
      | else-not-contains_key w ↦
          kept_none value passes unknown c.if-not-contains_key.unknown.items here (drop i required)
          (drop (i + 1) required)
          (filter passes required) (ap (λ (v : _). v.items) w.unknown-is) split
          (found_by_key ∙ ap not w.if-not-contains_key.false) c.loop-feature.invariant
    ]
