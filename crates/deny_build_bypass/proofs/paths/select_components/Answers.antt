use Rattle.std.proofs.Common.{◌∙◌, ◌+◌, ℕ, Bor, List, ap, drop, filter, map, refl, sym}
use Rattle.std.proofs.lemmas.List.{drop_more}
use Rattle.deny_spec.specs.Paths.{is_component}
use Rattle.deny_build_bypass.proofs.KeptLemmas.{kept_none, kept_one}
use Rattle.deny_build_bypass.proofs.paths.select_components.Goals as goal
use Rattle.deny_build_bypass.proofs.paths.select_components.Goals.{then-is_component+in_ok-push, else-is_component}

pub loop-part-preserved : goal.loop-part-preserved
loop-part-preserved c =
    let parts = c.args.parts.now in
    let i = c.loop-part.part-index in
    let names = c.loop-part.names.items in
    let text : Bor (List ℕ) → List ℕ = λ part. part.now in
    let texts = map text (drop (i + 1) parts) in
    elim c.if-is_component.branch [
      | then-is_component+in_ok-push w ↦ kept_one text is_component names c.if-is_component.names.items _ _
          (map text (drop i parts)) texts (filter is_component (map text parts))
          (ap (λ (v : _). v.items) w.names-is ∙ w.in_ok-push.ensures.items) refl
          (ap (map text) (drop_more parts i _ c.loop-part-test.true))
          (sym c.is_component.ensures ∙ w.if-is_component.true) c.loop-part.invariant
      | else-is_component w ↦ kept_none text is_component names c.if-is_component.names.items _
          (map text (drop i parts)) texts (filter is_component (map text parts))
          (ap (λ (v : _). v.items) w.names-is)
          (ap (map text) (drop_more parts i _ c.loop-part-test.true))
          (sym c.is_component.ensures ∙ w.if-is_component.false) c.loop-part.invariant
    ]
