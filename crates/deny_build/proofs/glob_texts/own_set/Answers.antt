use Rattle.std.proofs.Common.{◌∙◌, [], Bor, Bool, ap, arith, map, option_map, subst, sym, take, ◌+◌}
use Rattle.std.proofs.lemmas.Simd.{map-map}
use Rattle.deny_cfg_build.specs.BuildingView.{bypass_view, words_of}
use Rattle.deny_cfg_build.specs.declared.valid.ValidBypass.{ValidBypass}
use Rattle.deny_base_lists.specs.TextMap.{TextFinMap}
use Rattle.deny_spec.specs.Policy.{SpannedText}
use Rattle.deny_spec.proofs.Texts.{no_texts}
use Rattle.deny_build.specs.private.Globs.{IsSetOf, own_texts, pattern_text}
use Rattle.deny_build.proofs.SetLemmas.{all_texts_taken, one_text_taken}
use Rattle.deny_build.proofs.glob_texts.own_set.Goals as goal

pub loop-pattern-init : goal.loop-pattern-init
loop-pattern-init c = subst (λ (set : TextFinMap Bool). IsSetOf [] set) (sym c.new-set.ensures) no_texts

pub loop-pattern-preserved : goal.loop-pattern-preserved
loop-pattern-preserved c =
    let i = c.loop-pattern.pattern-index in
    let globs = c.globs_if-globs.result.now in
    subst (λ (set : TextFinMap Bool). IsSetOf (map pattern_text (take (i + 1) globs)) set)
    (sym c.in_ok-insert.ensures.ok)
    (one_text_taken pattern_text globs c.pattern-item.result i c.loop-pattern.set c.in_ok-clone.field-0 (omega arith)
    c.pattern-item.is (c.in_ok-clone.ensures.cases
    ∙ ap (λ (w : SpannedText). w.value) c.words_of.ensures) c.loop-pattern.invariant)

pub returns : goal.returns
returns c =
    let globs = c.globs_if-globs.result.now in
    all_texts_taken pattern_text globs c.loop-pattern.pattern-index c.loop-pattern.set
    (own_texts (option_map (λ (y : Bor ValidBypass). bypass_view y.now) c.args.bypass)) (omega arith)
    (sym (map-map (λ (w : SpannedText). w.value) words_of globs)
    ∙ ap (map (λ (w : SpannedText). w.value)) c.globs_if-globs.ensures)
    c.loop-pattern.invariant
