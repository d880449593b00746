use Rattle.std.proofs.Common.{◌∙◌, [], Bool, ap, arith, map, subst, sym, take, ◌+◌}
use Rattle.std.proofs.lemmas.Simd.{map-map}
use Rattle.deny_cfg_build.specs.BuildingView.{building_view, script_glob_view}
use Rattle.deny_cfg_build.specs.Globs.{extension_text}
use Rattle.deny_spec.specs.Building.{ScriptGlob}
use Rattle.deny_base_lists.specs.TextMap.{TextFinMap}
use Rattle.deny_build.specs.private.Globs.{IsSetOf, script_texts}
use Rattle.deny_build.proofs.SetLemmas.{all_texts_taken, one_text_taken}
use Rattle.deny_build.proofs.glob_texts.script_set.Goals as goal
use Rattle.deny_spec.proofs.Texts.{no_texts}

pub loop-pattern-init : goal.loop-pattern-init
loop-pattern-init c = subst (λ (set : TextFinMap Bool). IsSetOf [] set) (sym c.new-set.ensures) no_texts

pub loop-pattern-preserved : goal.loop-pattern-preserved
loop-pattern-preserved c =
    let i = c.loop-pattern.pattern-index in
    let globs = c.as_slice-globs.result.now in
    subst (λ (set : TextFinMap Bool). IsSetOf (map extension_text (take (i + 1) globs)) set)
    (sym c.in_ok-insert.ensures.ok)
    (one_text_taken extension_text globs c.pattern-item.result i c.loop-pattern.set c.in_ok-extension_text.field-0
    (omega arith)
    c.pattern-item.is c.in_ok-extension_text.ensures c.loop-pattern.invariant)

pub returns : goal.returns
returns c =
    let globs = c.as_slice-globs.result.now in
    all_texts_taken extension_text globs c.loop-pattern.pattern-index c.loop-pattern.set
    (script_texts (building_view c.args.config.now)) (omega arith)
    (sym (map-map (λ (e : ScriptGlob). e.text) script_glob_view globs)
    ∙ ap (λ ps. map (λ (e : ScriptGlob). e.text) (map script_glob_view ps)) c.as_slice-globs.ensures)
    c.loop-pattern.invariant
