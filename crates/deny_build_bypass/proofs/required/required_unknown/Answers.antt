use Rattle.std.proofs.Common.{◌≡◌, ◌∙◌, Bor, filter, is_some, map, not}
use Rattle.std.specs.FinMap as finite
use Rattle.std.proofs.lemmas.Result.{IfOk-weaker}
use Rattle.deny_cfg_build.specs.BuildingView.{building_view}
use Rattle.deny_spec_report.specs.BuildScripts.{required_unknown}
use Rattle.deny_krates.specs.Crates.{crate_view}
use Rattle.deny_spec.specs.Policy.{SpannedText}
use Rattle.deny_build_bypass.proofs.ViewLemmas.{unknown_are}
use Rattle.deny_build_bypass.proofs.required.required_unknown.Goals as goal

pub returns : goal.returns
returns c =
    let b = building_view c.args.config.now in
    let krate = c.args.krate.now in
    let required = c.required_of.result.now in
    IfOk-weaker c.unknown_of.result
    (λ kept. map (λ (w : Bor SpannedText). w.now) kept.items
    ≡ filter (λ (w : SpannedText). not (is_some (finite.get krate.features w.value))) required)
    (λ kept. (place : _) → map (λ (w : Bor SpannedText). w.now) kept.items
    ≡ required_unknown b (crate_view place krate))
    (λ kept are. λ place. are ∙ unknown_are b (crate_view place krate) required (c.required_of.ensures place))
    c.unknown_of.ensures
