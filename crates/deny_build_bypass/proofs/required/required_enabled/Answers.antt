use Rattle.std.proofs.Common.{◌≡◌, ◌∙◌, Bor, List, ap, filter, map}
use Rattle.std.specs.Prelude.{Contains}
use Rattle.std.specs.List.{list_any}
use Rattle.std.proofs.lemmas.Result.{IfOk-weaker}
use Rattle.deny_cfg_build.specs.BuildingView.{building_view}
use Rattle.deny_spec_report.specs.BuildScripts.{required_enabled}
use Rattle.deny_krates.specs.Crates.{crate_view}
use Rattle.deny_base_lists.specs.declared.text.Text.{Text}
use Rattle.deny_spec.specs.Policy.{SpannedText}
use Rattle.deny_spec.specs.Text.{same_text}
use Rattle.deny_build_bypass.proofs.ViewLemmas.{enabled_are}
use Rattle.deny_build_bypass.proofs.required.required_enabled.Goals as goal

pub returns : goal.returns
returns c =
    let b = building_view c.args.config.now in
    let required = c.required_of.result.now in
    IfOk-weaker c.kept_of.result
    (λ kept. map (λ (w : Bor SpannedText). w.now) kept.items
    ≡ filter (λ (w : SpannedText). list_any (same_text w.value) c.enabled_of.result.now) required)
    (λ kept. (place : _) → Contains c.args.krates.now.crates (crate_view place c.args.krate.now)
    → map (λ (w : Bor SpannedText). w.now) kept.items ≡ required_enabled b (crate_view place c.args.krate.now))
    (λ kept are. λ place is. are
    ∙ (ap (λ (features : List Text). filter (λ (w : SpannedText). list_any (same_text w.value) features) required)
    (c.enabled_of.ensures place is)
    ∙ enabled_are b (crate_view place c.args.krate.now) required (c.required_of.ensures place)))
    c.kept_of.ensures
