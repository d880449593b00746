use Rattle.std.proofs.Common.{◌∙◌, List, ap}
use Rattle.std.specs.List.{list_any}
use Rattle.deny_cfg_build.specs.BuildingView.{building_view}
use Rattle.deny_krates.specs.Crates.{crate_view}
use Rattle.deny_base_lists.specs.declared.text.Text.{Text}
use Rattle.deny_spec.specs.Policy.{SpannedText}
use Rattle.deny_spec.specs.Text.{same_text}
use Rattle.deny_build_bypass.proofs.ViewLemmas.{some_enabled}
use Rattle.deny_build_bypass.proofs.required.has_required_enabled.Goals as goal

pub returns : goal.returns
returns c = λ place is. c.has_any.ensures
    ∙ (ap (λ (features : List Text). list_any
    (λ (w : SpannedText). list_any (same_text w.value) features) c.required_of.result.now)
    (c.enabled_of.ensures place is)
    ∙ some_enabled (building_view c.args.config.now) (crate_view place c.args.krate.now) c.required_of.result.now
    (c.required_of.ensures place))
