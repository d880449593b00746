use Rattle.std.proofs.Common.{◌∙◌, ap, not}
use Rattle.deny_cfg_build.specs.BuildingView.{building_view}
use Rattle.deny_krates.specs.Crates.{crate_view}
use Rattle.deny_build_bypass.proofs.ViewLemmas.{fails_wrong, passes_right}
use Rattle.deny_build_bypass.proofs.right.passes_by_script.Goals as goal

pub returns-then-is_script_right : goal.returns-then-is_script_right
returns-then-is_script_right c = λ place is. ap not (c.has_required_enabled.ensures place is)
    ∙ passes_right (building_view c.args.config.now) c.args.contents.now (crate_view place c.args.krate.now)
    (c.if-is_script_right.ensures place)

pub returns-else-is_script_right : goal.returns-else-is_script_right
returns-else-is_script_right c = λ place is. c.if-is_script_right.false
    ∙ fails_wrong (building_view c.args.config.now) c.args.contents.now (crate_view place c.args.krate.now)
    (c.if-is_script_right.ensures place)
