use Rattle.std.proofs.Common.{◌∙◌}
use Rattle.deny_cfg_build.specs.BuildingView.{building_view}
use Rattle.deny_krates.specs.Crates.{crate_view}
use Rattle.deny_build_bypass.proofs.ViewLemmas.{has_script, no_script_ok, script_ok_by_list}
use Rattle.deny_build_bypass.proofs.scripts.is_script_ok.Goals as goal

pub returns-then-is_none : goal.returns-then-is_none
returns-then-is_none c = λ place. c.if-is_none.true
    ∙ no_script_ok (building_view c.args.config.now) (crate_view place c.args.krate.now)
    (has_script place c.args.krate.now c.script_of.result (c.script_of.ensures place) ∙ c.if-is_none.ensures)

pub returns-else-is_none : goal.returns-else-is_none
returns-else-is_none c = λ place. c.may_have_script.ensures place
    ∙ script_ok_by_list (building_view c.args.config.now) (crate_view place c.args.krate.now)
    (has_script place c.args.krate.now c.script_of.result (c.script_of.ensures place) ∙ c.if-is_none.ensures)
