use Rattle.std.proofs.Common.{◌∙◌, Bor, ap, option_map, sym}
use Rattle.std.specs.Prelude.{option_and_then}
use Rattle.deny_cfg_build.specs.BuildingView.{building_view, bypass_view}
use Rattle.deny_cfg_build.specs.declared.valid.ValidBypass.{ValidBypass}
use Rattle.deny_spec.specs.Building.{Bypass}
use Rattle.deny_krates.specs.Crates.{crate_view}
use Rattle.deny_build_bypass.proofs.ViewLemmas.{has_script, no_sum_without_script, sum_of_used}
use Rattle.deny_build_bypass.proofs.bypass.wanted_sum.Goals as goal

pub returns-then-is_none : goal.returns-then-is_none
returns-then-is_none c = λ place.
    no_sum_without_script (building_view c.args.config.now) (crate_view place c.args.krate.now)
    (has_script place c.args.krate.now c.script_of.result (c.script_of.ensures place) ∙ c.if-is_none.ensures)

pub returns-in-Some : goal.returns-in-Some
returns-in-Some c = λ place. c.script_sum.ensures
    ∙ (ap (option_and_then (λ (y : Bypass). y.script))
    (ap (option_map (λ (y : Bor ValidBypass). bypass_view y.now)) (sym c.in-Some.is) ∙ c.used.ensures.is place)
    ∙ sum_of_used (building_view c.args.config.now) (crate_view place c.args.krate.now)
    (has_script place c.args.krate.now c.script_of.result (c.script_of.ensures place) ∙ c.if-is_none.ensures))

pub returns-in-None : goal.returns-in-None
returns-in-None c = λ place.
    ap (option_and_then (λ (y : Bypass). y.script))
    (ap (option_map (λ (y : Bor ValidBypass). bypass_view y.now)) (sym c.in-None.is) ∙ c.used.ensures.is place)
    ∙ sum_of_used (building_view c.args.config.now) (crate_view place c.args.krate.now)
    (has_script place c.args.krate.now c.script_of.result (c.script_of.ensures place) ∙ c.if-is_none.ensures)
