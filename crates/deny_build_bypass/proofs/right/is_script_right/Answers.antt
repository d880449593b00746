use Rattle.std.proofs.Common.{◌∙◌, Bor, ap, false, sym}
use Rattle.std.specs.Option.{option_map_or}
use Rattle.deny_base.specs.declared.span.Spanned.{Spanned}
use Rattle.deny_cfg_build.specs.BuildingView.{building_view}
use Rattle.deny_spec_report.specs.BuildScripts.{has_sum, script_found}
use Rattle.deny_cfg_tables.specs.declared.bans.cfg.checksum.Checksum.{Checksum}
use Rattle.deny_build_bypass.proofs.ViewLemmas.{right_by}
use Rattle.deny_build_bypass.proofs.right.is_script_right.Goals as goal

pub returns-in-Some : goal.returns-in-Some
returns-in-Some c = λ place. c.has_script_sum.ensures
    ∙ (ap (λ o. option_map_or
    (λ (sum : Bor (Spanned Checksum)). has_sum sum.now.value.0 (script_found c.args.contents.now)) o false)
    (sym c.in-Some.is)
    ∙ right_by place c.args.krate.now (building_view c.args.config.now) c.args.contents.now c.wanted_sum.result
    (c.wanted_sum.ensures place))

pub returns-in-None : goal.returns-in-None
returns-in-None c = λ place.
    ap (λ o. option_map_or (λ (sum : Bor (Spanned Checksum)). has_sum sum.now.value.0
    (script_found c.args.contents.now)) o false)
    (sym c.in-None.is)
    ∙ right_by place c.args.krate.now (building_view c.args.config.now) c.args.contents.now c.wanted_sum.result
    (c.wanted_sum.ensures place)
