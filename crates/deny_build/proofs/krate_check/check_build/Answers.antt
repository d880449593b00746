use Rattle.std.proofs.Common.{◌∙◌, ap, is_some}
use Rattle.std.specs.Prelude.{option_and_then, slice_get}
use Rattle.deny_build_bypass.specs.Marks.{reached_by}
use Rattle.deny_cfg_build.specs.BuildingView.{building_view}
use Rattle.deny_krates.specs.Crates.{crate_view}
use Rattle.deny_build.proofs.NumberLemmas.{some_number, used_at}
use Rattle.deny_build.proofs.krate_check.check_build.Goals as goal

pub returns-clause-used : goal.returns-clause-used
returns-clause-used g c =
    let b = building_view c.args.config.now in
    ap (option_and_then (slice_get b.bypass)) c.number_used.ensures
    ∙ used_at b c.args.krates.now (reached_by c.args.reach.now) (crate_view c.args.place c.args.krate.now)

pub returns-clause-some : goal.returns-clause-some
returns-clause-some g c = ap is_some c.number_used.ensures
    ∙ some_number (building_view c.args.config.now) c.args.krates.now (reached_by c.args.reach.now)
    (crate_view c.args.place c.args.krate.now)
