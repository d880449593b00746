use Rattle.std.proofs.Common.{◌∙◌, Bor, Option, ap, option_map, sym}
use Rattle.std.specs.Option.{option_copied}
use Rattle.deny_cfg_build.specs.BuildingView.{bypass_view}
use Rattle.deny_cfg_build.specs.declared.valid.ValidBypass.{ValidBypass}
use Rattle.deny_base_disk.proofs.PieceLemmas.{later_same}
use Rattle.deny_build_scan.proofs.files.see_files.Goals as goal

pub see_each-requires-clause-used : goal.see_each-requires-clause-used
see_each-requires-clause-used g c = λ place. c.requires.used place
    ∙ ap (λ (o : Option (Bor ValidBypass)). option_map bypass_view (option_copied o)) (sym c.in_ok-allowed.ensures)

pub see_each-requires-clause-none : goal.see_each-requires-clause-none
see_each-requires-clause-none g c = c.in_ok-files.ensures

pub returns-in_err-allowed-clause-later : goal.returns-in_err-allowed-clause-later
returns-in_err-allowed-clause-later g c = later_same (g.D.PackageFiles.seen c.args.disk.now)

pub returns-in_err-files-clause-later : goal.returns-in_err-files-clause-later
returns-in_err-files-clause-later g c = later_same (g.D.PackageFiles.seen c.args.disk.now)

pub returns-in_err-see_each-clause-later : goal.returns-in_err-see_each-clause-later
returns-in_err-see_each-clause-later g c = c.see_each.ensures.later

pub returns-clause-seen : goal.returns-clause-seen
returns-clause-seen g c = c.in_ok-see_each.ensures.seen

pub returns-clause-noted : goal.returns-clause-noted
returns-clause-noted g c = c.in_ok-see_each.ensures.noted

pub returns-clause-caused : goal.returns-clause-caused
returns-clause-caused g c = c.in_ok-see_each.ensures.caused

pub returns-clause-faults : goal.returns-clause-faults
returns-clause-faults g c = c.in_ok-see_each.ensures.faults

pub returns-clause-later : goal.returns-clause-later
returns-clause-later g c = c.see_each.ensures.later
