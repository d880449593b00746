use Rattle.std.proofs.Common.{◌+◌, ◌≤◌, Some, option_map, refl, subst, sym}
use Rattle.std.specs.Option.{option_copied}
use Rattle.deny_cfg_build.specs.BuildingView.{building_view, bypass_view}
use Rattle.deny_krates.specs.Crates.{crate_view}
use Rattle.deny_base_lists.proofs.Results.{if_ok_then}
use Rattle.deny_build_scan.proofs.StepLemmas.{file_noted, file_seen}
use Rattle.deny_spec.specs.declared.package.PackageFile.{PackageFile}
use Rattle.deny_build_scan.specs.Failures.{calls_of}
use Rattle.deny_build_scan.proofs.file.see_file.Goals as goal
use Rattle.deny_build_scan.specs.Why.{IsBecause}

pub returns-clause-seen : goal.returns-clause-seen
returns-clause-seen g c = if_ok_then c.file_of.result c.file_of.ensures (λ file is place folder.
    let a = c.args in
    let seen = g.D.PackageFiles.seen in
    file_seen (building_view a.config.now) (crate_view place a.krate.now)
    (option_map bypass_view (option_copied a.allowed.now.bypass)) (c.requires.used place) a.path.now a.root.now
    c.below-rest.result.now c.requires.root c.below-rest.ensures c.in_ok-decision.decision c.in_ok-decision.ensures
    (option_copied a.home) c.in_ok-found.found file is (IsBecause folder (seen a.disk.now) (seen c.find.new.disk))
    (seen a.disk.now).files (c.in_ok-found.ensures.found place folder))

pub returns-clause-noted : goal.returns-clause-noted
returns-clause-noted g c = if_ok_then c.file_of.result c.file_of.ensures (λ file is place.
    let a = c.args in
    file_noted (building_view a.config.now) (crate_view place a.krate.now)
    (option_map bypass_view (option_copied a.allowed.now.bypass)) (c.requires.used place) a.path.now a.root.now
    c.below-rest.result.now c.requires.root c.below-rest.ensures c.in_ok-decision.decision c.in_ok-decision.ensures
    (option_copied a.home) c.in_ok-found.found file is (Some a.krate.now.id) a.unread.now c.find.new.unread refl
    c.in_ok-found.ensures.noted)

pub returns-clause-caused : goal.returns-clause-caused
returns-clause-caused g c =
    if_ok_then c.file_of.result c.file_of.ensures (λ file is folder. c.in_ok-found.ensures.caused folder)

pub returns-clause-faults : goal.returns-clause-faults
returns-clause-faults g c = if_ok_then c.file_of.result c.file_of.ensures (λ file is.
    let seen = g.D.PackageFiles.seen in
    subst (λ (f : PackageFile). (seen c.find.new.disk).faults
    ≤ (seen c.args.disk.now).faults + calls_of f.seen.found) (sym is) c.in_ok-found.ensures.faults)
