use Rattle.std.proofs.Common.{◌≡◌, ◌∙◌, [], ap, arith, refl, sym, true}
use Rattle.std.specs.Option.{option_copied}
use Rattle.deny_cfg_build.specs.BuildingView.{building_view}
use Rattle.deny_build_bypass.specs.Marks.{reached_by}
use Rattle.deny_spec_report.specs.BuildScripts.{is_walked}
use Rattle.deny_krates.specs.Crates.{crate_view}
use Rattle.deny_build_scan.specs.Failures.{calls_for_script}
use Rattle.deny_build_scan.proofs.Checks.{walks_by_script}
use Rattle.deny_build_scan.proofs.PackageLemmas.{alone_seen, alone_wanted, walked_seen, walked_wanted}
use Rattle.deny_build_scan.proofs.PackagesLemmas.{caused_next}
use Rattle.deny_build_scan.proofs.package.see_package.Goals as goal
use Rattle.deny_base_unread.proofs.AddedLemmas.{longer_is, longer_then}
use Rattle.deny_base_disk.proofs.PieceLemmas.{later_same, later_then}

pub returns-then-not-is_walked-clause-seen : goal.returns-then-not-is_walked-clause-seen
returns-then-not-is_walked-clause-seen g c = λ folder right.
    let a = c.args in
    let seen = g.D.PackageFiles.seen in
    let cr = crate_view a.place a.krate.now in
    let b = building_view a.by.now.config.now in
    let reached = reached_by a.by.now.marks.now in
    let graph = a.by.now.krates.now in
    let s = c.in_ok-script.ensures in
    alone_seen cr b reached graph (option_copied a.home) folder (seen a.disk.now) (seen c.see_script.new.disk)
    (seen c.see_script.new.disk) c.see_script.ensures.later (later_same (seen c.see_script.new.disk))
    c.in_ok-script.script a.unread.now c.see_script.new.unread s.noted _ refl
    (record { unlisted = c.new.ensures; files = c.new-2.ensures })
    (sym (c.is_walked.ensures c.requires.member) ∙ c.if-not-is_walked.true) (s.seen folder)

pub returns-then-not-is_walked-clause-wanted : goal.returns-then-not-is_walked-clause-wanted
returns-then-not-is_walked-clause-wanted g c =
    let a = c.args in
    let seen = g.D.PackageFiles.seen in
    let cr = crate_view a.place a.krate.now in
    let b = building_view a.by.now.config.now in
    let reached = reached_by a.by.now.marks.now in
    let graph = a.by.now.krates.now in
    alone_wanted cr b reached graph (option_copied a.home) (λ k. []) (seen a.disk.now) (seen c.see_script.new.disk)
    (seen c.see_script.new.disk) c.see_script.ensures.later (later_same (seen c.see_script.new.disk))
    c.in_ok-script.script a.unread.now c.see_script.new.unread c.in_ok-script.ensures.noted _

pub returns-then-not-is_walked-clause-longer : goal.returns-then-not-is_walked-clause-longer
returns-then-not-is_walked-clause-longer g c =
    longer_is c.args.unread.now _ c.see_script.new.unread c.in_ok-script.ensures.noted

pub returns-then-not-is_walked-clause-faults : goal.returns-then-not-is_walked-clause-faults
returns-then-not-is_walked-clause-faults g c = omega (arith, c.in_ok-script.ensures.faults)

pub returns-then-not-is_walked-clause-caused : goal.returns-then-not-is_walked-clause-caused
returns-then-not-is_walked-clause-caused g c = λ folder right. c.in_ok-script.ensures.caused folder

pub returns-clause-seen : goal.returns-clause-seen
returns-clause-seen g c = λ folder right.
    let a = c.args in
    let seen = g.D.PackageFiles.seen in
    let cr = crate_view a.place a.krate.now in
    let b = building_view a.by.now.config.now in
    let reached = reached_by a.by.now.marks.now in
    let graph = a.by.now.krates.now in
    let s = c.in_ok-script.ensures in
    let w = c.in_ok-walk.ensures in
    let contents = c.walk.new.contents in
    let walks : is_walked b graph reached contents cr ≡ true =
    walks_by_script b graph cr reached contents _ w.script
    ∙ (sym (c.is_walked.ensures c.requires.member) ∙ c.if-not-is_walked.false) in
    walked_seen cr b reached graph (option_copied a.home) folder (seen a.disk.now) (seen c.see_script.new.disk)
    (seen c.walk.new.disk) c.see_script.ensures.later c.walk.ensures.later c.in_ok-script.script a.unread.now
    c.see_script.new.unread s.noted c.walk.new.unread contents w.longer w.script walks (s.seen folder)
    (w.seen a.place folder right) (w.wanted a.place)

pub returns-clause-wanted : goal.returns-clause-wanted
returns-clause-wanted g c =
    let a = c.args in
    let seen = g.D.PackageFiles.seen in
    let cr = crate_view a.place a.krate.now in
    let b = building_view a.by.now.config.now in
    let reached = reached_by a.by.now.marks.now in
    let graph = a.by.now.krates.now in
    let w = c.in_ok-walk.ensures in
    let contents = c.walk.new.contents in
    let walks : is_walked b graph reached contents cr ≡ true =
    walks_by_script b graph cr reached contents _ w.script
    ∙ (sym (c.is_walked.ensures c.requires.member) ∙ c.if-not-is_walked.false) in
    walked_wanted cr b reached graph (option_copied a.home) (λ k. []) (seen a.disk.now) (seen c.see_script.new.disk)
    (seen c.walk.new.disk) c.see_script.ensures.later c.walk.ensures.later c.in_ok-script.script a.unread.now
    c.see_script.new.unread c.in_ok-script.ensures.noted c.walk.new.unread contents w.longer walks (w.wanted a.place)

pub returns-clause-longer : goal.returns-clause-longer
returns-clause-longer g c =
    longer_then c.args.unread.now c.see_script.new.unread c.walk.new.unread
    (longer_is c.args.unread.now _ c.see_script.new.unread c.in_ok-script.ensures.noted) c.in_ok-walk.ensures.longer

pub returns-clause-faults : goal.returns-clause-faults
returns-clause-faults g c = omega (
  arith,
  c.in_ok-script.ensures.faults,
  c.in_ok-walk.ensures.faults,
  ap calls_for_script c.in_ok-walk.ensures.script,
)

pub returns-clause-caused : goal.returns-clause-caused
returns-clause-caused g c = λ folder right.
    let seen = g.D.PackageFiles.seen in
    caused_next folder (seen c.args.disk.now) (seen c.see_script.new.disk) (seen c.walk.new.disk) c.args.unread.now
    c.see_script.new.unread c.walk.new.unread c.see_script.ensures.later c.walk.ensures.later
    (longer_is c.args.unread.now _ c.see_script.new.unread c.in_ok-script.ensures.noted) c.in_ok-walk.ensures.longer
    (c.in_ok-script.ensures.caused folder) (c.in_ok-walk.ensures.caused c.args.place folder right)

pub returns-in_err-walk-clause-later : goal.returns-in_err-walk-clause-later
returns-in_err-walk-clause-later g c = later_then _ _ _ c.see_script.ensures.later c.walk.ensures.later

pub returns-clause-later : goal.returns-clause-later
returns-clause-later g c = later_then _ _ _ c.see_script.ensures.later c.walk.ensures.later
