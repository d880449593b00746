use Rattle.std.proofs.Common.{◌≡◌, ◌++◌, [], List, append-nil, arith, map, subst, sym}
use Rattle.std.specs.List.{AllZip}
use Rattle.std.specs.Option.{option_copied}
use Rattle.std.proofs.lemmas.List.{take_all}
use Rattle.deny_cfg_build.specs.BuildingView.{building_view}
use Rattle.deny_krates.specs.Crates.{crate_view}
use Rattle.deny_build_scan.proofs.PackagesLemmas.{caused_next}
use Rattle.deny_build_scan.proofs.CallLemmas.{file_counted}
use Rattle.deny_build_scan.proofs.StepLemmas.{next_noted, next_seen}
use Rattle.deny_build_scan.proofs.files.see_each.Goals as goal
use Rattle.deny_build_scan.specs.Seen.{IsFileSeen}
use Rattle.deny_build_scan.specs.Why.{IsBecause}
use Rattle.deny_build_scan.specs.declared.order.FilePath.{FilePath}
use Rattle.deny_build_scan.specs.private.Entries.{entries_of_all, gaps_of}
use Rattle.deny_base_disk.proofs.PieceLemmas.{later_same, later_then}
use Rattle.deny_base_unread.proofs.AddedLemmas.{longer_is}
use Rattle.deny_base_unread.proofs.CauseLemmas.{caused_none}
use Rattle.deny_base_unread.proofs.ManifestLemmas.{caused_added}

pub loop-path-init : goal.loop-path-init
loop-path-init g c =
    let a = c.args in
    let start = g.D.PackageFiles.seen a.disk.now in
    let same = sym (append-nil a.unread.now) in
    record {
      seen = λ place folder. rw c.requires.none tt;
      noted = λ place. same;
      caused = λ folder. caused_added folder start start a.unread.now a.unread.now [] same
          (caused_none folder start start (later_same start));
      faults = omega arith;
      later = later_same start;
    }

pub loop-path-preserved : goal.loop-path-preserved
loop-path-preserved g c =
    let a = c.args in
    let l = c.loop-path in
    let seen = g.D.PackageFiles.seen in
    let start = seen a.disk.now in
    let mid = seen l.disk in
    let end = seen c.see_file.new.disk in
    let before = l.invariant in
    let step = c.in_ok-see_file.ensures in
    let later = c.see_file.ensures.later in
    let b = building_view a.config.now in
    let home = option_copied a.home in
    record {
      seen = λ place folder. next_seen b home (crate_view place a.krate.now) start mid end before.later later
          a.paths.now l.path-index c.path-item.result c.loop-path-test.true c.path-item.is l.files c.push.new.self
          c.in_ok-see_file.field-0 c.in_ok-push.ensures.ok c.as_str.result.now c.as_str.ensures folder
          (before.seen place folder) (step.seen place folder);
      noted = λ place. next_noted b home (crate_view place a.krate.now) start mid end before.later later
          a.paths.now l.path-index c.path-item.result c.loop-path-test.true c.path-item.is l.files c.push.new.self
          c.in_ok-see_file.field-0 c.in_ok-push.ensures.ok c.as_str.result.now c.as_str.ensures _ a.unread.now l.unread
          c.see_file.new.unread (before.seen place (λ k. [])) (before.noted place) (step.noted place);
      caused = λ folder. caused_next folder start mid end a.unread.now l.unread c.see_file.new.unread before.later later
          (longer_is a.unread.now _ l.unread (before.noted 0))
          (longer_is l.unread _ c.see_file.new.unread (step.noted 0))
          (before.caused folder) (step.caused folder);
      faults = file_counted start.faults mid.faults end.faults l.files c.push.new.self c.in_ok-see_file.field-0
          c.in_ok-push.ensures.ok before.faults step.faults;
      later = later_then start mid end before.later later;
    }

pub returns-clause-seen : goal.returns-clause-seen
returns-clause-seen g c = λ place folder.
    let a = c.args in
    let l = c.loop-path in
    let seen = g.D.PackageFiles.seen in
    subst (λ (ps : List FilePath). AllZip (λ path file. IsFileSeen (IsBecause folder (seen a.disk.now) (seen l.disk))
    (seen a.disk.now).files (building_view a.config.now) (option_copied a.home) (gaps_of file)
    (crate_view place a.krate.now) path file) (map (λ (p : FilePath). p.path) ps) l.files)
    (take_all l.path-index a.paths.now c.loop-path-test.false) (l.invariant.seen place folder)

pub returns-clause-noted : goal.returns-clause-noted
returns-clause-noted g c = λ place.
    let a = c.args in
    let l = c.loop-path in
    subst (λ (ps : List FilePath). l.unread ≡ a.unread.now ++ entries_of_all (building_view a.config.now)
    (crate_view place a.krate.now) (map (λ (p : FilePath). p.path) ps) l.files)
    (take_all l.path-index a.paths.now c.loop-path-test.false) (l.invariant.noted place)

pub returns-in_err-see_file-clause-later : goal.returns-in_err-see_file-clause-later
returns-in_err-see_file-clause-later g c = later_then _ _ _ c.loop-path.invariant.later c.see_file.ensures.later

pub returns-in_err-push-clause-later : goal.returns-in_err-push-clause-later
returns-in_err-push-clause-later g c = later_then _ _ _ c.loop-path.invariant.later c.see_file.ensures.later

pub returns-clause-caused : goal.returns-clause-caused
returns-clause-caused g c = λ folder. c.loop-path.invariant.caused folder

pub returns-clause-faults : goal.returns-clause-faults
returns-clause-faults g c = c.loop-path.invariant.faults
