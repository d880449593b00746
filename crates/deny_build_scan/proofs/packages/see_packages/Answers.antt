use Rattle.std.proofs.Common.{◌≤◌, [], List, Option, append-nil, arith, length, subst, sym, take}
use Rattle.std.specs.Option.{option_copied}
use Rattle.std.proofs.lemmas.List.{take_all}
use Rattle.deny_cfg_build.specs.BuildingView.{building_view}
use Rattle.deny_build_bypass.specs.Marks.{reached_by}
use Rattle.deny_krates.specs.Crates.{crate_view}
use Rattle.deny_krates.proofs.PlaceLemmas.{krate_at}
use Rattle.deny_base_lists.proofs.Members.{from_there}
use Rattle.deny_base_lists.proofs.Indices.{take-next}
use Rattle.deny_base_lists.proofs.Equalities.{subst₃}
use Rattle.deny_spec.specs.Graph.{Crate}
use Rattle.deny_build_scan.proofs.CallLemmas.{package_counted}
use Rattle.deny_build_scan.proofs.GraphLemmas.{all_long, prefix_apart, prefix_long, prefix_places}
use Rattle.deny_build_scan.proofs.PackagesLemmas.{AreSoFar, all_because, all_seen, all_wanted, caused_next}
use Rattle.deny_build_scan.proofs.PackagesLemmas.{so_far_more, so_far_none}
use Rattle.deny_base_disk.specs.Disk.{Files}
use Rattle.deny_build_scan.proofs.packages.see_packages.Goals as goal
use Rattle.deny_build_scan.specs.Seen.{IsPackageSeen}
use Rattle.deny_build_scan.specs.Wanted.{AreWantedOf}
use Rattle.deny_build_scan.specs.Why.{IsBecause}
use Rattle.deny_base_unread.proofs.AddedLemmas.{added_is, added_then, longer_is, longer_then}
use Rattle.deny_base_unread.proofs.CauseLemmas.{caused_none}
use Rattle.deny_base_unread.proofs.ManifestLemmas.{caused_added}
use Rattle.deny_base_disk.proofs.PieceLemmas.{later_same, later_then}
use Rattle.deny_base_unread.specs.Added.{added}

pub see_package-requires : goal.see_package-requires
see_package-requires g c = record {
  member = from_there c.args.krates.now.crates c.loop-place.place
      (crate_view c.loop-place.place c.krate-item.result)
      (krate_at c.args.krates.now c.krates-krate-items.result.now c.loop-place.place c.krate-item.result
      c.krates-krate-items.ensures.crates c.loop-place-test.true c.krate-item.is);
}

pub loop-place-init : goal.loop-place-init
loop-place-init g c =
    let a = c.args in
    let seen = g.D.PackageFiles.seen in
    let start = seen a.disk.now in
    let same = sym (append-nil a.unread.now) in
    record {
      so_far = so_far_none start.files (building_view a.config.now) (reached_by a.marks.now) (option_copied a.home)
          a.krates.now start start (added a.unread.now a.unread.now) c.new-packages.result
          (added_is a.unread.now [] a.unread.now same) c.new-packages.ensures;
      longer = longer_is a.unread.now [] a.unread.now same;
      caused = λ folder right. caused_added folder start start a.unread.now a.unread.now [] same
          (caused_none folder start start (later_same start));
      faults = omega arith;
      later = later_same start;
    }

pub loop-place-preserved : goal.loop-place-preserved
loop-place-preserved g c =
    let a = c.args in
    let l = c.loop-place in
    let seen = g.D.PackageFiles.seen in
    let start = seen a.disk.now in
    let mid = seen l.disk in
    let end = seen c.see_package.new.disk in
    let before = l.invariant in
    let step = c.in_ok-see_package.ensures in
    let later = c.see_package.ensures.later in
    let graph = a.krates.now in
    let ks = c.krates-krate-items.result.now in
    let same = c.krates-krate-items.ensures.crates in
    let inside = c.loop-place-test.true in
    let here = crate_view l.place c.krate-item.result in
    let at = krate_at graph ks l.place c.krate-item.result same inside c.krate-item.is in
    let b = building_view a.config.now in
    let reached = reached_by a.marks.now in
    let home = option_copied a.home in
    let p = c.in_ok-see_package.field-0 in
    let more = so_far_more start.files b reached home graph start mid end before.later later
    (added a.unread.now l.unread) (added l.unread c.see_package.new.unread) (take l.place graph.crates) here
    l.packages p before.so_far
    (λ folder right. subst (λ (told : Option Files). IsPackageSeen (IsBecause folder mid end) told b reached home graph
    (added l.unread c.see_package.new.unread) here p) before.later.files (step.seen folder right))
    (subst (λ (told : Option Files). AreWantedOf told b reached graph (added l.unread c.see_package.new.unread) here p)
    before.later.files step.wanted)
    (prefix_apart graph ks same l.place inside c.krates-krate-items.ensures.orderly.ids here at)
    (prefix_places graph ks same l.place inside) (sym (prefix_long graph ks same l.place inside)) in
    record {
      so_far = subst₃ (AreSoFar start.files b reached home graph start end)
          (sym (added_then a.unread.now l.unread c.see_package.new.unread before.longer step.longer))
          (sym (take-next graph.crates l.place here at)) (sym c.in_ok-push.ensures.ok) more;
      longer = longer_then a.unread.now l.unread c.see_package.new.unread before.longer step.longer;
      caused = λ folder right. caused_next folder start mid end a.unread.now l.unread c.see_package.new.unread
          before.later later before.longer step.longer (before.caused folder right)
          (step.caused folder (right here (from_there graph.crates l.place here at)));
      faults = package_counted start.faults mid.faults end.faults l.packages c.push.new.self p
          c.in_ok-push.ensures.ok before.faults step.faults;
      later = later_then start mid end before.later later;
    }

pub returns-clause-seen : goal.returns-clause-seen
returns-clause-seen g c =
    let a = c.args in
    let l = c.loop-place in
    let seen = g.D.PackageFiles.seen in
    let all : length a.krates.now.crates ≤ l.place =
    rw (all_long a.krates.now c.krates-krate-items.result.now c.krates-krate-items.ensures.crates)
    c.loop-place-test.false in
    all_seen (seen a.disk.now).files (building_view a.config.now) (reached_by a.marks.now) (option_copied a.home)
    a.krates.now (seen a.disk.now) (seen l.disk) (added a.unread.now l.unread) l.packages
    (subst (λ (cs : List Crate). AreSoFar (seen a.disk.now).files (building_view a.config.now) (reached_by a.marks.now)
    (option_copied a.home) a.krates.now (seen a.disk.now) (seen l.disk) (added a.unread.now l.unread) cs l.packages)
    (take_all l.place a.krates.now.crates all) l.invariant.so_far)

pub returns-clause-because : goal.returns-clause-because
returns-clause-because g c =
    let a = c.args in
    let l = c.loop-place in
    let seen = g.D.PackageFiles.seen in
    let all : length a.krates.now.crates ≤ l.place =
    rw (all_long a.krates.now c.krates-krate-items.result.now c.krates-krate-items.ensures.crates)
    c.loop-place-test.false in
    all_because (seen a.disk.now).files (building_view a.config.now) (reached_by a.marks.now) (option_copied a.home)
    a.krates.now (seen a.disk.now) (seen l.disk) (added a.unread.now l.unread) l.packages
    (subst (λ (cs : List Crate). AreSoFar (seen a.disk.now).files (building_view a.config.now) (reached_by a.marks.now)
    (option_copied a.home) a.krates.now (seen a.disk.now) (seen l.disk) (added a.unread.now l.unread) cs l.packages)
    (take_all l.place a.krates.now.crates all) l.invariant.so_far)

pub returns-clause-faults : goal.returns-clause-faults
returns-clause-faults g c = c.loop-place.invariant.faults

pub returns-clause-wanted : goal.returns-clause-wanted
returns-clause-wanted g c =
    let a = c.args in
    let l = c.loop-place in
    let seen = g.D.PackageFiles.seen in
    let all : length a.krates.now.crates ≤ l.place =
    rw (all_long a.krates.now c.krates-krate-items.result.now c.krates-krate-items.ensures.crates)
    c.loop-place-test.false in
    all_wanted (seen a.disk.now).files (building_view a.config.now) (reached_by a.marks.now) (option_copied a.home)
    a.krates.now (seen a.disk.now) (seen l.disk) (added a.unread.now l.unread) l.packages
    (subst (λ (cs : List Crate). AreSoFar (seen a.disk.now).files (building_view a.config.now) (reached_by a.marks.now)
    (option_copied a.home) a.krates.now (seen a.disk.now) (seen l.disk) (added a.unread.now l.unread) cs l.packages)
    (take_all l.place a.krates.now.crates all) l.invariant.so_far)

pub returns-in_err-see_package-clause-later : goal.returns-in_err-see_package-clause-later
returns-in_err-see_package-clause-later g c =
    later_then _ _ _ c.loop-place.invariant.later c.see_package.ensures.later

pub returns-in_err-push-clause-later : goal.returns-in_err-push-clause-later
returns-in_err-push-clause-later g c = later_then _ _ _ c.loop-place.invariant.later c.see_package.ensures.later
