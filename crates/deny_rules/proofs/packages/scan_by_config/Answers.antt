use Rattle.std.proofs.Common.{◌≡◌, Bool, List, ap, subst}
use Rattle.std.specs.Prelude.{option_copied}
use Rattle.deny_cfg_build.specs.BuildingView.{building_view}
use Rattle.deny_build_bypass.specs.Marks.{reached_by}
use Rattle.deny_build_scan.specs.Seen.{ArePackagesSeen, ArePackagesSeenBy}
use Rattle.deny_build_scan.specs.Wanted.{AreWantedPackages}
use Rattle.deny_build_scan.specs.Why.{IsBecause}
use Rattle.deny_base_unread.specs.Added.{added}
use Rattle.deny_base_unread.specs.Causes.{AreCaused}
use Rattle.deny_base.specs.declared.unread.Unread.{Unread}
use Rattle.deny_rules.proofs.packages.scan_by_config.Goals as goal

pub returns-clause-seen : goal.returns-clause-seen
returns-clause-seen g c =
    let krates = c.args.krates.now in
    let b = building_view c.args.config.now in
    let home = option_copied c.args.home in
    let told = (g.D.PackageFiles.seen c.args.disk.now).files in
    let packages = c.in_ok-packages.packages in
    let us = c.see_packages.new.unread in
    let same : added c.new-unread.result us ≡ us = ap (λ (old : List Unread). added old us) c.new-unread.ensures in
    record {
      reached = reached_by c.args.reached.items;
      reports = c.requires.reached.each;
      seen = subst (λ (marks : List Bool). ArePackagesSeen told b (reached_by marks) home krates us packages)
          c.as_slice.ensures.value
          (subst (λ (vs : List Unread). ArePackagesSeen told b
          (reached_by c.as_slice.result.now) home krates vs packages)
          same c.in_ok-packages.ensures.seen);
      wanted = subst (λ (marks : List Bool). AreWantedPackages told b (reached_by marks) krates us packages us)
          c.as_slice.ensures.value
          (subst (λ (vs : List Unread). AreWantedPackages told b
          (reached_by c.as_slice.result.now) krates vs packages vs)
          same c.in_ok-packages.ensures.wanted);
    }

pub returns-clause-causes : goal.returns-clause-causes
returns-clause-causes g c =
    let krates = c.args.krates.now in
    let b = building_view c.args.config.now in
    let home = option_copied c.args.home in
    let old = g.D.PackageFiles.seen c.args.disk.now in
    let new = g.D.PackageFiles.seen c.see_packages.new.disk in
    let packages = c.in_ok-packages.packages in
    let us = c.see_packages.new.unread in
    let same : added c.new-unread.result us ≡ us = ap (λ (old : List Unread). added old us) c.new-unread.ensures in
    record {
      reached = reached_by c.args.reached.items;
      reports = c.requires.reached.each;
      because = λ folder are.
          subst (λ (marks : List Bool). ArePackagesSeenBy (IsBecause folder old new) old.files b (reached_by marks) home
          krates us packages) c.as_slice.ensures.value
          (subst (λ (vs : List Unread). ArePackagesSeenBy (IsBecause folder old new) old.files b
          (reached_by c.as_slice.result.now) home krates vs packages) same
          (c.in_ok-packages.ensures.because folder are));
    }

pub returns-clause-caused : goal.returns-clause-caused
returns-clause-caused g c = λ folder are.
    let us = c.see_packages.new.unread in
    let same : added c.new-unread.result us ≡ us = ap (λ (old : List Unread). added old us) c.new-unread.ensures in
    subst (λ (vs : List Unread). AreCaused folder (g.D.PackageFiles.seen c.args.disk.now)
    (g.D.PackageFiles.seen c.see_packages.new.disk) vs) same (c.in_ok-packages.ensures.caused folder are)
