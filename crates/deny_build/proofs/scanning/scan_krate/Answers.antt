use Rattle.std.proofs.Common.{◌∙◌, ap, subst, sym}
use Rattle.std.specs.Prelude.{Contains}
use Rattle.deny_cfg_build.specs.BuildingView.{building_view}
use Rattle.deny_spec.specs.declared.package.Package.{Package}
use Rattle.deny_build_bypass.specs.Marks.{reached_by}
use Rattle.deny_spec_report.specs.BuildScripts.{is_checked, is_script_denied, is_walked}
use Rattle.deny_krates.specs.Crates.{crate_view}
use Rattle.deny_base_lists.proofs.Members.{from_there}
use Rattle.deny_spec.specs.Graph.{Graph}
use Rattle.deny_spec.specs.Unseen.{package_at}
use Rattle.deny_build.specs.ScanningOf.{packages_judged}
use Rattle.deny_build.proofs.JudgedLemmas.{checked_judged, denied_judged, walked_judged}
use Rattle.deny_build.proofs.scanning.scan_krate.Goals as goal

pub invariant_of-result : goal.invariant_of-result
invariant_of-result c =
    let a = c.args in
    let ctx = a.ctx.now in
    let b = building_view ctx.config.now in
    let graph = ctx.krates.now in
    let reached = reached_by ctx.marks.now in
    let cr = crate_view a.place a.krate.now in
    let packages = packages_judged ctx.alone ctx.packages.now in
    let by = c.checking-by.ensures in
    let seen = c.package_of-contents.result.now in
    let member = subst (λ (g : Graph). Contains g.crates cr) (sym by.krates)
    (from_there graph.crates a.place cr c.requires.placed) in
    record {
      placed = c.requires.placed;
      seen = c.package_of-contents.ensures;
      uses = c.used.ensures.is a.place;
      checks = c.is_checked.ensures
          ∙ ((λ i. is_checked (building_view (by.config i)) (by.krates i) (reached_by (by.marks i)) cr)
          ∙ checked_judged ctx.alone b graph reached cr);
      denies = c.is_script_denied.ensures member
          ∙ ((λ i. is_script_denied (building_view (by.config i)) (by.krates i) (reached_by (by.marks i)) seen cr)
          ∙ (ap (λ (p : Package). is_script_denied b graph reached p cr) c.package_of-contents.ensures
          ∙ denied_judged ctx.alone b graph reached (package_at packages a.place) cr));
      walks = c.is_walked.ensures member
          ∙ ((λ i. is_walked (building_view (by.config i)) (by.krates i) (reached_by (by.marks i)) seen cr)
          ∙ (ap (λ (p : Package). is_walked b graph reached p cr) c.package_of-contents.ensures
          ∙ walked_judged ctx.alone b graph reached (package_at packages a.place) cr));
    }
