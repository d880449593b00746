use Rattle.std.proofs.Common.{OnOk, Option, subst, sym}
use Rattle.std.specs.Prelude.{Contains, option_map}
use Rattle.deny_base_lists.specs.Ascending.{Adds}
use Rattle.deny_cfg_build.specs.BuildingView.{building_view}
use Rattle.deny_cfg_build.specs.declared.valid.ValidBuildConfig.{ValidBuildConfig}
use Rattle.deny_spec_report.specs.Packages.{Scanning, build_keys}
use Rattle.deny_rules.specs.private.OfPackages.{IsOfPackages}
use Rattle.deny_rules.proofs.packages.add_package_keys.Goals as goal

pub returns-in-Some : goal.returns-in-Some
returns-in-Some c =
    let scan = c.args.scan.now in
    let old = c.args.keys.now in
    let new = c.add_build_keys.new.keys in
    subst (λ (build : Option ValidBuildConfig). OnOk c.add_build_keys.result (Adds
    (IsOfPackages (option_map building_view build) c.args.krates.now scan.reached.items scan.packages) old new))
    (sym c.in-Some.is)
    (subst (λ (l : Scanning). OnOk c.add_build_keys.result (Adds (Contains (build_keys l)) old new))
    c.build_ctx.ensures c.add_build_keys.ensures)
