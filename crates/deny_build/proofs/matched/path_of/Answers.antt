use Rattle.std.proofs.Common.{◌≡◌, ◌∙◌, Bor, Option, ap, option_map, sym}
use Rattle.std.specs.Option.{option_copied}
use Rattle.std.proofs.lemmas.Result.{IfOk-weaker}
use Rattle.deny_base_lists.proofs.Options.{option_map-now}
use Rattle.deny_cfg_build.specs.BuildingView.{bypass_view, path_view}
use Rattle.deny_cfg_build.specs.declared.valid.ValidBypass.{ValidBypass}
use Rattle.deny_spec.specs.Building.{Bypass}
use Rattle.deny_spec_report.specs.PackageFiles.{path_of_used}
use Rattle.deny_cfg_tables.specs.declared.bans.cfg.bypass.BypassPath.{BypassPath}
use Rattle.deny_build.proofs.matched.path_of.Goals as goal

pub returns : goal.returns
returns c =
    let bypass = c.args.allowed.now.bypass in
    let path = c.args.path.now in
    IfOk-weaker c.path_of.result
    (λ found. option_map (λ (a : Bor BypassPath). path_view a.now) found
    ≡ path_of_used (option_map bypass_view (option_copied bypass)) path)
    (λ found. option_map (λ (a : Bor BypassPath). path_view a.now) found
    ≡ path_of_used (option_map (λ (y : Bor ValidBypass). bypass_view y.now) bypass) path)
    (λ found is. is ∙ ap (λ (o : Option Bypass). path_of_used o path) (sym (option_map-now bypass_view bypass)))
    c.path_of.ensures
