use Rattle.std.proofs.Common.{◌∙◌, ◌++◌, List, ap, filter, map, not, refl}
use Rattle.deny_base.specs.declared.code.Code.TheVariants.{UnmatchedBypass}
use Rattle.deny_base.specs.declared.key.Key.{Key}
use Rattle.deny_cfg_build.specs.BuildingView.{bypass_view}
use Rattle.deny_cfg_build.specs.declared.valid.ValidBypass.{ValidBypass}
use Rattle.deny_spec.specs.Building.{Bypass}
use Rattle.deny_spec_report.specs.BuildScripts.{bypass_span}
use Rattle.deny_spec_report.specs.Packages.{is_used, unmatched_bypass_keys}
use Rattle.deny_base_lists.proofs.Loops.{pushed_all}
use Rattle.deny_spec.specs.Keys.{unused_key}
use Rattle.deny_build.specs.ScanningOf.{scanning_of}
use Rattle.deny_build.proofs.build_keys.add_unmatched_bypass_keys.Goals as goal

pub returns : goal.returns
unfolding unmatched_bypass_keys
returns c =
    let l = scanning_of c.args.ctx.now in
    let missed : List ValidBypass → List Key = λ ys. map (λ (y : Bypass). unused_key UnmatchedBypass (bypass_span y))
    (filter (λ (y : Bypass). not (is_used l y)) (map bypass_view ys)) in
    pushed_all missed c.as_slice-entries.result.now c.loop-bypass.bypass-index c.loop-bypass.keys
    (c.args.keys.now ++ missed c.as_slice-entries.result.now) refl c.loop-bypass-test.false c.loop-bypass.invariant
    ∙ ap (λ (ys : List ValidBypass). c.args.keys.now ++ missed ys) c.as_slice-entries.ensures
