use Rattle.std.proofs.Common.{◌≡◌, ◌++◌, drop, map}
use Rattle.std.specs.Prelude.{filter, not}
use Rattle.deny_base.specs.declared.code.Code.TheVariants.{UnmatchedBypass}
use Rattle.deny_cfg_build.specs.BuildingView.{bypass_view}
use Rattle.deny_spec_report.specs.BuildScripts.{bypass_span}
use Rattle.deny_spec_report.specs.Packages.{is_used}
use Rattle.deny_spec.specs.Keys.{unused_key}
use Rattle.deny_build.specs.ScanningOf.{scanning_of}
use Rattle.deny_build.proofs.build_keys.add_unmatched_bypass_keys.Given as goal

abbrev pub invariant-loop-bypass : goal.invariant-loop-bypass
invariant-loop-bypass l =
    l.keys ++ map (λ y. unused_key UnmatchedBypass (bypass_span y))
    (filter (λ y. not (is_used (scanning_of l.ctx) y)) (map bypass_view (drop l.bypass-index l.entries)))
    ≡ l.fn.keys ++ map (λ y. unused_key UnmatchedBypass (bypass_span y))
    (filter (λ y. not (is_used (scanning_of l.ctx) y)) (map bypass_view l.entries))
