use Rattle.std.proofs.Common.{◌≡◌, ◌++◌, drop, map}
use Rattle.std.specs.List.{flat_map}
use Rattle.deny_cfg_build.specs.BuildingView.{bypass_view}
use Rattle.deny_spec_report.specs.Packages.{bypass_hits_of}
use Rattle.deny_build.specs.ScanningOf.{scanning_of}
use Rattle.deny_build.proofs.hits.hits_by.Given as goal

abbrev pub invariant-loop-bypass : goal.invariant-loop-bypass
invariant-loop-bypass l =
    l.hits ++ flat_map (bypass_hits_of (scanning_of l.ctx)) (map bypass_view (drop l.bypass-index l.entries))
    ≡ flat_map (bypass_hits_of (scanning_of l.ctx)) (map bypass_view l.entries)
