use Rattle.std.proofs.Common.{◌≡◌, ◌++◌, drop, map}
use Rattle.deny_cfg.specs.PolicyView.{past_waiver_view}
use Rattle.deny_cfg.specs.Warnings.{expired_diag}
use Rattle.deny_cfg.proofs.warnings.report_expired.Given as goal

abbrev pub invariant-loop-waiver : goal.invariant-loop-waiver
invariant-loop-waiver l =
    l.reported ++ map (expired_diag l.file) (map past_waiver_view (drop l.waiver-index l.waivers))
    ≡ l.initial.reported ++ map (expired_diag l.file) (map past_waiver_view l.waivers)
