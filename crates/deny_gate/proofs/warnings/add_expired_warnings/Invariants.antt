use Rattle.std.proofs.Common.{◌≡◌, ◌++◌, drop, map}
use Rattle.deny_cfg.specs.PolicyView.{past_waiver_view}
use Rattle.deny_gate.specs.private.Warnings.{expired_warning}
use Rattle.deny_gate.proofs.warnings.add_expired_warnings.Given as goal

abbrev pub invariant-loop-waiver : goal.invariant-loop-waiver
invariant-loop-waiver l =
    l.findings ++ map (expired_warning l.file) (map past_waiver_view (drop l.waiver-index l.waivers))
    ≡ l.initial.findings ++ map (expired_warning l.file) (map past_waiver_view l.waivers)
