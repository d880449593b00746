use Rattle.std.proofs.Common.{◌≡◌, ◌++◌, map, take}
use Rattle.deny_cfg.specs.Clashes.{clash_diag}
use Rattle.deny_cfg.proofs.clash_diag.report_clashes.Given as goal

abbrev pub invariant-loop-clash : goal.invariant-loop-clash
invariant-loop-clash l = l.reported ≡ l.fn.reported ++ map (clash_diag l.file) (take l.clash-index l.clashes)
