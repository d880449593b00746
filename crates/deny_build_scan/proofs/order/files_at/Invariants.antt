use Rattle.std.proofs.Common.{◌≡◌, map}
use Rattle.deny_build_scan.proofs.order.files_at.Given as goal

abbrev pub invariant-paths : goal.invariant-paths
invariant-paths l = map (λ file. file.path) l.files ≡ l.yielded
