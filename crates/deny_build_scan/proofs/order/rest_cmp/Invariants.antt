use Rattle.std.proofs.Common.{◌≡◌, drop}
use Rattle.deny_spec.specs.Paths.{path_cmp}
use Rattle.deny_build_scan.proofs.order.rest_cmp.Given as goal

abbrev pub invariant-loop-index : goal.invariant-loop-index
invariant-loop-index l = path_cmp l.a l.b ≡ path_cmp (drop l.index l.a) (drop l.index l.b)
