use Rattle.std.proofs.Common.{◌≡◌, ◌++◌, map, take}
use Rattle.deny_gate_licenses.specs.private.Reported.{unused_pack}
use Rattle.deny_gate_licenses.proofs.diags.report_unused.Given as goal

abbrev pub invariant-loop-by : goal.invariant-loop-by
invariant-loop-by l = l.packs ≡ l.fn.packs ++ map (unused_pack l.level l.id) (take l.by-index l.unused)
