use Rattle.std.proofs.Common.{◌≡◌, ◌++◌, map, take}
use Rattle.deny_spec_report.specs.Saying.{said_in}
use Rattle.deny_std.specs.private.Diags.{replaced_pack}
use Rattle.deny_std.proofs.diags.report_replaced.Given as goal

abbrev pub invariant-loop-place : goal.invariant-loop-place
invariant-loop-place l =
    l.sink ≡ l.fn.sink ++ map (replaced_pack l.level l.krates (said_in l.table)) (take l.place-index l.places)
