use Rattle.std.proofs.Common.{arith}
use Rattle.deny_gate_licenses.specs.private.Witnesses.{unused_at}
use Rattle.deny_gate_licenses.proofs.MapLemmas.{flat-more-at}
use Rattle.deny_gate_licenses.proofs.entries.unused_unordered.Goals as goal

pub loop-by-preserved : goal.loop-by-preserved
loop-by-preserved c = flat-more-at (unused_at c.args.witnesses.now) c.args.granters.now c.loop-by.by-index _
    c.loop-by.unused c.add_unused.new.unused (omega (arith, c.loop-by-test.true)) c.loop-by.invariant
    c.in_ok-add_unused.ensures
