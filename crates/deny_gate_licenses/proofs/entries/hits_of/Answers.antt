use Rattle.std.proofs.Common.{arith}
use Rattle.deny_gate_licenses.specs.private.Witnesses.{hits_at}
use Rattle.deny_gate_licenses.proofs.MapLemmas.{flat-more-at}
use Rattle.deny_gate_licenses.proofs.entries.hits_of.Goals as goal

pub loop-by-preserved : goal.loop-by-preserved
loop-by-preserved c = flat-more-at (hits_at c.args.krates.now c.args.witnesses.now) c.args.granters.now
    c.loop-by.by-index _ c.loop-by.hits c.add_hit.new.hits (omega (arith, c.loop-by-test.true)) c.loop-by.invariant
    c.in_ok-add_hit.ensures
