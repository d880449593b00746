use Rattle.std.proofs.Common.{arith}
use Rattle.deny_gate_licenses.specs.private.Witnesses.{place_in, same_granter}
use Rattle.deny_gate_licenses.proofs.MapLemmas.{finds_behind-at}
use Rattle.deny_gate_licenses.proofs.witnesses.Witnesses.add_each.Goals as goal

pub loop-by-preserved : goal.loop-by-preserved
loop-by-preserved c = λ entries finds.
    finds_behind-at same_granter (λ by. (by, c.args.place)) c.args.granters.now c.loop-by.by-index _
    (omega (arith, c.loop-by-test.true)) entries (place_in c.loop-by.self) (place_in c.add.new.self)
    (c.loop-by.invariant entries finds) c.in_ok-add.ensures
