use Rattle.std.proofs.Common.{arith, subst}
use Rattle.std.specs.Prelude.{All}
use Rattle.std.proofs.lemmas.Grind.{common_steps}
use Rattle.std.proofs.lemmas.List.{take_all}
use Rattle.std.proofs.lemmas.List.Elements.{All-more}
use Rattle.deny_cli.specs.private.Stops.{HasSpan}
use Rattle.deny_cli.proofs.stops.fault_values.Goals as goal

pub loop-fault-preserved : goal.loop-fault-preserved
loop-fault-preserved c = (
  grind (arith, common_steps),
  All-more HasSpan c.args.faults.now c.loop-fault.fault-index c.fault-item.result
      (omega (arith, c.loop-fault-test.true, c.loop-fault.auto.fault-index-end)) c.loop-fault.invariant.1
      (subst HasSpan c.fault-item.is c.in_ok-fault_value.ensures.fits),
)

pub returns-clause-fit : goal.returns-clause-fit
returns-clause-fit c =
    subst (All HasSpan)
    (take_all c.loop-fault.fault-index c.args.faults.now
    (omega (arith, c.loop-fault-test.false, c.loop-fault.auto.fault-index-end))) c.loop-fault.invariant.1
