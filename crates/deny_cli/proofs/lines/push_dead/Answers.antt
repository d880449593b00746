use Rattle.std.proofs.Common.{arith, subst}
use Rattle.std.specs.Prelude.{All}
use Rattle.std.proofs.lemmas.Grind.{common_steps}
use Rattle.std.proofs.lemmas.List.{take_all}
use Rattle.std.proofs.lemmas.List.Elements.{All-more}
use Rattle.deny_cli.specs.Values.{HasNumbers}
use Rattle.deny_cli.proofs.lines.push_dead.Goals as goal

pub loop-entry-preserved : goal.loop-entry-preserved
loop-entry-preserved c = (
  grind (arith, common_steps),
  All-more HasNumbers c.args.dead.now c.loop-entry.entry-index _
      (omega (arith, c.loop-entry-test.true, c.loop-entry.auto.entry-index-end)) c.loop-entry.invariant.1
      c.in_ok-dead_line.ensures.fits,
)

pub returns-clause-fits : goal.returns-clause-fits
returns-clause-fits c =
    subst (All HasNumbers)
    (take_all c.loop-entry.entry-index c.args.dead.now
    (omega (arith, c.loop-entry-test.false, c.loop-entry.auto.entry-index-end))) c.loop-entry.invariant.1
