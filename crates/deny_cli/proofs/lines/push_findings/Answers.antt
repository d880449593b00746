use Rattle.std.proofs.Common.{arith, subst}
use Rattle.std.specs.Prelude.{All}
use Rattle.std.proofs.lemmas.Grind.{common_steps}
use Rattle.std.proofs.lemmas.List.{take_all}
use Rattle.std.proofs.lemmas.List.Elements.{All-more}
use Rattle.deny_cli.specs.private.Counted.{IsCounted}
use Rattle.deny_cli.proofs.lines.push_findings.Goals as goal

pub loop-finding-preserved : goal.loop-finding-preserved
loop-finding-preserved c = (
  grind (arith, common_steps),
  All-more (IsCounted c.args.files.now) c.args.findings.now c.loop-finding.finding-index c.finding-item.result
      (omega (arith, c.loop-finding-test.true, c.loop-finding.auto.finding-index-end)) c.loop-finding.invariant.1
      (subst (IsCounted c.args.files.now) c.finding-item.is c.in_ok-finding_line.ensures.counted),
)

pub returns-clause-counted : goal.returns-clause-counted
returns-clause-counted c =
    subst (All (IsCounted c.args.files.now))
    (take_all c.loop-finding.finding-index c.args.findings.now
    (omega (arith, c.loop-finding-test.false, c.loop-finding.auto.finding-index-end))) c.loop-finding.invariant.1
