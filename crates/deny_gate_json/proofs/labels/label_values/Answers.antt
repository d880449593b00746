use Rattle.std.proofs.Common.{subst, arith}
use Rattle.std.specs.Prelude.{All}
use Rattle.std.proofs.lemmas.Grind.{common_steps}
use Rattle.std.proofs.lemmas.List.{take_all}
use Rattle.std.proofs.lemmas.List.Elements.{All-more}
use Rattle.deny_gate_json.specs.Reading.{IsCounted}
use Rattle.deny_gate_json.proofs.labels.label_values.Goals as goal

pub loop-label-preserved : goal.loop-label-preserved
loop-label-preserved c = (
  grind (arith, common_steps),
  All-more (IsCounted c.args.files.now) c.args.labels.now c.loop-label.label-index c.label-item.result
      (omega (arith, c.loop-label-test.true, c.loop-label.auto.label-index-end)) c.loop-label.invariant.1
      (subst (IsCounted c.args.files.now) c.label-item.is c.in_ok-label_value.ensures.counted),
)

pub returns-clause-counted : goal.returns-clause-counted
returns-clause-counted c =
    subst (All (IsCounted c.args.files.now))
    (take_all c.loop-label.label-index c.args.labels.now
    (omega (arith, c.loop-label-test.false, c.loop-label.auto.label-index-end))) c.loop-label.invariant.1
