use Rattle.std.proofs.Common.{arith}
use Rattle.deny_spans_manifest.proofs.TargetLemmas.{numbers_next}
use Rattle.deny_spans_manifest.proofs.targets.Targets.of.Goals as goal

pub loop-number-init : goal.loop-number-init
loop-number-init c = λ agrees reports key form is. c.new-numbers.ensures.at form

pub loop-number-preserved : goal.loop-number-preserved
loop-number-preserved c = λ agrees reports key form is. numbers_next agrees reports (λ e. e.0.name) c.args.entries.now
    c.loop-number.number c.index-entries-number.result c.as_str.result.now c.in_ok-form_of.field-0 form _ _ key
    (omega (arith, c.loop-number-test.true)) c.index-entries-number.is c.as_str.ensures c.in_ok-form_of.ensures is
    c.in_ok-add.ensures (c.loop-number.invariant agrees reports key form is)
