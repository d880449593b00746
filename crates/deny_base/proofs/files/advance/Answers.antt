use Rattle.std.proofs.Common.{◌∙◌, arith}
use Rattle.deny_base.proofs.LocationLemmas.{advanced, location_within}
use Rattle.deny_base.proofs.files.advance.Goals as goal

pub loop-byte-preserved : goal.loop-byte-preserved
loop-byte-preserved c =
    c.past-at.ensures ∙ advanced c.args.text.now c.args.from c.args.to c.loop-byte.byte-index c.loop-byte.at
    c.requires.order c.requires.within c.loop-byte-test.true c.loop-byte.invariant

pub past-at-requires : goal.past-at-requires
past-at-requires c =
    let within = location_within c.args.text.now c.args.from c.args.to c.loop-byte.byte-index c.loop-byte.at
    c.requires.order c.requires.within c.loop-byte-test.true c.loop-byte.invariant in
    record { line = omega (arith, within.line); column = omega (arith, within.column) }
