use Rattle.std.proofs.Common.{refl}
use Rattle.deny_spdx.proofs.ReadingLemmas.{read_nothing, read_more, read_shorter, read_stops, turn_on, turn_wrong}
use Rattle.deny_spdx.proofs.ReadingLemmas.{rest_within}
use Rattle.deny_spdx.proofs.reading.read_tokens.Goals as goal

pub loop-after-init : goal.loop-after-init
loop-after-init g c = (
  c.skip_blanks-rest.utf8,
  read_nothing g.R.TokenReader.step c.args.start c.args.text.now c.skip_blanks-rest.result.now
      c.skip_blanks-rest.ensures,
)

pub loop-after-smaller : goal.loop-after-smaller
loop-after-smaller g c = read_shorter g.R.TokenReader.step c.loop-after.reader c.in-On.after c.loop-after.rest.now
    c.split.result.1.now c.skip_blanks-rest-in-On.result.now c.in-On.length
    (turn_on _ _ _ _ _ _ c.in_ok-after.ensures c.in-On.is) c.split.ensures.rest c.skip_blanks-rest-in-On.ensures

pub loop-after-preserved : goal.loop-after-preserved
loop-after-preserved g c = (
  c.skip_blanks-rest-in-On.utf8,
  read_more g.R.TokenReader.step c.args.start c.loop-after.reader c.in-On.after c.args.text.now c.loop-after.rest.now
      c.split.result.1.now c.skip_blanks-rest-in-On.result.now c.in-On.length c.loop-after.invariant.1
      (turn_on _ _ _ _ _ _ c.in_ok-after.ensures c.in-On.is) c.split.ensures.rest c.skip_blanks-rest-in-On.ensures,
)

pub overflow_sub-result : goal.overflow_sub-result
overflow_sub-result g c = rest_within g.R.TokenReader.step c.args.start c.loop-after.reader c.args.text.now
    c.loop-after.rest.now c.loop-after.invariant.1

pub returns-in-Wrong : goal.returns-in-Wrong
returns-in-Wrong g c = read_stops g.R.TokenReader.step c.args.start c.loop-after.reader c.args.text.now
    c.loop-after.rest.now _ c.loop-after.invariant.1 (turn_wrong _ _ _ _ c.in_ok-after.ensures c.in-Wrong.is) refl
