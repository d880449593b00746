use Rattle.std.proofs.Common.{arith, subst}
use Rattle.deny_base_lists.specs.First.{GainsEntry}
use Rattle.deny_cfg.specs.private.FirstSpans.{word_span, first_span, same_wording}
use Rattle.deny_cfg.proofs.FirstSpansLaws.{finds_next}
use Rattle.deny_cfg.proofs.first_spans.FirstSpans.of_words.Goals as goal

pub loop-word-preserved : goal.loop-word-preserved
loop-word-preserved c =
    let word = c.word-item.result in
    finds_next word_span c.args.words.now c.loop-word.word-index word c.loop-word.found c.add.new.self
    (omega (arith, c.loop-word-test.true)) c.word-item.is
    c.loop-word.invariant
    (subst (λ w. GainsEntry same_wording w word.span (first_span c.loop-word.found) (first_span c.add.new.self))
    c.in_ok-of_word.ensures c.in_ok-add.ensures)
