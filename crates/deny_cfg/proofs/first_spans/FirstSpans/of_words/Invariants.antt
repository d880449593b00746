use Rattle.std.proofs.Common.{map, take}
use Rattle.deny_base_lists.specs.First.{FindsFirst}
use Rattle.deny_cfg.specs.private.FirstSpans.{word_span, first_span, same_wording}
use Rattle.deny_cfg.proofs.first_spans.FirstSpans.of_words.Given as goal

abbrev pub invariant-loop-word : goal.invariant-loop-word
invariant-loop-word l = FindsFirst same_wording (map word_span (take l.word-index l.words)) (first_span l.found)
