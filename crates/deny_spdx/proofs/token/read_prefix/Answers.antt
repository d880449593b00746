use Rattle.std.proofs.Common.{◌∙◌, sym}
use Rattle.deny_base_lists.proofs.Texts.{empty_from_no_first}
use Rattle.deny_spdx.proofs.PrefixLemmas.{some_word, mark_prefix}
use Rattle.deny_spdx.proofs.token.read_prefix.Goals as goal

pub word-requires : goal.word-requires
word-requires c = some_word c.args.text.now c.in-Some.byte (sym c.first_byte.ensures ∙ c.in-Some.is)
    (sym c.is_word_byte.ensures ∙ c.if-is_word_byte.true)

pub returns-in-None : goal.returns-in-None
returns-in-None c = empty_from_no_first c.args.text.now (sym c.first_byte.ensures ∙ c.in-None.is)

pub returns-in-Some-2 : goal.returns-in-Some-2
returns-in-Some-2 c = mark_prefix c.args.text.now c.in-Some.byte c.mark.result (sym c.first_byte.ensures ∙ c.in-Some.is)
    (sym c.is_word_byte.ensures ∙ c.if-is_word_byte.false) c.mark.ensures
