use Rattle.deny_spdx.specs.Tokens.{is_word_byte}
use Rattle.deny_spdx.proofs.PrefixLemmas.{words_ascii, word_prefix, plus_prefix}
use Rattle.std.proofs.Common.{◌∙◌, sym}
use Rattle.deny_base_lists.proofs.Texts.{prefix_within}
use Rattle.deny_spdx.proofs.token.word.Goals as goal

pub split-requires-clause-within : goal.split-requires-clause-within
split-requires-clause-within c = prefix_within is_word_byte c.args.text.now _ c.word_length-length.result
    c.as_bytes.ensures.value c.word_length-length.ensures

pub split-requires-clause-ascii : goal.split-requires-clause-ascii
split-requires-clause-ascii c = words_ascii c.args.text.now _ c.word_length-length.result c.as_bytes.ensures.value
    c.word_length-length.ensures

pub returns-in_ok-id : goal.returns-in_ok-id
returns-in_ok-id c = plus_prefix c.args.text.now _ c.split.result.0.now c.split.result.1.now c.word_length-length.result
    c.in_ok-id.id c.requires c.as_bytes.ensures.value c.word_length-length.ensures c.split.ensures.prefix
    c.split.ensures.rest (sym c.has_plus.ensures ∙ c.if-has_plus.true) c.in_ok-id.ensures

pub returns-in_ok-token_of : goal.returns-in_ok-token_of
returns-in_ok-token_of c = word_prefix c.args.text.now _ c.split.result.0.now c.split.result.1.now
    c.word_length-length.result c.in_ok-token_of.field-0 c.requires c.as_bytes.ensures.value
    c.word_length-length.ensures c.split.ensures.prefix c.split.ensures.rest (sym c.has_plus.ensures
    ∙ c.if-has_plus.false) c.in_ok-token_of.ensures
