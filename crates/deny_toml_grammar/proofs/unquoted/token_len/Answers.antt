use Rattle.std.proofs.Common.{◌≡◌, ◌+◌, ◌<◌, length, get_or, drop, rules, arith}
use Rattle.std.proofs.lemmas.Grind.{common_steps}
use Rattle.std.proofs.lemmas.Str.{IsCharBoundary-after_ascii, IsCharBoundary-from_rest, IsUtf8-drop}
use Rattle.std.specs.List.{prefix_len}
use Rattle.deny_toml_grammar.specs.declared.lexical.ByteClass.TheVariants.{Token}
use Rattle.deny_toml_grammar.specs.private.Unquoted.{token_len}
use Rattle.deny_toml_grammar.specs.Lexical.{is_token_byte}
use Rattle.deny_toml_grammar.proofs.LexicalLaws.{within_from_byte, IsCharBoundary-run}
use Rattle.deny_toml_grammar.proofs.unquoted.token_len.Goals as goal

pub returns-then-is_ascii_digit-clause-len : goal.returns-then-is_ascii_digit-clause-len
unfolding token_len
returns-then-is_ascii_digit-clause-len c = grind (arith, common_steps)

pub returns-then-is_ascii_digit-clause-boundary : goal.returns-then-is_ascii_digit-clause-boundary
unfolding token_len
returns-then-is_ascii_digit-clause-boundary c =
    let text = c.args.text.now in
    let len = c.run_len-len.result in
    let space : get_or text len 0 ≡ 32 = grind (arith, common_steps) in
    let within : len < length text = within_from_byte text len (omega arith) in
    let after = IsCharBoundary-after_ascii text len c.utf8.text within (omega arith) in
    let rest = IsCharBoundary-run Token (drop (len + 1) text) (IsUtf8-drop text (len + 1) c.utf8.text after) tt in
    let same : c.run_len.result ≡ prefix_len is_token_byte (drop (len + 1) text) = grind (arith, common_steps) in
    rw same (IsCharBoundary-from_rest text (len + 1) (prefix_len is_token_byte (drop (len + 1) text)) after.0 rest)

pub returns-else-len-gt0-clause-len : goal.returns-else-len-gt0-clause-len
unfolding token_len
returns-else-len-gt0-clause-len c = search rules

pub returns-else-len-gt0-clause-boundary : goal.returns-else-len-gt0-clause-boundary
unfolding token_len
returns-else-len-gt0-clause-boundary c =
    rw (c.run_len-len.ensures.len, c.as_bytes-bytes.ensures.value)
    (IsCharBoundary-run Token c.args.text.now c.utf8.text tt)
