use Rattle.std.proofs.Common.{◌+◌, ◌<◌, length, get_or, refl, arith}
use Rattle.std.proofs.lemmas.Grind.{common_steps}
use Rattle.std.proofs.lemmas.Str.{IsCharBoundary-start, IsCharBoundary-after_ascii}
use Rattle.deny_toml_grammar.proofs.LexicalLaws.{skip_from-drop, skip_from-nil, skip_turn_ascii}
use Rattle.deny_toml_grammar.proofs.lexical.skip_blank.Goals as goal

pub bytes-init : goal.bytes-init
bytes-init c = (refl, λ _. IsCharBoundary-start c.args.text.now c.utf8.text)

pub returns-in-None-clause-rest : goal.returns-in-None-clause-rest
returns-in-None-clause-rest c =
    let within : c.bytes.at < length c.args.text.now = omega (arith, c.as_bytes-bytes.ensures.len) in
    let step = skip_from-drop c.args.comments c.bytes.inside c.args.text.now c.bytes.at within in
    grind (arith, common_steps)

pub bytes-preserved : goal.bytes-preserved
bytes-preserved c =
    let within : c.bytes.at < length c.args.text.now = omega (arith, c.as_bytes-bytes.ensures.len) in
    let step = skip_from-drop c.args.comments c.bytes.inside c.args.text.now c.bytes.at within in (
      grind (arith, common_steps),
      λ none.
          IsCharBoundary-after_ascii c.args.text.now c.bytes.at c.utf8.text within
          (skip_turn_ascii c.args.comments c.bytes.inside (get_or c.args.text.now c.bytes.at 0)
          (get_or c.args.text.now (c.bytes.at + 1) 0) (grind (arith, common_steps))),
    )

pub returns-clause-rest : goal.returns-clause-rest
returns-clause-rest c = grind (arith, common_steps, skip_from-nil)
