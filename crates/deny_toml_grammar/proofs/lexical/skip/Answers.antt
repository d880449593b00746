use Rattle.std.proofs.Common.{◌≡◌, ◌+◌, ◌-◌, subst, arith}
use Rattle.std.proofs.lemmas.Str.{IsCharBoundary-after_ascii}
use Rattle.std.specs.Str.{IsCharBoundary}
use Rattle.deny_toml_grammar.proofs.LexicalLaws.{within_from_byte}
use Rattle.deny_toml_grammar.proofs.lexical.skip.Goals as goal

pub range_from-requires : goal.range_from-requires
range_from-requires c _ =
    let text = c.args.text.now in
    let last = c.args.count - 1 in
    let more : last + 1 ≡ c.args.count = omega (arith, c.requires.some) in
    subst (IsCharBoundary text) more (IsCharBoundary-after_ascii text last c.utf8.text
    (within_from_byte text last c.requires.there) c.requires.ascii)
