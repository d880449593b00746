use Rattle.std.proofs.Common.{refl, rules}
use Rattle.deny_globs.specs.Pieces.{question, open_braces, parting_comma, close_braces, itself}
use Rattle.deny_globs.proofs.PieceLemmas.{one_piece}
use Rattle.deny_globs.proofs.reader.read_piece.Goals as goal

pub returns-in-63-clause-ok : goal.returns-in-63-clause-ok
returns-in-63-clause-ok c = one_piece c.args.at 63 c.index-rest-0.result c.args.rest.now _ c.requires.some
    c.index-rest-0.is c.in-63.is (λ behind. question)

pub returns-in-123-clause-ok : goal.returns-in-123-clause-ok
returns-in-123-clause-ok c = one_piece c.args.at 123 c.index-rest-0.result c.args.rest.now _ c.requires.some
    c.index-rest-0.is c.in-123.is (λ behind. open_braces)

pub returns-in-44-clause-ok : goal.returns-in-44-clause-ok
returns-in-44-clause-ok c = one_piece c.args.at 44 c.index-rest-0.result c.args.rest.now _ c.requires.some
    c.index-rest-0.is c.in-44.is (λ behind. parting_comma)

pub returns-in-125-clause-ok : goal.returns-in-125-clause-ok
returns-in-125-clause-ok c = one_piece c.args.at 125 c.index-rest-0.result c.args.rest.now _ c.requires.some
    c.index-rest-0.is c.in-125.is (λ behind. close_braces)

pub returns-in_default-clause-ok : goal.returns-in_default-clause-ok
returns-in_default-clause-ok c =
    one_piece c.args.at c.index-rest-0.result c.index-rest-0.result c.args.rest.now _ c.requires.some c.index-rest-0.is
    refl (λ behind. itself (search rules) (search rules))
