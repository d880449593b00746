use Rattle.std.proofs.Common.{inr}
use Rattle.deny_toml.proofs.ParserLaws.{clash_found, clash_span, tree_holds}
use Rattle.deny_toml.proofs.ApartGrammar.{tree_apart}
use Rattle.deny_toml.proofs.parser.parse.Goals as goal

pub returns-in-Some-clause-cause : goal.returns-in-Some-clause-cause
returns-in-Some-clause-cause c =
    inr (clash_found c.args.text.now _ _ c.in-Some.span c.in_ok-expressions.ensures.document c.in_ok-span.ensures.exact
    c.in-Some.is)

pub returns-in-Some-clause-lies : goal.returns-in-Some-clause-lies
returns-in-Some-clause-lies c =
    inr (clash_span c.args.text.now _ _ c.in-Some.span c.utf8.text c.in_ok-expressions.ensures.document
    c.in_ok-span.ensures.exact c.in-Some.is)

pub returns-clause-holds : goal.returns-clause-holds
returns-clause-holds c = tree_holds c.args.text.now _ _ _ c.utf8.text c.in_ok-expressions.ensures.document
    c.whole.ensures c.in_ok-tree_of.ensures.exact

pub returns-clause-apart : goal.returns-clause-apart
returns-clause-apart c = tree_apart c.args.text.now _ _ _ c.in_ok-expressions.ensures.document
    c.in_ok-tree_of.ensures.exact
