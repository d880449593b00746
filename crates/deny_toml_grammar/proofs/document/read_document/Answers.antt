use Rattle.deny_toml_grammar.proofs.DocumentLaws.{gives_document, gives_only, gives_holding, refuses_all}
use Rattle.deny_toml_grammar.proofs.document.read_document.Goals as goal

pub returns-clause-found : goal.returns-clause-found
returns-clause-found c = gives_document c.args.text.now c.expressions.result c.expressions.ensures

pub returns-clause-only : goal.returns-clause-only
returns-clause-only c = gives_only c.args.text.now c.expressions.result c.expressions.ensures

pub returns-clause-hold : goal.returns-clause-hold
returns-clause-hold c = gives_holding c.args.text.now c.expressions.result c.utf8.text c.expressions.ensures

pub returns-clause-refused : goal.returns-clause-refused
returns-clause-refused c = refuses_all c.args.text.now c.expressions.result c.expressions.ensures
