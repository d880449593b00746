use Rattle.deny_toml_grammar.proofs.StringsLaws.{content_closed}
use Rattle.deny_toml_grammar.proofs.strings.content.Goals as goal

pub returns-in-Some-clause-value : goal.returns-in-Some-clause-value
returns-in-Some-clause-value c n h =
    rw c.borrowed.ensures (content_closed c.args.delimiter c.args.multi n c.args.text.now c.split_run.result.0.now
    c.split_run.result.1.now _ h c.split_run.ensures.parts c.in-Some.ensures.ends)
