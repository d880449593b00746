use Rattle.deny_globs.proofs.PieceLemmas.{escaped_piece, escapes_none}
use Rattle.deny_globs.proofs.reader.read_escaped.Goals as goal

pub returns-in_default-clause-stop : goal.returns-in_default-clause-stop
returns-in_default-clause-stop c = escapes_none c.args.at c.args.unclosed c.args.rest.now c.requires
    c.in_default.len_below

pub returns-in-len2-up-clause-ok : goal.returns-in-len2-up-clause-ok
returns-in-len2-up-clause-ok c = escaped_piece c.args.at c.args.rest.now c.escaped-item.result c.requires
    c.in-len2-up.len_at_least c.escaped-item.is
