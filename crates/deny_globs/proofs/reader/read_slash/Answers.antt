use Rattle.deny_globs.proofs.PieceLemmas.{trailing_piece, middle_piece, slash_piece}
use Rattle.deny_globs.proofs.reader.read_slash.Goals as goal

pub returns-then-is_trailing : goal.returns-then-is_trailing
returns-then-is_trailing c = trailing_piece c.args.at c.args.rest.now c.requires c.if-is_trailing.ensures

pub returns-then-is_middle : goal.returns-then-is_middle
returns-then-is_middle c = middle_piece c.args.at c.args.rest.now c.requires c.if-is_middle.ensures

pub returns : goal.returns
returns c = slash_piece c.args.at c.args.rest.now c.requires c.if-is_trailing.ensures c.if-is_middle.ensures
