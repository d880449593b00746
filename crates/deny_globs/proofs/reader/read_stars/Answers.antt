use Rattle.deny_globs.proofs.PieceLemmas.{stars_piece, leading_piece}
use Rattle.deny_globs.proofs.reader.read_stars.Goals as goal

pub returns-then-is_leading : goal.returns-then-is_leading
returns-then-is_leading c = leading_piece c.args.at c.args.rest.now c.count_stars-count.result
    c.count_stars-count.ensures c.if-is_leading.ensures

pub returns : goal.returns
returns c = stars_piece c.args.at c.args.rest.now c.count_stars-count.result c.requires c.count_stars-count.ensures
    c.if-is_leading.ensures
