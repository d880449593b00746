use Rattle.deny_spans_cfg_expr.proofs.token.split.Goals as goal
use Rattle.deny_base_lists.proofs.Texts.{cut_behind_ascii}

pub split_at-requires : goal.split_at-requires
split_at-requires c = cut_behind_ascii c.args.text.now c.args.count c.utf8.text c.requires.within c.requires.ascii
