use Rattle.std.proofs.Common.{rules, ◌∙◌, ap}
use Rattle.std.proofs.lemmas.Fn.{filter_same}
use Rattle.deny_spans_cfg_expr.proofs.SpellingLemmas.{kept}
use Rattle.deny_spans_cfg_expr.proofs.expression.without_commas.Goals as goal

pub returns : goal.returns
returns c = filter_same _ _ _ (λ x b f' k. search rules) _ _ c.retain.ensures.filtered ∙ ap kept c.tokens.view_is
