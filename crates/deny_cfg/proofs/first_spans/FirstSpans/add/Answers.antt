use Rattle.std.proofs.lemmas.Bool.{not-false, not-true}
use Rattle.std.proofs.Common.{sym, ◌∙◌}
use Rattle.deny_cfg.proofs.FirstSpansLaws.{gains_new, gains_none}
use Rattle.deny_cfg.proofs.first_spans.FirstSpans.add.Goals as goal

pub returns-in_ok-insert : goal.returns-in_ok-insert
returns-in_ok-insert c =
    gains_new c.args.self.now (record { spans = c.insert.new.self }) c.args.wording c.args.span
    (not-true _ (sym c.is_new.ensures ∙ c.if-is_new.true))
    c.in_ok-insert.ensures.updates.0

pub returns-else-is_new : goal.returns-else-is_new
returns-else-is_new c =
    gains_none c.args.self.now c.args.wording c.args.span (not-false _ (sym c.is_new.ensures ∙ c.if-is_new.false))
