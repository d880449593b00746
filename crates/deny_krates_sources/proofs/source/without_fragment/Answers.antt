use Rattle.std.proofs.Common.{◌∙◌, ap, not}
use Rattle.deny_krates_sources.proofs.SourceLemmas.{had_none, has_none}
use Rattle.deny_krates_sources.proofs.source.without_fragment.Goals as goal

pub returns-then-is_none : goal.returns-then-is_none
returns-then-is_none c = had_none c.args.url c.fragment.result c.fragment.ensures.value
    (c.is_none.ensures ∙ ap not c.if-is_none.true)

pub returns-in-Ok : goal.returns-in-Ok
returns-in-Ok c = has_none c.args.url c.set_fragment.new.self c.fragment.ensures.valid c.in-Ok.ensures.0
