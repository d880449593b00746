use Rattle.std.proofs.Common.{◌∙◌}
use Rattle.std.proofs.lemmas.Result.{on_ok_weaker}
use Rattle.deny_globs.proofs.ReadingLemmas.{part_none, part_some}
use Rattle.deny_globs.proofs.reading.part.Goals as goal

pub returns-in-None-clause-ok : goal.returns-in-None-clause-ok
returns-in-None-clause-ok c = on_ok_weaker c.add_token.result
    (part_none c.args.reading.now c.take_innermost.new.opened c.add_token.new.reading c.in-None.ensures)
    c.add_token.ensures.ok

pub returns-in_ok-push-in-Some-2-clause-ok : goal.returns-in_ok-push-in-Some-2-clause-ok
returns-in_ok-push-in-Some-2-clause-ok c =
    part_some c.args.reading.now c.take_innermost.new.opened c.in-Some.opened c.push.new.self c.replace-tokens.result
    c.push-in-Some.new.self c.replace-tokens.new.dest
    c.in-Some.ensures c.in_ok-push-in-Some.ensures.ok c.replace-tokens.ensures.value c.in_ok-push-in-Some-2.ensures.ok
    (c.replace-tokens.ensures.after ∙ c.new.ensures)
