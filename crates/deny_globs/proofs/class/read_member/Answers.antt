use Rattle.std.proofs.Common.{sym}
use Rattle.deny_globs.proofs.ClassLemmas.{added_range, added_one}
use Rattle.deny_globs.proofs.class.read_member.Goals as goal

pub returns-then-not-is_range-clause-ok : goal.returns-then-not-is_range-clause-ok
returns-then-not-is_range-clause-ok c =
    added_one c.args.rest.now c.index-rest-0.result c.args.ranges.now c.push.new.self (sym c.if-not-is_range.ensures)
    c.requires c.index-rest-0.is c.in_ok-push.ensures.ok

pub returns-clause-ok : goal.returns-clause-ok
returns-clause-ok c =
    added_range c.args.rest.now c.index-rest-0.result c.index-rest-2.result c.args.ranges.now c.push-2.new.self
    (sym c.if-not-is_range.ensures) c.index-rest-0.is c.index-rest-2.is c.if-last-first.false
    c.in_ok-push-2.ensures.ok
