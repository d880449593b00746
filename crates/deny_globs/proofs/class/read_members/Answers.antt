use Rattle.std.proofs.Common.{sym, subst}
use Rattle.std.proofs.lemmas.List.{take_rest}
use Rattle.std.proofs.lemmas.Result.{err_from_is_err_and}
use Rattle.deny_globs.proofs.ClassLemmas.{AreMembersTo, members_begin, members_more, members_stop}
use Rattle.deny_globs.proofs.class.read_members.Goals as goal

pub loop-next-init : goal.loop-next-init
loop-next-init c = subst (AreMembersTo c.args.body.now 0) (sym c.new-ranges.ensures) (members_begin c.args.body.now)

pub returns-in_err-next-clause-stop : goal.returns-in_err-next-clause-stop
returns-in_err-next-clause-stop c =
    let p = err_from_is_err_and c.from_residual.result c.from_residual.ensures.1 in
    rw (p.1, p.2)
    (members_stop c.args.body.now c.loop-next.next c.args.at c.args.unclosed c.loop-next.ranges c.in_err-next.field-0.0
    c.loop-next.invariant
    (rw take_rest at c.in_err-next.ensures.stop) c.if-is_closed.ensures)

pub loop-next-preserved : goal.loop-next-preserved
loop-next-preserved c =
    members_more c.args.body.now c.loop-next.next c.in_ok-next.field-0 c.loop-next.ranges c.read_member.new.ranges
    c.loop-next.invariant
    (rw take_rest at c.in_ok-next.ensures.ok) c.if-is_closed.ensures
