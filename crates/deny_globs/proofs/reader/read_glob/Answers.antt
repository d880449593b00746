use Rattle.std.proofs.lemmas.Result.{err_from_is_err_and, MatchResult-weaker}
use Rattle.deny_globs.proofs.GlobLemmas.{read_none, read_more, glob_read, next_stops, end_stops}
use Rattle.deny_globs.proofs.reader.read_glob.Goals as goal

pub loop-next-init : goal.loop-next-init
loop-next-init c = read_none c.args.characters.now _ c.new.ensures c.new-2.ensures

pub returns-in_err-next-clause-stop : goal.returns-in_err-next-clause-stop
returns-in_err-next-clause-stop c =
    let p = err_from_is_err_and c.from_residual.result c.from_residual.ensures.1 in
    rw (p.1, p.2) (next_stops c.args.characters.now c.loop-next.next c.loop-next.reading c.in_err-next.field-0.0
    c.loop-next.invariant c.in_err-next.ensures.stop)

pub loop-next-preserved : goal.loop-next-preserved
loop-next-preserved c = read_more c.args.characters.now c.loop-next.next c.in_ok-next.field-0 c.loop-next.reading
    c.read_next.new.reading c.loop-next.invariant c.in_ok-next.ensures.ok

pub returns-clause-ok : goal.returns-clause-ok
returns-clause-ok c =
    MatchResult-weaker c.finish.result c.finish.ensures.ok
    (λ tokens e. glob_read c.args.characters.now c.loop-next.next c.loop-next.reading tokens c.loop-next-test.false
    c.loop-next.invariant e) (λ stop h. h)

pub returns-clause-stop : goal.returns-clause-stop
returns-clause-stop c =
    MatchResult-weaker c.finish.result c.finish.ensures.stop (λ tokens h. h)
    (λ stop e. end_stops c.args.characters.now c.loop-next.next c.loop-next.reading stop c.loop-next-test.false
    c.loop-next.invariant e)
