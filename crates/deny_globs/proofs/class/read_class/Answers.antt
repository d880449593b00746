use Rattle.std.proofs.Common.{[], ◌∷◌, ◌+◌, true, false, sym, subst, arith, drop}
use Rattle.std.proofs.lemmas.List.{take_rest}
use Rattle.std.proofs.lemmas.Result.{err_from_is_err_and}
use Rattle.deny_globs.specs.private.Steps.{IsPieceOf}
use Rattle.deny_globs.proofs.PieceLemmas.{class_closed, class_stops, negated_class, plain_class, plain_mark}
use Rattle.deny_globs.proofs.class.read_class.Goals as goal

pub returns-in_err-ranges-clause-stop : goal.returns-in_err-ranges-clause-stop
returns-in_err-ranges-clause-stop c =
    let p = err_from_is_err_and c.from_residual.result c.from_residual.ensures.1 in
    let n = negated_class c.args.rest.now c.requires.bracket (rw take_rest at c.if-is_negated.ensures) in
    rw (p.1, p.2) (class_stops c.args.at c.args.unclosed true c.args.rest.now (n.mark ∷ []) (drop 2 c.args.rest.now)
    (c.args.at + 2) c.in_err-ranges.field-0.0 n.whole n.is (omega arith)
    (rw take_rest at c.in_err-ranges.ensures.stop))

pub returns-then-is_negated-clause-ok : goal.returns-then-is_negated-clause-ok
returns-then-is_negated-clause-ok c =
    let n = negated_class c.args.rest.now c.requires.bracket (rw take_rest at c.if-is_negated.ensures) in
    subst (λ piece. IsPieceOf c.args.at c.args.rest.now (c.in_ok-ranges.size + 3) piece) (sym c.class_piece.ensures)
    (class_closed c.args.at true c.args.rest.now (n.mark ∷ []) (drop 2 c.args.rest.now) c.in_ok-ranges.size
    (c.in_ok-ranges.size + 3) c.in_ok-ranges.ranges n.whole n.is
    (rw take_rest at c.in_ok-ranges.ensures.ok) (omega arith))

pub returns-in_err-ranges-2-clause-stop : goal.returns-in_err-ranges-2-clause-stop
returns-in_err-ranges-2-clause-stop c =
    let p = err_from_is_err_and c.from_residual-in_err-ranges-2.result c.from_residual-in_err-ranges-2.ensures.1 in
    rw (p.1, p.2) (class_stops c.args.at c.args.unclosed false c.args.rest.now [] (drop 1 c.args.rest.now)
    (c.args.at + 1) c.in_err-ranges-2.field-0.0 (plain_class c.args.rest.now c.requires.bracket)
    (plain_mark c.args.rest.now (rw take_rest at c.if-is_negated.ensures)) (omega arith)
    (rw take_rest at c.in_err-ranges-2.ensures.stop))

pub returns-clause-ok : goal.returns-clause-ok
returns-clause-ok c =
    subst (λ piece. IsPieceOf c.args.at c.args.rest.now (c.in_ok-ranges-2.size + 2) piece) (sym c.class_piece-2.ensures)
    (class_closed c.args.at false c.args.rest.now [] (drop 1 c.args.rest.now) c.in_ok-ranges-2.size
    (c.in_ok-ranges-2.size + 2) c.in_ok-ranges-2.ranges (plain_class c.args.rest.now c.requires.bracket)
    (plain_mark c.args.rest.now (rw take_rest at c.if-is_negated.ensures)) (rw take_rest at c.in_ok-ranges-2.ensures.ok)
    (omega arith))
