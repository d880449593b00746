use Rattle.deny_build_scan.proofs.OrderLemmas.{behind_same}
use Rattle.deny_build_scan.proofs.order.behind_piece.Goals as goal

pub returns-clause-same : goal.returns-clause-same
returns-clause-same c =
    behind_same c.in_ok-piece.piece.now c.args.a.now c.args.b.now c.in_ok-piece.rest.now c.in_ok-other.other.now 16
    c.in_ok-piece.ensures.front c.in_ok-piece.ensures.back c.in_ok-other.ensures
