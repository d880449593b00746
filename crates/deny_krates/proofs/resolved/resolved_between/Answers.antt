use Rattle.std.proofs.Common.{arith}
use Rattle.std.specs.Prelude.{◌+◌}
use Rattle.deny_krates.specs.private.Resolved.{is_before}
use Rattle.deny_krates.proofs.BeforeLemmas.{before_later, run_between}
use Rattle.deny_krates.proofs.resolved.resolved_between.Goals as goal

pub slice_bounds-result-count : goal.slice_bounds-result-count
slice_bounds-result-count c =
    (run_between (λ r. is_before r.child r.parent c.args.child c.args.parent)
    (λ r. is_before r.child r.parent c.args.child (c.args.parent + 1)) c.args.resolved.now c.first_from-first.result
    c.first_from-last.result
    (λ r is. before_later r.child r.parent c.args.child c.args.parent (c.args.parent + 1) (omega arith) is)
    c.first_from-first.ensures.within c.first_from-last.ensures.within c.first_from-first.ensures.point
    c.first_from-last.ensures.point).0

pub slice_bounds-result-start : goal.slice_bounds-result-start
slice_bounds-result-start c =
    (run_between (λ r. is_before r.child r.parent c.args.child c.args.parent)
    (λ r. is_before r.child r.parent c.args.child (c.args.parent + 1)) c.args.resolved.now c.first_from-first.result
    c.first_from-last.result
    (λ r is. before_later r.child r.parent c.args.child c.args.parent (c.args.parent + 1) (omega arith) is)
    c.first_from-first.ensures.within c.first_from-last.ensures.within c.first_from-first.ensures.point
    c.first_from-last.ensures.point).0

pub returns : goal.returns
returns c =
    (run_between (λ r. is_before r.child r.parent c.args.child c.args.parent)
    (λ r. is_before r.child r.parent c.args.child (c.args.parent + 1)) c.args.resolved.now c.first_from-first.result
    c.first_from-last.result
    (λ r is. before_later r.child r.parent c.args.child c.args.parent (c.args.parent + 1) (omega arith) is)
    c.first_from-first.ensures.within c.first_from-last.ensures.within c.first_from-first.ensures.point
    c.first_from-last.ensures.point).1
