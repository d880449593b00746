use Rattle.deny_krates.specs.private.Resolved.{is_before}
use Rattle.deny_krates.proofs.BeforeLemmas.{before_later, run_between}
use Rattle.deny_krates.proofs.resolution.edges_between.Goals as goal

pub slice_bounds-result-count : goal.slice_bounds-result-count
slice_bounds-result-count c =
    (run_between (λ e. is_before e.parent e.child c.args.parent c.args.start)
    (λ e. is_before e.parent e.child c.args.parent c.args.end) c.args.edges.now c.first_from-first.result
    c.first_from-last.result
    (λ e is. before_later e.parent e.child c.args.parent c.args.start c.args.end c.requires.upward is)
    c.first_from-first.ensures.within c.first_from-last.ensures.within c.first_from-first.ensures.point
    c.first_from-last.ensures.point).0

pub slice_bounds-result-start : goal.slice_bounds-result-start
slice_bounds-result-start c =
    (run_between (λ e. is_before e.parent e.child c.args.parent c.args.start)
    (λ e. is_before e.parent e.child c.args.parent c.args.end) c.args.edges.now c.first_from-first.result
    c.first_from-last.result
    (λ e is. before_later e.parent e.child c.args.parent c.args.start c.args.end c.requires.upward is)
    c.first_from-first.ensures.within c.first_from-last.ensures.within c.first_from-first.ensures.point
    c.first_from-last.ensures.point).0

pub returns : goal.returns
returns c =
    (run_between (λ e. is_before e.parent e.child c.args.parent c.args.start)
    (λ e. is_before e.parent e.child c.args.parent c.args.end) c.args.edges.now c.first_from-first.result
    c.first_from-last.result
    (λ e is. before_later e.parent e.child c.args.parent c.args.start c.args.end c.requires.upward is)
    c.first_from-first.ensures.within c.first_from-last.ensures.within c.first_from-first.ensures.point
    c.first_from-last.ensures.point).1
