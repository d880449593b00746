use Rattle.std.proofs.Common.{◌≤◌, ◌-◌, length, arith}
use Rattle.deny_krates.proofs.Runs.{named_inside, named_run, upward}
use Rattle.deny_krates.proofs.names.run_of.Goals as goal

pub returns-clause-upward : goal.returns-clause-upward
returns-clause-upward c =
    upward c.args.name.now c.args.krates.now _ _ c.first_at_least-start.ensures.within
    (λ k d a. c.first_at_least-start.ensures.point.0 k d (omega arith) a)
    (λ k d a b. c.first_above-end.ensures.point.1 k d a b)

pub returns-clause-named : goal.returns-clause-named
returns-clause-named c =
    let start = c.first_at_least-start.result in
    let end = c.first_above-end.result in
    let up : start ≤ end = returns-clause-upward c in
    let in_all : end ≤ length c.args.krates.now = c.first_above-end.ensures.within in
    named_run c.args.name.now 0 c.args.krates.now start (end - start) (omega arith)
    (λ k d a. c.first_at_least-start.ensures.point.0 k d (omega arith) a)
    (λ k d a b. c.first_at_least-start.ensures.point.1 k d a b)
    (λ k d a. c.first_above-end.ensures.point.0 k d (omega arith) (omega arith))
    (λ k d a b. c.first_above-end.ensures.point.1 k d (omega arith) b)

pub returns-clause-all : goal.returns-clause-all
returns-clause-all c place passes =
    named_inside c.args.name.now c.args.krates.now c.first_at_least-start.result c.first_above-end.result place
    (λ k d a. c.first_at_least-start.ensures.point.0 k d (omega arith) a)
    (λ k d a b. c.first_above-end.ensures.point.1 k d a b) passes
