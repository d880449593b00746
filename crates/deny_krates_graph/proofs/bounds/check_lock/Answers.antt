use Rattle.std.proofs.Common.{◌≤◌, ◌-◌, ◌^◌, refl, arith}
use Rattle.deny_krates_graph.specs.Bounds.{lock_length, lock_line_length}
use Rattle.deny_krates_graph.specs.Crates.{crates_from}
use Rattle.deny_krates_graph.proofs.BoundsLemmas.{all_taken, taken}
use Rattle.deny_krates_graph.proofs.bounds.check_lock.Goals as goal

pub loop-krate-preserved : goal.loop-krate-preserved
loop-krate-preserved c =
    taken lock_line_length lock_length refl (λ c cs. refl) (λ m n k. refl) c.args.krates.now c.loop-krate.krate-index
    (2 ^ 29 - 1) c.loop-krate.left c.in_ok-left.left c.krate-item.result (omega (arith, c.loop-krate-test.true))
    c.krate-item.is c.in_ok-left.ensures c.loop-krate.invariant

pub returns : goal.returns
returns c =
    let within : lock_length (crates_from 0 c.args.krates.now) ≤ 2 ^ 29 - 1 =
    all_taken lock_line_length lock_length refl (λ c cs. refl) (λ m n k. refl) c.args.krates.now
    c.loop-krate.krate-index (2 ^ 29 - 1) c.loop-krate.left (omega (arith, c.loop-krate-test.false))
    c.loop-krate.invariant in
    omega (arith, within)
