use Rattle.std.proofs.Common.{◌≡◌, ◌≤◌, ◌+◌, ◌-◌, ◌^◌, ℕ, length, refl, arith}
use Rattle.deny_krates_graph.specs.Bounds.{node_count}
use Rattle.deny_krates_graph.specs.Crates.{crate_view, crates_from}
use Rattle.deny_spec.specs.Graph.{Crate}
use Rattle.deny_krates_graph.proofs.BoundsLemmas.{all_taken, taken}
use Rattle.deny_krates_graph.proofs.bounds.check_nodes.Goals as goal

abbrev nodes_of : Crate → ℕ
nodes_of c = 1 + length c.enabled

pub loop-krate-preserved : goal.loop-krate-preserved
loop-krate-preserved c =
    let k = c.krate-item.result in
    let took : c.in_ok-left.left + nodes_of (crate_view 0 k) ≡ c.loop-krate.left =
    omega (arith, c.in_ok-room.ensures, c.in_ok-left.ensures, c.len.ensures) in
    taken nodes_of node_count refl (λ c cs. refl) (λ m n k. refl) c.args.krates.now c.loop-krate.krate-index
    (2 ^ 32 - 1) c.loop-krate.left c.in_ok-left.left k (omega (arith, c.loop-krate-test.true)) c.krate-item.is took
    c.loop-krate.invariant

pub returns : goal.returns
returns c =
    let within : node_count (crates_from 0 c.args.krates.now) ≤ 2 ^ 32 - 1 =
    all_taken nodes_of node_count refl (λ c cs. refl) (λ m n k. refl) c.args.krates.now
    c.loop-krate.krate-index (2 ^ 32 - 1) c.loop-krate.left (omega (arith, c.loop-krate-test.false))
    c.loop-krate.invariant in
    omega (arith, within)
