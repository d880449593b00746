use Rattle.std.proofs.Common.{◌≡◌, ◌++◌, drop, map}
use Rattle.deny_krates.specs.Crates.{crates_from}
use Rattle.deny_krates_lock.specs.private.Placed.{placed_view}
use Rattle.deny_krates_lock.proofs.order.placed_of.Given as goal

abbrev pub invariant-loop-place : goal.invariant-loop-place
invariant-loop-place l =
    map placed_view l.placed.items ++ crates_from l.place (drop l.place l.krates) ≡ crates_from 0 l.krates
