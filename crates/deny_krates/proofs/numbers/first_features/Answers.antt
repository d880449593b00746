use Rattle.std.proofs.Common.{refl, arith}
use Rattle.deny_krates.proofs.NumberLemmas.{room_first}
use Rattle.deny_krates.proofs.numbers.first_features.Goals as goal

pub overflow_cast-next : goal.overflow_cast-next
overflow_cast-next c = omega (arith, c.loop-krate.invariant.room, c.requires)

pub loop-krate-init : goal.loop-krate-init
loop-krate-init c = record {
  room = room_first c.args.krates.now;
  made = rw c.new-starts.ensures refl;
}
