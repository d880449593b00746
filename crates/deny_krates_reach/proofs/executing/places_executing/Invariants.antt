use Rattle.std.proofs.Common.{◌≡◌, ◌++◌, drop}
use Rattle.deny_krates.specs.Crates.{crates_from}
use Rattle.deny_krates_reach.specs.private.Executing.{places_executing}
use Rattle.deny_krates_reach.proofs.executing.places_executing.Given as goal

abbrev pub invariant-loop-krate : goal.invariant-loop-krate
invariant-loop-krate l = record {
  place : l.place ≡ l.krate-index;
  so_far : l.places ++ places_executing (crates_from l.krate-index (drop l.krate-index l.krates))
      ≡ places_executing (crates_from 0 l.krates);
}
