use Rattle.std.proofs.Common.{◌≡◌, ◌≤◌, drop, length}
use Rattle.deny_build_file.proofs.HomeLemmas.{texts}
use Rattle.deny_build_file.specs.private.Home.{parts_below}
use Rattle.deny_build_file.proofs.home.parts_below.Given as goal

abbrev pub invariant-loop-name : goal.invariant-loop-name
invariant-loop-name l = record {
  within : l.index ≤ length l.own;
  same : parts_below (texts l.names) (texts l.own)
      ≡ parts_below (texts (drop l.name-index l.names)) (texts (drop l.index l.own));
}
