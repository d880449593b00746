use Rattle.std.proofs.Common.{◌≡◌, drop}
use Rattle.deny_build_file.proofs.HomeLemmas.{texts}
use Rattle.deny_build_file.specs.Home.{parts_behind}
use Rattle.deny_build_file.proofs.home.next_component.Given as goal

abbrev pub invariant-loop-start : goal.invariant-loop-start
invariant-loop-start l = parts_behind 0 (texts (drop l.index l.own)) ≡ parts_behind 0 (texts (drop l.start l.own))
