use Rattle.std.proofs.Common.{◌≡◌, ◌++◌, map, take}
use Rattle.deny_cfg.specs.Clashes.{build_clash}
use Rattle.deny_cfg.proofs.clashes.put_faults.Given as goal

abbrev pub invariant-loop-fault : goal.invariant-loop-fault
invariant-loop-fault l = l.clashes ≡ l.fn.clashes ++ map build_clash (take l.fault-index l.faults)
