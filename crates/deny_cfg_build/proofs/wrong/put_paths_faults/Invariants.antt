use Rattle.std.proofs.Common.{◌≡◌, ◌++◌, drop}
use Rattle.std.specs.List.{flat_map}
use Rattle.deny_cfg_build.specs.Wrong.{path_faults}
use Rattle.deny_cfg_build.proofs.wrong.put_paths_faults.Given as goal

abbrev pub invariant-loop-entry : goal.invariant-loop-entry
invariant-loop-entry l =
    l.faults ++ flat_map path_faults (drop l.entry-index l.bypass) ≡ l.fn.faults ++ flat_map path_faults l.bypass
