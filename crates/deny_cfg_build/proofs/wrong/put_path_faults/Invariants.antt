use Rattle.std.proofs.Common.{◌≡◌, ◌++◌, drop}
use Rattle.std.specs.Prelude.{filter_map}
use Rattle.deny_cfg_build.specs.Wrong.{path_fault}
use Rattle.deny_cfg_build.proofs.wrong.put_path_faults.Given as goal

abbrev pub invariant-loop-file : goal.invariant-loop-file
invariant-loop-file l =
    l.faults ++ filter_map path_fault (drop l.file-index l.fn.bypass.allow)
    ≡ l.fn.faults ++ filter_map path_fault l.fn.bypass.allow
