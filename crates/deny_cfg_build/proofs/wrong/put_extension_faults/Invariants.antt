use Rattle.std.proofs.Common.{◌≡◌, ◌++◌, drop}
use Rattle.std.specs.Prelude.{filter_map}
use Rattle.deny_cfg_build.specs.Wrong.{extension_fault}
use Rattle.deny_cfg_build.proofs.wrong.put_extension_faults.Given as goal

abbrev pub invariant-loop-extension : goal.invariant-loop-extension
invariant-loop-extension l =
    l.faults ++ filter_map (extension_fault l.source) (drop l.extension-index l.extensions)
    ≡ l.fn.faults ++ filter_map (extension_fault l.source) l.extensions
