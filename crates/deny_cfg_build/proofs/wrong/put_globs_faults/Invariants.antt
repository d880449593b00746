use Rattle.std.proofs.Common.{take}
use Rattle.deny_base_lists.specs.Ascending.{Adds}
use Rattle.deny_cfg_build.specs.Wrong.{IsGlobFaultOf, IsOfAny}
use Rattle.deny_cfg_build.proofs.wrong.put_globs_faults.Given as goal

abbrev pub invariant-loop-glob : goal.invariant-loop-glob
invariant-loop-glob l = Adds (IsOfAny IsGlobFaultOf (take l.glob-index l.globs)) l.fn.faults l.faults
