use Rattle.std.proofs.Common.{take}
use Rattle.deny_base_lists.specs.Ascending.{Adds}
use Rattle.deny_cfg_build.specs.Wrong.{IsGlobFault, IsOfAny}
use Rattle.deny_cfg_build.proofs.wrong.put_bypass_faults.Given as goal

abbrev pub invariant-loop-entry : goal.invariant-loop-entry
invariant-loop-entry l = Adds (IsOfAny IsGlobFault (take l.entry-index l.bypass)) l.fn.faults l.faults
