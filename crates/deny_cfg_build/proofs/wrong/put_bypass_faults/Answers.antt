use Rattle.std.proofs.Common.{arith}
use Rattle.deny_cfg_build.specs.Wrong.{IsGlobFault, IsGlobFaultOf}
use Rattle.deny_cfg_build.proofs.WrongLaws.{any_all, any_more, any_none, of_same}
use Rattle.deny_cfg_build.proofs.wrong.put_bypass_faults.Goals as goal

pub loop-entry-init : goal.loop-entry-init
loop-entry-init c = any_none IsGlobFault c.args.bypass.now c.args.faults.now

pub loop-entry-preserved : goal.loop-entry-preserved
loop-entry-preserved c =
    any_more IsGlobFault c.args.bypass.now c.loop-entry.entry-index c.entry-item.result c.args.faults.now
    c.loop-entry.faults _
    (omega (arith, c.loop-entry-test.true)) c.entry-item.is c.loop-entry.invariant
    (of_same IsGlobFaultOf c.listed.ensures c.in_ok-put_globs_faults.ensures)

pub returns : goal.returns
returns c =
    any_all IsGlobFault c.args.bypass.now c.loop-entry.entry-index c.args.faults.now c.loop-entry.faults
    (omega (arith, c.loop-entry-test.false)) c.loop-entry.invariant
