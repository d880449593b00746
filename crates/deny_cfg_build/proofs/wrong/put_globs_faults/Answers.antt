use Rattle.std.proofs.Common.{arith}
use Rattle.deny_cfg_build.specs.Wrong.{IsGlobFaultOf}
use Rattle.deny_cfg_build.proofs.WrongLaws.{any_all, any_more, any_none}
use Rattle.deny_cfg_build.proofs.wrong.put_globs_faults.Goals as goal

pub loop-glob-init : goal.loop-glob-init
loop-glob-init c = any_none IsGlobFaultOf c.args.globs.now c.args.faults.now

pub loop-glob-preserved : goal.loop-glob-preserved
loop-glob-preserved c =
    any_more IsGlobFaultOf c.args.globs.now c.loop-glob.glob-index c.glob-item.result c.args.faults.now
    c.loop-glob.faults _
    (omega (arith, c.loop-glob-test.true)) c.glob-item.is c.loop-glob.invariant c.in_ok-put_glob_fault.ensures

pub returns : goal.returns
returns c =
    any_all IsGlobFaultOf c.args.globs.now c.loop-glob.glob-index c.args.faults.now c.loop-glob.faults
    (omega (arith, c.loop-glob-test.false)) c.loop-glob.invariant
