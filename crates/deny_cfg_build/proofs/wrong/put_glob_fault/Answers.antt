use Rattle.std.proofs.Common.{Err, ap, subst, sym}
use Rattle.deny_base_lists.specs.Ascending.{Adds}
use Rattle.deny_cfg_build.specs.Wrong.{IsGlobFaultOf}
use Rattle.deny_cfg_build.proofs.WrongLaws.{fault_none, fault_one, on_err, on_ok}
use Rattle.deny_cfg_build.proofs.wrong.put_glob_fault.Goals.{in-Ok, in-Err-Bad+in_ok-push-in-Err-Bad, in-Err-Memory}
use Rattle.deny_cfg_build.proofs.wrong.put_glob_fault.Goals as goal

pub returns : goal.returns
returns c =
    let old = c.args.faults.now in
    let text = c.as_str.result.now in
    elim c.match-parse.branch [
      | in-Ok w ↦ on_ok c.match-parse.result _
          (subst (Adds (IsGlobFaultOf c.args.glob.now) old) (sym w.faults-is)
          (fault_none c.args.glob.now old text _ c.as_str.ensures w.in-Ok.ensures.ok))
      | in-Err-Bad+in_ok-push-in-Err-Bad w ↦
          on_ok c.match-parse.result _
          (subst (Adds (IsGlobFaultOf c.args.glob.now) old) (sym w.faults-is)
          (fault_one c.args.glob.now text w.in-Err-Bad.byte old w.push.new.self c.as_str.ensures
          (w.in-Err-Bad.ensures.bad w.in-Err-Bad.byte (ap Err w.in-Err-Bad.field-0-is))
          (w.in-Err-Bad.ensures.first w.in-Err-Bad.byte (ap Err w.in-Err-Bad.field-0-is))
          w.in_ok-push-in-Err-Bad.ensures.ok))
      | in-Err-Memory w ↦ on_err c.match-parse.result _ _ w.result-is
    ]
