use Rattle.std.proofs.Common.{◌∙◌, subst}
use Rattle.deny_globs.specs.Faults.{FirstFault, IsBadAt}
use Rattle.deny_globs.proofs.FaultIndex.{bad_once, bad_byte}
use Rattle.deny_globs.specs.Tree.{IsGlob}
use Rattle.deny_globs.proofs.Once.{glob_once, no_fault}
use Rattle.deny_globs.proofs.glob.Glob.parse.Goals as goal

pub returns-in-Ok-clause-only : goal.returns-in-Ok-clause-only
returns-in-Ok-clause-only c other g =
    glob_once _ c.in-Ok.tokens other
    (subst (λ l. IsGlob l c.in-Ok.tokens) (c.deref.ensures.value ∙ c.in_ok-characters.ensures) c.in-Ok.ensures.ok) g

pub returns-in-Err-Fault-clause-no_glob : goal.returns-in-Err-Fault-clause-no_glob
returns-in-Err-Fault-clause-no_glob c byte e other g =
    let stop = rw c.in-Err-Fault.field-0-is at c.in-Err-Fault.ensures.stop in
    no_fault {i = c.in-Err-Fault.character} other
    (subst (λ l. FirstFault l c.in-Err-Fault.character) (c.deref.ensures.value ∙ c.in_ok-characters.ensures) stop) g

pub returns-in-Err-Fault-clause-first : goal.returns-in-Err-Fault-clause-first
returns-in-Err-Fault-clause-first c byte e other b =
    let stop = rw c.in-Err-Fault.field-0-is at c.in-Err-Fault.ensures.stop in
    let here : IsBadAt c.args.text.now byte = record {
      character = c.in-Err-Fault.character;
      fault = subst (λ l. FirstFault l c.in-Err-Fault.character) (c.deref.ensures.value ∙ c.in_ok-characters.ensures)
          stop;
      offset = bad_byte e ∙ c.byte_of.ensures;
    } in
    bad_once c.args.text.now byte other here b
