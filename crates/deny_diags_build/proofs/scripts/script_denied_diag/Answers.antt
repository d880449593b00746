use Rattle.std.proofs.Common.{◌∙◌}
use Rattle.std.proofs.lemmas.Result.{IfOk-weaker}
use Rattle.deny_spec_report.specs.PackageDiags.{script_denied_diag}
use Rattle.deny_diags_build.proofs.scripts.script_denied_diag.Goals as goal

pub returns : goal.returns
unfolding script_denied_diag
returns c = IfOk-weaker c.noted_message.result _ _
    (λ diag is. is ∙ rw (c.in_ok-message.ensures, c.in_ok-notes.ensures, c.new.ensures)) c.noted_message.ensures
