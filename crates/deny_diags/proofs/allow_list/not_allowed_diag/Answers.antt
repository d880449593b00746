use Rattle.std.proofs.Common.{◌∙◌}
use Rattle.std.proofs.lemmas.Result.{IfOk-weaker}
use Rattle.deny_spec_report.specs.AllowList.{not_allowed_diag}
use Rattle.deny_diags.proofs.allow_list.not_allowed_diag.Goals as goal

pub returns : goal.returns
unfolding not_allowed_diag
returns c =
    IfOk-weaker c.sentence_message.result _ _ (λ diag is. is ∙ rw (c.new.ensures)) c.sentence_message.ensures
