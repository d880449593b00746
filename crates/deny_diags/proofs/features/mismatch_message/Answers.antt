use Rattle.std.proofs.Common.{◌∙◌}
use Rattle.std.proofs.lemmas.Result.{IfOk-weaker}
use Rattle.deny_diags.proofs.features.mismatch_message.Goals as goal

pub returns : goal.returns
returns c =
    IfOk-weaker c.sentence_message.result _ _ (λ diag is. is ∙ rw (c.in_ok-labels.ensures)) c.sentence_message.ensures
