use Rattle.std.proofs.Common.{◌++◌, ◌∷◌, [], ap, ◌∙◌}
use Rattle.deny_base.specs.declared.label.Label.{Label}
use Rattle.deny_diags.proofs.features.add_missing_label.Goals as goal

pub returns : goal.returns
returns c = c.in_ok-push.ensures.ok
    ∙ ap (λ (label : Label). c.args.labels.now ++ label ∷ []) c.in_ok-primary.ensures
