use Rattle.std.proofs.Common.{[], ◌∷◌, ◌++◌, ap, ◌∙◌}
use Rattle.std.proofs.lemmas.Result.{on_ok_weaker}
use Rattle.deny_toml_tree.proofs.lines.begin_element.Goals as goal

pub returns : goal.returns
returns c =
    on_ok_weaker c.push.result
    (λ more. (
      more ∙ ap (λ t. c.args.found.now ++ t ∷ []) c.replace.ensures.value,
      c.replace.ensures.after ∙ c.in_ok-begun.ensures,
    )) c.push.ensures.ok
