use Rattle.std.proofs.Common.{[], ◌∷◌, ◌++◌, ap, ◌∙◌}
use Rattle.std.proofs.lemmas.Result.{on_ok_weaker}
use Rattle.deny_toml_tree.proofs.tree.add_member.Goals as goal

pub returns : goal.returns
returns c =
    on_ok_weaker c.push.result
    (λ more. more ∙ ap (λ m. c.args.members.now ++ m ∷ []) c.in_ok-member_of.ensures) c.push.ensures.ok
