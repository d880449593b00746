use Rattle.std.proofs.Common.{[], ◌∷◌, ◌++◌, sym, ap, ◌∙◌}
use Rattle.std.proofs.lemmas.Result.{on_ok_weaker}
use Rattle.deny_toml_tree.specs.Tree.{line_steps}
use Rattle.deny_toml_tree.proofs.lines.add_steps.Goals as goal

pub returns-in-Some : goal.returns-in-Some
returns-in-Some c =
    on_ok_weaker c.push.result
    (λ more. more ∙ ap (λ s. c.args.found.now ++ s ∷ []) c.step.ensures
    ∙ ap (λ path. c.args.found.now ++ line_steps c.args.line.path_end path) (sym c.in-Some.ensures)) c.push.ensures.ok

pub returns-in-None : goal.returns-in-None
returns-in-None c =
    on_ok_weaker c.add_end_steps.result
    (λ more. more ∙ ap (λ path. c.args.found.now ++ line_steps c.args.line.path_end path) (sym c.in-None.ensures.0))
    c.add_end_steps.ensures
