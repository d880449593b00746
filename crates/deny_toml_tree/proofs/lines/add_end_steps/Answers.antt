use Rattle.std.proofs.Common.{◌++◌, sym, ap, ◌∙◌}
use Rattle.std.proofs.lemmas.Result.{on_ok_weaker}
use Rattle.deny_toml_tree.specs.Tree.{end_steps}
use Rattle.deny_toml_tree.proofs.lines.add_end_steps.Goals as goal

pub returns-in-Table : goal.returns-in-Table
returns-in-Table c =
    on_ok_weaker c.add_member_steps.result
    (λ more. more ∙ ap (λ path_end. c.args.found.now ++ end_steps path_end) (sym c.in-Table.is))
    c.add_member_steps.ensures
