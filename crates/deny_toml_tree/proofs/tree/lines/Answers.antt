use Rattle.std.proofs.Common.{[], ◌∷◌, ◌++◌, sym, ap, ◌∙◌}
use Rattle.deny_toml_tree.proofs.TreeLaws.{lines_begin}
use Rattle.deny_toml_tree.proofs.tree.lines.Goals as goal

pub returns : goal.returns
returns c =
    c.in_ok-push.ensures.ok ∙ ap (λ l. c.add_expressions.new.found ++ l ∷ []) c.header_line.ensures
    ∙ sym c.in_ok-add_expressions.ensures
    ∙ lines_begin c.args.span c.args.expressions _ _ _ c.new-found.ensures c.new.ensures c.new-members.ensures
