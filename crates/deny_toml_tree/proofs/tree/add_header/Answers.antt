use Rattle.std.proofs.Common.{[], ◌∷◌, ◌++◌, ap, ◌∙◌}
use Rattle.std.proofs.lemmas.Result.{on_ok_weaker}
use Rattle.deny_toml_tree.specs.Tree.{header_line}
use Rattle.deny_toml_tree.proofs.tree.add_header.Goals as goal

pub returns-clause-found : goal.returns-clause-found
returns-clause-found c =
    on_ok_weaker c.push.result
    (λ more. more ∙ ap (λ l. c.args.found.now ++ l ∷ [])
    (c.header_line.ensures ∙ ap (λ h. header_line c.args.span h c.replace-below.result) c.replace-ended.ensures.value
    ∙ ap (λ ms. header_line c.args.span c.args.header.now ms) c.replace-below.ensures.value)) c.push.ensures.ok

pub returns-clause-header : goal.returns-clause-header
returns-clause-header c = c.replace-ended.ensures.after

pub returns-clause-members : goal.returns-clause-members
returns-clause-members c = c.replace-below.ensures.after ∙ c.new.ensures
