use Rattle.std.proofs.Common.{sym, ◌∙◌}
use Rattle.deny_toml_tree.proofs.PathLaws.{sliced_parts, no_slash_in}
use Rattle.deny_toml_tree.proofs.calls.first_part.Goals as goal

pub returns-in_err-end-clause-none : goal.returns-in_err-end-clause-none
returns-in_err-end-clause-none c = rw c.from_residual.ensures
    (no_slash_in c.args.path.now (sym c.slash_in.ensures ∙ c.in_err-end.was))

pub returns-clause-parts : goal.returns-clause-parts
returns-clause-parts c = sliced_parts c.args.path.now c.in_ok-end.end (sym c.slash_in.ensures ∙ c.in_ok-end.was)
