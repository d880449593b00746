use Rattle.deny_globs.proofs.StartLemmas.{starts_stay}
use Rattle.deny_globs.proofs.starts.add_start.Goals as goal
use Rattle.deny_base_lists.proofs.Results.{on_err_always}

pub returns-in_err-beginning-clause-err : goal.returns-in_err-beginning-clause-err
returns-in_err-beginning-clause-err c = on_err_always c.from_residual.result (starts_stay c.requires)

pub returns-in_err-ending-clause-err : goal.returns-in_err-ending-clause-err
returns-in_err-ending-clause-err c = on_err_always c.from_residual-in_err-ending.result (starts_stay c.requires)
