use Rattle.std.proofs.Common.{drop, ◌+◌, ◌∙◌, ap, sym, subst}
use Rattle.std.proofs.lemmas.List.{drop_more}
use Rattle.deny_toml_tree.specs.Calls.{digits_index}
use Rattle.deny_toml_tree.specs.private.Calls.{IsPast}
use Rattle.deny_toml_tree.proofs.PathLaws.{digits_index-end}
use Rattle.deny_toml_tree.proofs.calls.digits_index.Goals as goal

pub returns-in_err-index-clause-past : goal.returns-in_err-index-clause-past
returns-in_err-index-clause-past c =
    let l = c.digits in
    let ended = digits_index-end c.args.count l.index _ (drop (l.byte-index + 1) c.args.digits.now)
    c.in_err-index.ensures.past in
    rw c.from_residual.ensures
    (subst (λ o. IsPast c.args.count o) (ap (digits_index l.index)
    (sym (drop_more c.args.digits.now l.byte-index 0 c.digits-test.true)) ∙ l.invariant) ended)
