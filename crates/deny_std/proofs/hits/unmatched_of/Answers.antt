use Rattle.std.proofs.Common.{◌++◌, List, Contains, map, ap, ◌∙◌, subst}
use Rattle.deny_base_lists.specs.Ascending.{Lists}
use Rattle.deny_base.specs.KeyOrder.{span_cmp}
use Rattle.deny_std.specs.declared.diags.Unmatched.{Unmatched}
use Rattle.deny_std.specs.private.Hits.{unmatched_in, unmatched_span}
use Rattle.deny_std.proofs.hits.unmatched_of.Goals as goal

pub returns-clause-listed : goal.returns-clause-listed
returns-clause-listed c =
    let olds = unmatched_in c.args.witnesses.now c.args.entries.now in
    subst (λ (us : List Unmatched). Lists span_cmp (Contains (map unmatched_span us))
    (map unmatched_span c.put_records_in_order.new.list))
    (c.in_ok-add_unmatched.ensures ∙ ap (λ (us : List Unmatched). us ++ olds) c.new-unmatched.ensures)
    c.in_ok-put_records_in_order.ensures.keys
