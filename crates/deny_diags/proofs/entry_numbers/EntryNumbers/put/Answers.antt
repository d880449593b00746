use Rattle.std.proofs.Common.{Bool, Some, ap, sym, ◌∙◌}
use Rattle.std.specs.Prelude.{cond}
use Rattle.deny_base_lists.proofs.Orders.{is_eq-nat_cmp, is_eq-then}
use Rattle.deny_spec.proofs.SpanLemmas.{is_eq-span_cmp}
use Rattle.deny_spec.specs.Wrappers.{same_span}
use Rattle.deny_diags.specs.private.EntryNumbers.{list_number, number_at, same_list}
use Rattle.deny_diags.proofs.entry_numbers.EntryNumbers.put.Goals as goal

pub returns : goal.returns
returns c l r =
    let list = c.args.list in
    let span = c.args.span in
    c.in_ok-insert.ensures.updates.0 (record { list = l; span = r })
    ∙ ap (λ (b : Bool). cond b (Some c.args.number) (number_at c.args.self.now l r))
    (sym (is_eq-then (same_list list l) (same_span span r) _ _
    (sym (is_eq-nat_cmp (list_number list) (list_number l))) (sym (is_eq-span_cmp span r))))
