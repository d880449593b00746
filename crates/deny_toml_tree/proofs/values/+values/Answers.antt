use Rattle.std.proofs.Common.{[], ◌∷◌, ◌++◌, sym, ap, ◌∙◌}
use Rattle.std.proofs.lemmas.List.{map-append}
use Rattle.deny_toml_tree.specs.declared.value.Content.TheVariants as content
use Rattle.deny_toml_tree.specs.Tree.{table_of_members, written_value, written_member}
use Rattle.deny_toml_tree.proofs.TreeValues.{members_in}
use Rattle.deny_toml_tree.proofs.values.+values.Goals as goal

pub content_of-returns-in_ok-inline_table-in-InlineTable : goal.content_of-returns-in_ok-inline_table-in-InlineTable
content_of-returns-in_ok-inline_table-in-InlineTable t c =
    ap content.Table (c.in_ok-inline_table-in-InlineTable.ensures
    ∙ ap (table_of_members c.args.span) c.in_ok-members-in-InlineTable.ensures)
    ∙ members_in c.args.span c.args.written c.in-InlineTable.assignments c.in-InlineTable.is

pub values_of-written-preserved : goal.values_of-written-preserved
values_of-written-preserved t c =
    let at = c.written in
    let element = c.in-Some.element in
    c.in_ok-push.ensures.ok
    ∙ ap (λ value. at.values ++ value ∷ []) c.in_ok-value_of.ensures
    ∙ ap (λ values. values ++ written_value element ∷ []) at.invariant
    ∙ sym (map-append written_value at.yielded (element ∷ []))

pub members_of-assignments-preserved : goal.members_of-assignments-preserved
members_of-assignments-preserved t c =
    let at = c.assignments in
    let assignment = c.in-Some.assignment in
    c.in_ok-push.ensures.ok
    ∙ ap (λ member. at.members ++ member ∷ []) c.in_ok-member_of.ensures
    ∙ ap (λ members. members ++ written_member assignment ∷ []) at.invariant
    ∙ sym (map-append written_member at.yielded (assignment ∷ []))
