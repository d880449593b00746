use Rattle.std.proofs.Common.{◌≡◌, ◌-◌, None, [], ◌∷◌, ◌++◌, map, map-id, sym, ap, ◌∙◌}
use Rattle.std.proofs.lemmas.List.{map-append}
use Rattle.std.proofs.lemmas.Map.Iter.{iter_end}
use Rattle.std.proofs.lemmas.Result.{IfOk-weaker}
use Rattle.deny_toml_tree.specs.Value.{table_with}
use Rattle.deny_toml_tree.specs.Tree.{table, table_value, array_value, value_of_lines, entry_of, assigned}
use Rattle.deny_toml_tree.specs.Tree.{starts_array}
use Rattle.deny_toml_tree.proofs.TreeValues.{table_none, table_some, value_assigned, value_array, value_table}
use Rattle.deny_toml_tree.proofs.tables.+tables.Goals as goal

pub table-returns-then-depth-eq0 : goal.table-returns-then-depth-eq0
table-returns-then-depth-eq0 t c = ap table_with c.new.ensures
    ∙ sym (table_none c.args.depth c.args.lines c.if-depth-eq0.true)

pub table-groups-preserved : goal.table-groups-preserved
table-groups-preserved t c =
    let at = c.groups in
    let entry = entry_of (table (c.args.depth - 1)) in
    c.in_ok-add_entry.ensures
    ∙ ap (λ es. es ++ entry (c.in-Some.name, c.in-Some.lines) ∷ []) at.invariant
    ∙ sym (map-append entry at.yielded ((c.in-Some.name, c.in-Some.lines) ∷ []))

pub table-returns : goal.table-returns
table-returns t c =
    let at = c.groups in
    let end =
    iter_end (λ p. p) c.in_ok-items.items.entries at.yielded c.into_iter-name-iterator.result at.name-iterator
    c.next.new.self c.next.result
    c.into_iter-name-iterator.ensures.into_iter_gives.0 at.yielded_by c.in-None.is c.next.ensures.steps in
    let seen = sym (map-id at.yielded) ∙ end.0 ∙ c.in_ok-items.ensures in
    ap table_with (at.invariant ∙ ap (map (entry_of (table (c.args.depth - 1)))) seen)
    ∙ sym (table_some c.args.depth c.args.lines c.if-depth-eq0.false)

pub value_of_lines-returns-in-Some : goal.value_of_lines-returns-in-Some
value_of_lines-returns-in-Some t c = value_assigned (table c.args.depth) c.args.lines c.in-Some.value
    (sym c.in-Some.ensures.value)

pub value_of_lines-returns-then-starts_array : goal.value_of_lines-returns-then-starts_array
value_of_lines-returns-then-starts_array t c =
    let below = table c.args.depth in
    let none : c.assigned.result ≡ None = c.in_default.is in
    let unassigned : assigned c.args.lines ≡ None = sym c.assigned.ensures.value ∙ none in
    let same = c.assigned.ensures.others none in
    let starts : c.starts_array.result ≡ starts_array c.args.lines = c.starts_array.ensures
    ∙ ap starts_array (c.as_slice.ensures ∙ same) in
    IfOk-weaker c.array_value.result _ (λ value. value ≡ value_of_lines below c.args.lines)
    (λ value is. is ∙ ap (array_value below) same
    ∙ value_array below c.args.lines unassigned (sym starts ∙ c.if-starts_array.true)) c.array_value.ensures

pub value_of_lines-returns-else-starts_array : goal.value_of_lines-returns-else-starts_array
value_of_lines-returns-else-starts_array t c =
    let below = table c.args.depth in
    let none : c.assigned.result ≡ None = c.in_default.is in
    let unassigned : assigned c.args.lines ≡ None = sym c.assigned.ensures.value ∙ none in
    let same = c.assigned.ensures.others none in
    let starts : c.starts_array.result ≡ starts_array c.args.lines = c.starts_array.ensures
    ∙ ap starts_array (c.as_slice.ensures ∙ same) in
    IfOk-weaker c.table_value.result _ (λ value. value ≡ value_of_lines below c.args.lines)
    (λ value is. is ∙ ap (table_value below) same
    ∙ value_table below c.args.lines unassigned (sym starts ∙ c.if-starts_array.false)) c.table_value.ensures
