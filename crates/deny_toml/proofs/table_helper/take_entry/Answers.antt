use Rattle.deny_toml_tree.proofs.EntryLaws.{taken_entry, left_entries, no_entry, all_left}
use Rattle.deny_toml.proofs.table_helper.take_entry.Goals as goal

pub returns-in_err-index-clause-taken : goal.returns-in_err-index-clause-taken
returns-in_err-index-clause-taken c =
    rw c.from_residual.ensures (no_entry c.args.name.now _ _ c.index_named.result c.as_slice.ensures
    c.index_named.ensures
    c.in_err-index.was)

pub returns-in_err-index-clause-left : goal.returns-in_err-index-clause-left
returns-in_err-index-clause-left c =
    all_left c.args.name.now _ _ c.index_named.result c.as_slice.ensures c.index_named.ensures c.in_err-index.was

pub returns-clause-taken : goal.returns-clause-taken
returns-clause-taken c =
    taken_entry c.args.name.now c.args.entries.now _ _ c.index_named.result c.in_ok-index.index c.remove.result
    c.as_slice.ensures c.entries.view_is c.index_named.ensures c.in_ok-index.was c.remove.ensures.value

pub returns-clause-left : goal.returns-clause-left
returns-clause-left c =
    left_entries c.args.name.now c.args.entries.now _ _ _ c.index_named.result c.in_ok-index.index c.remove.result
    c.as_slice.ensures c.entries.view_is c.index_named.ensures c.in_ok-index.was c.remove.ensures.items
