use Rattle.std.proofs.Common.{refl}
use Rattle.deny_toml_tree.proofs.EntryLaws.{found_entry, no_entry}
use Rattle.deny_toml_tree.proofs.calls.entry_at.Goals as goal

pub returns-in_err-index : goal.returns-in_err-index
returns-in_err-index c =
    rw c.from_residual.ensures (no_entry c.args.name.now _ _ c.index_named.result refl c.index_named.ensures
    c.in_err-index.was)

pub returns : goal.returns
returns c =
    found_entry c.args.name.now _ _ c.index_named.result c.in_ok-index.index _ refl c.index_named.ensures
    c.in_ok-index.was
    c.index-entries-index.is
