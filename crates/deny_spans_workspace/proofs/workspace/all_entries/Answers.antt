use Rattle.std.proofs.Common.{◌∙◌, ap, map, subst, sym}
use Rattle.deny_spans_workspace.specs.Entries.{entries_of, keys_in, patches_in}
use Rattle.deny_spans_workspace.specs.private.Entries.{Ascends, entry_view}
use Rattle.deny_spans_workspace.specs.declared.manifest_key.ManifestKey.TheVariants as key
use Rattle.deny_spans_workspace.proofs.EntryLemmas.{ascends_below}
use Rattle.deny_spans_workspace.proofs.workspace.all_entries.Goals as goal

pub returns-in_default : goal.returns-in_default
unfolding entries_of
returns-in_default c =
    ap (map entry_view) c.new.ensures
    ∙ ap (λ table. entries_of (patches_in c.args.root.now) (keys_in table)) c.in_default.ensures

pub entries_of-requires : goal.entries_of-requires
entries_of-requires c = subst Ascends (sym c.table_below-patches.ensures)
    (ascends_below key.Patch key.CratesIo c.args.root.now c.requires)
