use Rattle.std.proofs.Common.{◌∙◌}
use Rattle.std.specs.Prelude.{option_copied}
use Rattle.deny_spans_workspace.proofs.EntryLemmas.{replaced_so}
use Rattle.deny_spans_workspace.specs.Entries.{keys_in}
use Rattle.deny_spans_workspace.specs.private.DepSpec.{dep_spec_view}
use Rattle.deny_spans_workspace.proofs.entries.patched_entry.Goals as goal

pub returns : goal.returns
returns c =
    replaced_so (keys_in (option_copied c.args.patches)) c.args.key.now c.args.value (dep_spec_view c.args.spec)
    c.in_ok-name.name c.as_str-2.result.now _ _ (c.in_ok-name.ensures ∙ c.as_str.ensures) c.as_str-2.ensures
    c.in_ok-patch.ensures c.entry_or_patch.ensures
