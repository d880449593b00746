use Rattle.std.proofs.Common.{◌≡◌, ◌++◌, drop, map}
use Rattle.std.specs.Prelude.{filter_map, option_copied}
use Rattle.deny_spans_workspace.specs.Entries.{entry_of, keys_in}
use Rattle.deny_spans_workspace.specs.private.Entries.{entry_view}
use Rattle.deny_spans_workspace.proofs.entries.entries_of.Given as goal

abbrev pub invariant-loop-key : goal.invariant-loop-key
invariant-loop-key l =
    map entry_view l.entries ++ filter_map (entry_of (keys_in (option_copied l.patches))) (drop l.key-index l.key-items)
    ≡ filter_map (entry_of (keys_in (option_copied l.patches))) l.key-items
