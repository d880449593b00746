-- Dead entries as they are gathered.
use Rattle.std.specs.Prelude.{Bool, List, Option, None, Some, option_and_then, if◌then◌else◌}
use Rattle.std.specs.List.{list_any}
use Rattle.std.specs.Ordering.{eq_by_cmp}
use Rattle.deny_base.specs.Entry.{entry_cmp}
use Rattle.deny_base.specs.declared.entry.EntryId.{EntryId}
use Rattle.deny_base.specs.declared.key.Key.{Key}
use Rattle.deny_spec_removal.specs.Dead.{unused_entry}

-- an entry is in the list
unfoldable pub is_among : List EntryId → EntryId → Bool
is_among entries e = list_any (λ other. eq_by_cmp entry_cmp other e) entries

-- the entry that a key names as unused, unless it is one of those that are hit
unfoldable pub dead_entry : List EntryId → Key → Option EntryId
dead_entry hit key = option_and_then (λ e. if is_among hit e then None else Some e) (unused_entry key)
