use Rattle.std.proofs.Common.{◌≡◌, ◌++◌, map}
use Rattle.std.specs.List.{filter_map}
use Rattle.deny_base_lists.specs.TextMap.{with_bytes}
use Rattle.deny_base_disk.specs.Children.{entry_behind}
use Rattle.deny_base_disk.proofs.children.entries_behind.Given as goal

abbrev pub invariant-loop-path : goal.invariant-loop-path
invariant-loop-path l = l.entries ++ filter_map (entry_behind l.prefix) (map with_bytes l.path-iterator)
    ≡ filter_map (entry_behind l.prefix) (map with_bytes l.tree.entries)
