use Rattle.std.proofs.Common.{◌≡◌, ◌++◌, drop}
use Rattle.std.specs.List.{filter_map, enumerate_from}
use Rattle.deny_base_disk.specs.MemoryDisk.{folder_at, folders_of}
use Rattle.deny_base_disk.proofs.memory_disk.folders_of.Given as goal

abbrev pub invariant-loop-offset : goal.invariant-loop-offset
invariant-loop-offset l =
    l.folders ++ filter_map (folder_at l.path) (enumerate_from l.offset (drop l.offset l.path)) ≡ folders_of l.path
