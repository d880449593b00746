use Rattle.std.proofs.Common.{◌≡◌, ◌++◌, false, drop}
use Rattle.std.specs.List.{filter_map}
use Rattle.deny_build_walk.specs.private.Taking.{path_taken}
use Rattle.deny_build_walk.proofs.walk.take_files.Given as goal

abbrev pub invariant-loop-entry : goal.invariant-loop-entry
invariant-loop-entry l =
    l.files ++ filter_map (path_taken l.by_git l.root l.folder false) (drop l.entry-index l.entries)
    ≡ l.initial.files ++ filter_map (path_taken l.by_git l.root l.folder false) l.entries
