use Rattle.std.proofs.Common.{◌≡◌, true, fold, drop}
use Rattle.std.specs.BTreeSet.{insert_key}
use Rattle.std.specs.Cmp.Lexicographic.{slice_cmp}
use Rattle.std.specs.List.{filter_map}
use Rattle.std.specs.Ordering.{nat_cmp}
use Rattle.deny_build_walk.specs.private.Taking.{path_taken}
use Rattle.deny_build_walk.proofs.walk.take_folders.Given as goal

abbrev pub invariant-loop-entry : goal.invariant-loop-entry
invariant-loop-entry l = fold (insert_key (slice_cmp nat_cmp)) l.pending.keys
    (filter_map (path_taken l.by_git l.root l.folder true) (drop l.entry-index l.entries))
    ≡ fold (insert_key (slice_cmp nat_cmp)) l.initial.pending.keys
    (filter_map (path_taken l.by_git l.root l.folder true) l.entries)
