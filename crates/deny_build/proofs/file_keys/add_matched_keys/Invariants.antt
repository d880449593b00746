use Rattle.std.proofs.Common.{◌≡◌, ◌++◌, drop, map}
use Rattle.std.specs.List.{flat_map}
use Rattle.deny_build.specs.private.Files.{matched_keys}
use Rattle.deny_build.specs.private.FileMatch.{matched_view}
use Rattle.deny_build.proofs.file_keys.add_matched_keys.Given as goal

abbrev pub invariant-loop-matched : goal.invariant-loop-matched
invariant-loop-matched l =
    l.keys ++ flat_map (matched_keys l.own l.scripts l.place) (map matched_view (drop l.matched-index l.all))
    ≡ l.fn.keys ++ flat_map (matched_keys l.own l.scripts l.place) (map matched_view l.all)
