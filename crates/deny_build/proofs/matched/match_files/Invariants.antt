use Rattle.std.proofs.Common.{◌≡◌, ◌++◌, drop, map, option_map}
use Rattle.deny_cfg_build.specs.BuildingView.{bypass_view}
use Rattle.deny_build.specs.private.FileMatch.{all_matched, matched_view}
use Rattle.deny_build.proofs.matched.match_files.Given as goal

abbrev pub invariant-loop-file : goal.invariant-loop-file
invariant-loop-file l =
    map matched_view l.all.items
    ++ all_matched (option_map (λ y. bypass_view y.now) l.allowed.bypass) l.kid (drop l.file-index l.files)
    ≡ map matched_view l.fn.all.items ++ all_matched (option_map
    (λ y. bypass_view y.now) l.allowed.bypass) l.kid l.files
