use Rattle.std.proofs.Common.{◌≡◌, ◌++◌, drop, map}
use Rattle.std.specs.List.{flat_map}
use Rattle.deny_cfg_build.specs.BuildingView.{words_of}
use Rattle.deny_spec_report.specs.Packages.{if_hit}
use Rattle.deny_build.specs.private.Hits.{glob_hit_in}
use Rattle.deny_build.specs.private.FileMatch.{matched_view}
use Rattle.deny_build.proofs.hits.add_glob_hits.Given as goal

abbrev pub invariant-loop-pattern : goal.invariant-loop-pattern
invariant-loop-pattern l =
    l.hits ++ flat_map (λ w. if_hit (glob_hit_in (map matched_view l.matched) w)) (map words_of
    (drop l.pattern-index l.globs))
    ≡ l.fn.hits ++ flat_map (λ w. if_hit (glob_hit_in (map matched_view l.matched) w)) (map words_of l.globs)
