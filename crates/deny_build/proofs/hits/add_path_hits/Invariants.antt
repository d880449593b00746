use Rattle.std.proofs.Common.{◌≡◌, ◌++◌, drop, map}
use Rattle.std.specs.List.{flat_map}
use Rattle.deny_cfg_build.specs.BuildingView.{path_view}
use Rattle.deny_spec_report.specs.Packages.{if_hit}
use Rattle.deny_build.specs.private.Hits.{path_hit_in}
use Rattle.deny_build.specs.private.FileMatch.{matched_view}
use Rattle.deny_build.proofs.hits.add_path_hits.Given as goal

abbrev pub invariant-loop-path : goal.invariant-loop-path
invariant-loop-path l =
    l.hits ++ flat_map (λ a. if_hit (path_hit_in (map matched_view l.matched) a)) (map path_view
    (drop l.path-index l.paths))
    ≡ l.fn.hits ++ flat_map (λ a. if_hit (path_hit_in (map matched_view l.matched) a)) (map path_view l.paths)
