use Rattle.std.proofs.Common.{◌≡◌, ◌++◌, drop, map}
use Rattle.std.specs.List.{flat_map}
use Rattle.deny_cfg_build.specs.BuildingView.{bypass_view}
use Rattle.deny_build.specs.private.ScannedKrates.{scanned_view}
use Rattle.deny_build.specs.private.FileMatch.{matched_view}
use Rattle.deny_build.specs.private.Users.{matched_walked}
use Rattle.deny_build.proofs.hits.matched_of_group.Given as goal

abbrev pub invariant-loop-at : goal.invariant-loop-at
invariant-loop-at l =
    map matched_view l.matched.items
    ++ flat_map (matched_walked (bypass_view l.bypass)) (map (λ u. scanned_view u.now) (drop l.at-index l.group))
    ≡ flat_map (matched_walked (bypass_view l.bypass)) (map (λ u. scanned_view u.now) l.group)
