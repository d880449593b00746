-- The files of the walked crates that use a bypass.
use Rattle.std.specs.Prelude.{◌&&◌, Bool, List, [], Some, if◌then◌else◌}
use Rattle.std.specs.List.{flat_map}
use Rattle.deny_spec.specs.Building.{Bypass}
use Rattle.deny_spec_report.specs.BuildScripts.{uses}
use Rattle.deny_spec_report.specs.Packages.{Scanning, checks, package_of, walks}
use Rattle.deny_spec.specs.Graph.{Crate, kid_of}
use Rattle.deny_build.specs.private.FileMatch.{MatchedFile, all_matched}

-- a checked crate uses a bypass
abbrev pub is_user : Bypass → Scanning × Crate → Bool
is_user y at = checks at.0 at.1 && uses at.0.building y at.1

-- the files of a walked crate, with the paths of a bypass that match them
unfoldable pub matched_walked : Bypass → Scanning × Crate → List MatchedFile
matched_walked y at = if walks at.0 at.1 then all_matched (Some y) (kid_of at.1) (package_of at.0 at.1).files else []

unfoldable pub matched_of_user : Bypass → Scanning × Crate → List MatchedFile
matched_of_user y at = if walks at.0 at.1 && is_user y at
    then all_matched (Some y) (kid_of at.1) (package_of at.0 at.1).files else []

unfoldable pub matched_of_users : Scanning → Bypass → List MatchedFile
matched_of_users l y = flat_map (λ c. matched_of_user y (l, c)) l.graph.crates
