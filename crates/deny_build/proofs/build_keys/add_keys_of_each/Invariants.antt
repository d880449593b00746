use Rattle.std.proofs.Common.{◌≡◌, ◌++◌, drop, map}
use Rattle.std.specs.List.{flat_map}
use Rattle.deny_spec_report.specs.Packages.{package_keys}
use Rattle.deny_build.specs.private.ScannedKrates.{at_each, scanned_view}
use Rattle.deny_build.proofs.build_keys.add_keys_of_each.Given as goal

abbrev pub invariant-loop-at : goal.invariant-loop-at
invariant-loop-at l =
    l.keys ++ flat_map (at_each package_keys) (map scanned_view (drop l.at-index l.all))
    ≡ l.fn.keys ++ flat_map (at_each package_keys) (map scanned_view l.all)
