use Rattle.std.proofs.Common.{◌≡◌, ◌++◌, drop, map}
use Rattle.deny_spec_report.specs.Packages.{folder_key}
use Rattle.deny_build.proofs.file_keys.add_folder_keys.Given as goal

abbrev pub invariant-loop-seen : goal.invariant-loop-seen
invariant-loop-seen l =
    l.keys ++ map (folder_key l.place) (drop l.seen-index l.unlisted)
    ≡ l.fn.keys ++ map (folder_key l.place) l.unlisted
