use Rattle.std.proofs.Common.{◌≡◌, map, take}
use Rattle.std.specs.Option.{option_copied}
use Rattle.deny_build_scan.specs.private.Folders.{folder_unseen}
use Rattle.deny_build_scan.proofs.folders.folders_unseen.Given as goal

abbrev pub invariant-loop-one : goal.invariant-loop-one
invariant-loop-one l = l.seen ≡ map (folder_unseen l.folder (option_copied l.home)) (take l.one-index l.unlisted)
