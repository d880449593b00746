-- Folders without a list as they are shown.
use Rattle.std.specs.Prelude.{ℕ, List, Option}
use Rattle.deny_build_file.specs.Home.{home_path}
use Rattle.deny_spec.specs.declared.package.Failure.{Failure}
use Rattle.deny_spec.specs.declared.package.Failure.TheVariants as failure
use Rattle.deny_spec.specs.declared.package.Found.TheVariants as found
use Rattle.deny_spec.specs.declared.package.Seen.{Seen}
use Rattle.deny_build_walk.specs.declared.folder.NoList.{NoList}
use Rattle.deny_build_walk.specs.declared.folder.NoList.TheVariants.{Crowded, Failed}
use Rattle.deny_build_walk.specs.declared.walk.Unlisted.{Unlisted}

abbrev pub failure_of : NoList → Failure
failure_of Failed = failure.Unlisted
failure_of Crowded = failure.Crowded

abbrev pub folder_unseen : List ℕ → Option (List ℕ) → Unlisted → Seen
folder_unseen folder home n = record { shown = home_path n.path folder home; found = found.Failed (failure_of n.why) }
