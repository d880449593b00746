-- The entries for what was read of one file.
use Rattle.std.specs.Prelude.{◌≡◌, ℕ, ◌++◌, Bool, true, false, List, [], ◌∷◌, Option, Some}
use Rattle.deny_base.specs.declared.span.Kid.{Kid}
use Rattle.deny_spec.specs.Building.{Building}
use Rattle.deny_spec.specs.declared.package.Failure.{Failure}
use Rattle.deny_spec.specs.declared.package.Found.{Found}
use Rattle.deny_spec.specs.declared.package.Found.TheVariants.{Failed, Kind, Sum, Unasked}
use Rattle.deny_spec.specs.declared.package.PackageFile.{PackageFile}
use Rattle.deny_spec_report.specs.BuildScripts.{used}
use Rattle.deny_spec_report.specs.PackageFiles.{is_decided_by, step_of}
use Rattle.deny_spec.specs.Graph.{Crate, kid_of}
use Rattle.deny_base_disk.specs.Disk.{Files}
use Rattle.deny_build_scan.specs.Seen.{Gaps, IsKindSeen, IsSumSeen}
use Rattle.deny_build_scan.specs.declared.decide.Asks.{Asks}
use Rattle.deny_build_scan.specs.declared.decide.Asks.TheVariants as asks
use Rattle.deny_build_scan.specs.private.Deciding.{asks_by}
use Rattle.deny_base.specs.Unread.{asked}
use Rattle.deny_base.specs.declared.purpose.Purpose.{Purpose}
use Rattle.deny_base.specs.declared.purpose.Purpose.TheVariants as purpose
use Rattle.deny_base.specs.declared.unread.Unread.{Unread}

abbrev pub is_failed : Found → Bool
is_failed Unasked = false
is_failed (Sum sum) = false
is_failed (Kind kind) = false
is_failed (Failed failure) = true

-- the entry, where the file was not read
abbrev pub noted : Unread → Found → List Unread
noted u Unasked = []
noted u (Sum sum) = []
noted u (Kind kind) = []
noted u (Failed failure) = u ∷ []

-- the checksum is computed of what is read for this purpose
abbrev pub IsSummed : Purpose → Type 0
IsSummed purpose.Manifest = ⊥
IsSummed purpose.Script = Unit {0}
IsSummed purpose.List = ⊥
IsSummed purpose.Header = ⊥
IsSummed purpose.Sum = Unit {0}

-- the entries for a file, by what is asked of it
abbrev pub entries_for : Asks → Option Kid → List ℕ → Found → List Unread
entries_for asks.Nothing krate path found = []
entries_for asks.Sum krate path found = noted (asked krate purpose.Sum path) found
entries_for asks.Header krate path found = noted (asked krate purpose.Header path) found

-- what was found is what was asked
abbrev pub IsFoundFor : (Purpose → List ℕ → Failure → Type 0) → Option Files → Bool → List ℕ → Asks → Found → Type 0
IsFoundFor why told no_archives path asks.Nothing found = found ≡ Unasked
IsFoundFor why told no_archives path asks.Sum found =
    IsSumSeen (why purpose.Sum path) told path (is_failed found) found
IsFoundFor why told no_archives path asks.Header found =
    IsKindSeen (why purpose.Header path) told no_archives path (is_failed found) found

-- a file that failed has a gap
abbrev pub gaps_of : PackageFile → Gaps
gaps_of file = λ purpose path. is_failed file.seen.found

abbrev pub asks_of : Building → Crate → PackageFile → Asks
asks_of b c file = asks_by (step_of b (used b c) file.path (is_decided_by file))

abbrev pub entries_of : Building → Crate → List ℕ → PackageFile → List Unread
entries_of b c path file = entries_for (asks_of b c file) (Some (kid_of c)) path file.seen.found

-- the entries for the files at these paths
abbrev pub entries_of_all : Building → Crate → List (List ℕ) → List PackageFile → List Unread
entries_of_all b c [] files = []
entries_of_all b c (path ∷ paths) [] = []
entries_of_all b c (path ∷ paths) (file ∷ files) = entries_of b c path file ++ entries_of_all b c paths files
