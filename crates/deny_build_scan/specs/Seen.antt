-- What is seen of packages, on a disk that may tell its files, by a policy and by the entries for what was not read.
use Rattle.std.specs.Prelude.{◌≡◌, ◌↔◌, ℕ, ◌^◌, ◌<◌, ◌≤◌, Bool, true, false, not, Contains, IfSome, IsTrue, List, []}
use Rattle.std.specs.Prelude.{Option, None, Some, if◌then◌else◌, length}
use Rattle.std.specs.Cmp.Lexicographic.{slice_cmp}
use Rattle.std.specs.List.{AllZip}
use Rattle.std.specs.List.Sorted.{IsStrictlySortedBy}
use Rattle.std.specs.Ordering.{nat_cmp}
use Rattle.sha2.specs.Sha256.{sha256}
use Rattle.deny_base_lists.specs.Ascending.{Lists}
use Rattle.deny_base_disk.specs.Disk.{Files, bytes_at}
use Rattle.deny_base.specs.Unread.{asked, is_unread}
use Rattle.deny_base_unread.specs.View.{view_by}
use Rattle.deny_base.specs.declared.purpose.Purpose.{Purpose}
use Rattle.deny_base.specs.declared.purpose.Purpose.TheVariants as purpose
use Rattle.deny_base.specs.declared.unread.Unread.{Unread}
use Rattle.deny_build_walk.specs.Entries.{HasFewEntries, IsPastBound}
use Rattle.deny_build_walk.specs.Walk.{IsFile}
use Rattle.deny_spec.specs.Building.{Building}
use Rattle.deny_spec.specs.Paths.{path_cmp}
use Rattle.deny_spec.specs.declared.package.ExecutableKind.{ExecutableKind}
use Rattle.deny_spec.specs.declared.package.Failure.{Failure}
use Rattle.deny_spec.specs.declared.package.Failure.TheVariants.{Crowded}
use Rattle.deny_spec.specs.declared.package.Found.{Found}
use Rattle.deny_spec.specs.declared.package.Found.TheVariants.{Failed, Kind, Sum, Unasked}
use Rattle.deny_spec.specs.declared.package.Package.{Package}
use Rattle.deny_spec.specs.declared.package.PackageFile.{PackageFile}
use Rattle.deny_spec.specs.declared.package.Seen.{Seen}
use Rattle.deny_build_file.specs.Header.{executable_in}
use Rattle.deny_build_file.specs.Home.{home_path}
use Rattle.deny_spec.specs.Crates.{folder, is_git_source}
use Rattle.deny_spec.specs.Graph.{Crate, Graph, Target, kid_of}
use Rattle.deny_spec_report.specs.BuildScripts.{asks_script, is_walked, script_of, used}
use Rattle.deny_spec_report.specs.PackageFiles.{ByExtension, ByGlob, ByHeader, ByPath, BySum, Step, is_decided_by}
use Rattle.deny_spec_report.specs.PackageFiles.{step_of}
use Rattle.deny_build_scan.specs.Deciding.{AreDeciding}
use Rattle.deny_build_scan.specs.Paths.{below}
use Rattle.deny_build_scan.specs.Why.{IsOfPurpose, Why}

-- the gaps of a crate: what its entries say was not read
abbrev pub Gaps : Type 0
Gaps = Purpose → List ℕ → Bool

-- ---- files

-- the checksum of the file at a path, which is shorter than 2 ^ 40 bytes, was computed, or an entry says that the file
-- was not read
pub data IsSumSeen (why : Failure → Type 0) (told : Option Files) (path : List ℕ) (unread : Bool) : Found → Type 0 where
  taken : unread ≡ false → (sum : List ℕ) → IfSome told (λ files. sum ≡ sha256 (bytes_at files path))
      → IfSome told (λ files. length (bytes_at files path) < 2 ^ 40)
      → IsSumSeen why told path unread (Sum sum)
  failed : unread ≡ true → (failure : Failure) → why failure → IsSumSeen why told path unread (Failed failure)

-- the kind of the file at a path was determined, with or without archives, or an entry says that the file was not
-- read
pub data IsKindSeen (why : Failure → Type 0) (told : Option Files) (no_archives : Bool) (path : List ℕ) (unread : Bool)
    : Found → Type 0 where
  known : unread ≡ false → (kind : Option ExecutableKind)
      → IfSome told (λ files. kind ≡ executable_in no_archives path (bytes_at files path))
      → IsKindSeen why told no_archives path unread (Kind kind)
  unknown : unread ≡ true → (failure : Failure) → why failure
      → IsKindSeen why told no_archives path unread (Failed failure)

-- what was found of a file is what its deciding rule asks
abbrev pub IsFoundBy : (Purpose → List ℕ → Failure → Type 0) → Option Files → Bool → Gaps → List ℕ → Step → Found
    → Type 0
IsFoundBy why told no_archives unread path (ByPath span) found = found ≡ Unasked
IsFoundBy why told no_archives unread path ByGlob found = found ≡ Unasked
IsFoundBy why told no_archives unread path (BySum sum) found =
    IsSumSeen (why purpose.Sum path) told path (unread purpose.Sum path) found
IsFoundBy why told no_archives unread path ByExtension found = found ≡ Unasked
IsFoundBy why told no_archives unread path ByHeader found =
    IsKindSeen (why purpose.Header path) told no_archives path (unread purpose.Header path) found

-- the reason of a failure of a crate
abbrev pub of_crate : Why → Crate → Purpose → List ℕ → Failure → Type 0
of_crate why c purpose path failure = why (asked (Some (kid_of c)) purpose path) failure

-- what is seen of the file of a crate at a path
pub record IsFileSeen (why : Why) (told : Option Files) (b : Building) (home : Option (List ℕ)) (unread : Gaps)
    (c : Crate) (path : List ℕ) (file : PackageFile) : Type 0 where
  pub rest : file.path ≡ below (folder c) path
  pub globs : AreDeciding b (used b c) file.path file.globs
  pub shown : file.seen.shown ≡ home_path path (folder c) home
  pub found : IsFoundBy (of_crate why c) told (not b.with_archives) unread path
      (step_of b (used b c) file.path (is_decided_by file)) file.seen.found

-- ---- folders

-- What is seen of the folder of a crate at a path, which has no list. Where its entries are too many, these are more
-- than 2 ^ 24 with those of the folders that were listed before it.
pub record IsFolderUnseen (why : Why) (told : Option Files) (home : Option (List ℕ)) (unread : Gaps) (c : Crate)
    (path : List ℕ) (seen : Seen) : Type 0 where
  pub shown : seen.shown ≡ home_path path (folder c) home
  pub failure : Failure
  pub found : seen.found ≡ Failed failure
  pub because : of_crate why c purpose.List path failure
  pub past : failure ≡ Crowded → IfSome told (λ files.
      IsPastBound (is_git_source c) (folder c) (view_by files unread).list files path)

-- what is seen of a walked package: its folders without a list are those that have entries, its files are those of its
-- folders, in the order of their components, and neither they nor the entries of the folders that have lists are more
-- than 2 ^ 24
pub record IsWalkSeen (why : Why) (told : Option Files) (b : Building) (home : Option (List ℕ)) (unread : Gaps)
    (c : Crate) (contents : Package) : Type 0 where
  pub folders : List (List ℕ)
  pub missing : Lists (slice_cmp nat_cmp) (λ path. IsTrue (unread purpose.List path)) folders
  pub unlisted : AllZip (IsFolderUnseen why told home unread c) folders contents.unlisted
  pub paths : List (List ℕ)
  pub ordered : IsStrictlySortedBy path_cmp paths
  pub all : IfSome told (λ files. (path : List ℕ) → Contains paths path
      ↔ IsFile (is_git_source c) (folder c) (view_by files unread).list path)
  pub files : AllZip (IsFileSeen why told b home unread c) paths contents.files
  pub most : length paths ≤ 2 ^ 24
  pub few : IfSome told (λ files. HasFewEntries (is_git_source c) (folder c) (view_by files unread).list files)

pub record IsNotWalked (contents : Package) : Type 0 where
  pub unlisted : contents.unlisted ≡ []
  pub files : contents.files ≡ []

-- ---- scripts

-- the build script of a crate, where it is read
abbrev pub script_asked : Building → Graph → (Crate → Bool) → Crate → Option Target
script_asked b g reached c = if asks_script b g reached c then script_of c else None

pub record IsScriptSeen (why : Why) (told : Option Files) (home : Option (List ℕ)) (unread : Gaps) (c : Crate)
    (target : Target) (seen : Seen) : Type 0 where
  pub shown : seen.shown ≡ home_path target.src_path (folder c) home
  pub found : IsSumSeen (of_crate why c purpose.Script target.src_path) told target.src_path
      (unread purpose.Script target.src_path) seen.found

-- both values are there and so related, or neither is there
abbrev pub AreBoth : {A B : Type 0} → (A → B → Type 0) → Option A → Option B → Type 0
AreBoth Is None None = Unit {0}
AreBoth Is None (Some y) = ⊥
AreBoth Is (Some x) None = ⊥
AreBoth Is (Some x) (Some y) = Is x y

-- ---- packages

-- what is seen of the package of a crate, by the crate's gaps
pub record IsPackageSeenBy (why : Why) (told : Option Files) (b : Building) (reached : Crate → Bool)
    (home : Option (List ℕ)) (g : Graph) (unread : Gaps) (c : Crate) (contents : Package) : Type 0 where
  pub script : AreBoth (IsScriptSeen why told home unread c) (script_asked b g reached c) contents.script
  pub walked : is_walked b g reached contents c ≡ true → IsWalkSeen why told b home unread c contents
  pub not_walked : is_walked b g reached contents c ≡ false → IsNotWalked contents

-- what is seen of the package of a crate, by the entries of all crates
abbrev pub IsPackageSeen : Why → Option Files → Building → (Crate → Bool) → Option (List ℕ) → Graph → List Unread
    → Crate → Package → Type 0
IsPackageSeen why told b reached home g unread c contents =
    IsPackageSeenBy why told b reached home g (is_unread unread (Some (kid_of c))) c contents

-- what is seen of the packages of all crates, with the reason of each failure
abbrev pub ArePackagesSeenBy : Why → Option Files → Building → (Crate → Bool) → Option (List ℕ) → Graph → List Unread
    → List Package → Type 0
ArePackagesSeenBy why told b reached home g unread packages =
    AllZip (IsPackageSeen why told b reached home g unread) g.crates packages

abbrev pub ArePackagesSeen : Option Files → Building → (Crate → Bool) → Option (List ℕ) → Graph → List Unread
    → List Package → Type 0
ArePackagesSeen = ArePackagesSeenBy IsOfPurpose
