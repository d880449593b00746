-- What is read of packages, by the entries for what was not read.
use Rattle.std.specs.Prelude.{◌≡◌, ℕ, Bool, true, Contains, IfSome, List, Option, Some}
use Rattle.deny_base.specs.declared.span.Spanned.{Spanned}
use Rattle.deny_spec.specs.Building.{Building}
use Rattle.deny_spec.specs.Unseen.{package_at}
use Rattle.deny_spec.specs.declared.package.Package.{Package}
use Rattle.deny_spec.specs.declared.package.PackageFile.{PackageFile}
use Rattle.deny_spec_report.specs.BuildScripts.{is_walked, used}
use Rattle.deny_spec_report.specs.PackageFiles.{ByHeader, BySum, Step, is_decided_by, step_of}
use Rattle.deny_spec.specs.Crates.{folder, is_git_source}
use Rattle.deny_spec.specs.Graph.{Crate, Graph, Target, kid_of}
use Rattle.deny_base_disk.specs.Children.{child}
use Rattle.deny_base_disk.specs.Disk.{Files}
use Rattle.deny_build_scan.specs.Seen.{script_asked}
use Rattle.deny_base.specs.Unread.{asked}
use Rattle.deny_base_unread.specs.View.{view_of}
use Rattle.deny_base.specs.declared.purpose.Purpose.TheVariants as purpose
use Rattle.deny_base.specs.declared.unread.Unread.{Unread}
use Rattle.deny_build_walk.specs.Walk.{IsFile, IsFolder}

-- a file of a walked package as it was seen, at this path and decided by this rule
pub record IsFileOf (told : Option Files) (b : Building) (unread : List Unread) (c : Crate) (contents : Package)
    (path : List ℕ) (step : Step) : Type 0 where
  pub file : PackageFile
  pub member : Contains contents.files file
  pub rest : path ≡ child (folder c) file.path
  pub lies : IfSome told (λ files. IsFile (is_git_source c) (folder c)
      (view_of files unread (Some (kid_of c))).list path)
  pub decides : step_of b (used b c) file.path (is_decided_by file) ≡ step

-- the entry is for a script that is read, a folder of a walked package, or a file that is decided by its first bytes
-- or its checksum
pub data IsWantedOf (told : Option Files) (b : Building) (reached : Crate → Bool) (g : Graph) (unread : List Unread)
    (c : Crate) (contents : Package) (u : Unread) : Type 0 where
  by_script : (target : Target) → script_asked b g reached c ≡ Some target
      → u ≡ asked (Some (kid_of c)) purpose.Script target.src_path
      → IsWantedOf told b reached g unread c contents u
  by_folder : (path : List ℕ) → is_walked b g reached contents c ≡ true
      → IfSome told (λ files. IsFolder (is_git_source c) (folder c) (view_of files unread (Some (kid_of c))).list path)
      → u ≡ asked (Some (kid_of c)) purpose.List path → IsWantedOf told b reached g unread c contents u
  by_header : (path : List ℕ) → IsFileOf told b unread c contents path ByHeader
      → u ≡ asked (Some (kid_of c)) purpose.Header path → IsWantedOf told b reached g unread c contents u
  by_sum : (path : List ℕ) (sum : Spanned (List ℕ)) → IsFileOf told b unread c contents path (BySum sum)
      → u ≡ asked (Some (kid_of c)) purpose.Sum path → IsWantedOf told b reached g unread c contents u

-- each entry of a crate is for something that is read of its package
abbrev pub AreWantedOf : Option Files → Building → (Crate → Bool) → Graph → List Unread → Crate → Package → Type 0
AreWantedOf told b reached g own c contents =
    (u : Unread) → Contains own u → IsWantedOf told b reached g own c contents u

-- the entry is for one of the crates and its package
pub record IsWantedPackage (told : Option Files) (b : Building) (reached : Crate → Bool) (g : Graph)
    (unread : List Unread) (packages : List Package) (u : Unread) : Type 0 where
  pub crate : Crate
  pub member : Contains g.crates crate
  pub wanted : IsWantedOf told b reached g unread crate (package_at packages crate.place) u

abbrev pub AreWantedPackages : Option Files → Building → (Crate → Bool) → Graph → List Unread → List Package
    → List Unread → Type 0
AreWantedPackages told b reached g unread packages us =
    (u : Unread) → Contains us u → IsWantedPackage told b reached g unread packages u
