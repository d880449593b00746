-- The entries for one package.
use Rattle.std.specs.Prelude.{◌≡◌, ℕ, Contains, IfSome, List, Option, Some}
use Rattle.deny_base.specs.declared.span.Spanned.{Spanned}
use Rattle.deny_spec.specs.Building.{Building}
use Rattle.deny_spec.specs.declared.package.Package.{Package}
use Rattle.deny_spec_report.specs.PackageFiles.{ByHeader, BySum}
use Rattle.deny_spec.specs.Crates.{folder, is_git_source}
use Rattle.deny_spec.specs.Graph.{Crate, kid_of}
use Rattle.deny_base_disk.specs.Disk.{Files}
use Rattle.deny_build_scan.specs.Wanted.{IsFileOf}
use Rattle.deny_base.specs.Unread.{asked}
use Rattle.deny_base_unread.specs.View.{view_of}
use Rattle.deny_base.specs.declared.purpose.Purpose.TheVariants as purpose
use Rattle.deny_base.specs.declared.unread.Unread.{Unread}
use Rattle.deny_build_walk.specs.Walk.{IsFolder}

-- the entry is for a walked package
pub data IsOfWalk (told : Option Files) (b : Building) (own : List Unread) (c : Crate) (contents : Package) (u : Unread)
    : Type 0 where
  of_folder : (path : List ℕ)
      → IfSome told (λ files. IsFolder (is_git_source c) (folder c) (view_of files own (Some (kid_of c))).list path)
      → u ≡ asked (Some (kid_of c)) purpose.List path → IsOfWalk told b own c contents u
  of_header : (path : List ℕ) → IsFileOf told b own c contents path ByHeader
      → u ≡ asked (Some (kid_of c)) purpose.Header path → IsOfWalk told b own c contents u
  of_sum : (path : List ℕ) (sum : Spanned (List ℕ)) → IsFileOf told b own c contents path (BySum sum)
      → u ≡ asked (Some (kid_of c)) purpose.Sum path → IsOfWalk told b own c contents u

abbrev pub AreOfWalk : Option Files → Building → List Unread → Crate → Package → Type 0
AreOfWalk told b own c contents = (u : Unread) → Contains own u → IsOfWalk told b own c contents u
