-- The invariant of a walk.
use Rattle.std.specs.Prelude.{◌≡◌, ℕ, ◌+◌, ◌++◌, ◌≤◌, ◌⊎◌, Bool, true, false, List, Contains, length, map, sum_by}
use Rattle.std.specs.Prelude.{Some, IfSome, nat_eq}
use Rattle.std.specs.List.{starts_with}
use Rattle.std.specs.List.Sorted.{IsStrictlySortedBy}
use Rattle.std.specs.Ordering.{nat_cmp}
use Rattle.std.specs.Cmp.Lexicographic.{slice_cmp}
use Rattle.std.specs.declared.cmp.Ordering.TheVariants.{Less}
use Rattle.deny_base_disk.specs.Children.{child, children, prefix_of}
use Rattle.deny_base_disk.specs.Count.{RoseBy}
use Rattle.deny_base_disk.specs.Disk.{Disk, Files, IsLater}
use Rattle.deny_base.specs.declared.span.Kid.{Kid}
use Rattle.deny_base_unread.specs.Bound.{Folders, is_in}
use Rattle.deny_base_unread.specs.Causes.{AreCaused}
use Rattle.deny_base.specs.Unread.{asked}
use Rattle.deny_base.specs.declared.purpose.Purpose.TheVariants as purpose
use Rattle.deny_base.specs.declared.unread.Unread.{Unread}
use Rattle.deny_build_walk.specs.Folder.{ListedAtMost, entries_of}
use Rattle.deny_build_walk.specs.Walk.{AreApart, IsFolderBy, is_left_out}

-- a listed folder holds a folder (or else a file) of this name that is not left out
pub record HasIn (by_git : Bool) (root : List ℕ) (files : Files) (listed : List (List ℕ)) (is_folder : Bool)
    (folder name : List ℕ) : Type 0 where
  pub within : Contains listed folder
  pub member : Contains (children files folder) record { name = name; folder = is_folder }
  pub kept : is_left_out by_git root folder name ≡ false

-- the path is that of a file in one of the listed folders
pub record IsListedFile (by_git : Bool) (root : List ℕ) (files : Files) (listed : List (List ℕ)) (path : List ℕ)
    : Type 0 where
  pub folder : List ℕ
  pub name : List ℕ
  pub has : HasIn by_git root files listed false folder name
  pub is : path ≡ child folder name

-- a folder was listed, or has an entry for what is unread
abbrev pub IsMet : Kid → List (List ℕ) → List Unread → List ℕ → Type 0
IsMet krate listed own path = Contains listed path ⊎ Contains own (asked (Some krate) purpose.List path)

-- a folder was met, or is pending
abbrev pub IsKnown : Kid → List (List ℕ) → List Unread → List (List ℕ) → List ℕ → Type 0
IsKnown krate listed own pending path = IsMet krate listed own path ⊎ Contains pending path

-- on a disk that tells its files: what is found and pending, by the folders that were listed
pub record ToldWalk (krate : Kid) (root : List ℕ) (by_git : Bool) (files : Files) (own : List Unread)
    (pending found : List (List ℕ)) (count : ℕ) : Type 0 where
  -- the listed folders, the last first
  pub listed : List (List ℕ)
  pub apart : AreApart listed
  pub below : (path other : List ℕ) → IsMet krate listed own path → Contains pending other
      → slice_cmp nat_cmp path other ≡ Less
  pub once : (path : List ℕ) → Contains listed path → Contains own (asked (Some krate) purpose.List path) → ⊥
  pub folders : (path : List ℕ) → IsKnown krate listed own pending path
      → IsFolderBy (HasIn by_git root files listed true) root path
  pub root_known : IsKnown krate listed own pending root
  pub all_known : (folder name : List ℕ) → HasIn by_git root files listed true folder name
      → IsKnown krate listed own pending (child folder name)
  pub sound : (path : List ℕ) → Contains found path → IsListedFile by_git root files listed path
  pub whole : (path : List ℕ) → IsListedFile by_git root files listed path → Contains found path
  pub counted : count ≡ sum_by (entries_of files) listed

-- a walk from a disk and a list of entries up to the present ones
pub record Walking (krate : Kid) (root : List ℕ) (by_git : Bool) (start : Disk) (first : List Unread) (now : Disk)
    (unread : List Unread) (pending found : List (List ℕ)) (count : ℕ) : Type 0 where
  pub own : List Unread
  pub longer : unread ≡ first ++ own
  pub later : IsLater start now
  pub lists : (u : Unread) → Contains own u → u ≡ asked (Some krate) purpose.List u.path
  -- entries ascend by path, and pending folders come after them
  pub ordered : IsStrictlySortedBy (slice_cmp nat_cmp) (map (λ u. u.path) own)
  pub above : (path other : List ℕ) → Contains (map (λ (u : Unread). u.path) own) path → Contains pending other
      → slice_cmp nat_cmp path other ≡ Less
  pub caused : (folder : Folders) → folder (Some krate) ≡ root → AreCaused folder start now own
  pub rose : RoseBy count start.listed now.listed
  pub once : ListedAtMost start now (λ files. count + sum_by (entries_of files) (map (λ u. u.path) own))
  pub few : length found ≤ count
  -- all paths are below that of the package's folder
  pub inside : (path : List ℕ) → Contains pending path → is_in root path ≡ true
  pub below : (path : List ℕ) → Contains found path → starts_with nat_eq path (prefix_of root) ≡ true
  pub told : IfSome start.files (λ files. ToldWalk krate root by_git files own pending found count)
