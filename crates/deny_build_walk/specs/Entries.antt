-- How many entries the folders of a package list, where the disk tells its files.
use Rattle.std.specs.Prelude.{◌≡◌, ℕ, ◌+◌, ◌^◌, ◌≤◌, Bool, List, sum_by}
use Rattle.std.specs.Cmp.Lexicographic.{slice_cmp}
use Rattle.std.specs.Ordering.{nat_cmp}
use Rattle.std.specs.declared.cmp.Ordering.TheVariants.{Less}
use Rattle.deny_base_disk.specs.Disk.{Disk, Files}
use Rattle.deny_build_walk.specs.Folder.{entries_of}
use Rattle.deny_build_walk.specs.Walk.{HasEach, IsListed, Listing}

-- the folders of a package that were listed have no more than 2 ^ 24 entries together
pub record HasFewEntries (by_git : Bool) (root : List ℕ) (list : Listing) (files : Files) : Type 0 where
  pub listed : List (List ℕ)
  pub are : HasEach (IsListed by_git root list) listed
  pub few : sum_by (entries_of files) listed ≤ 2 ^ 24

-- Of the folders of a package each was listed at most once: listing gave no more entries than the folders hold that
-- have a list, and those that have none.
pub record AreListedOnce (by_git : Bool) (root : List ℕ) (list : Listing) (files : Files) (old new : Disk)
    (unlisted : List (List ℕ)) : Type 0 where
  pub within : HasFewEntries by_git root list files
  pub once : new.listed ≤ old.listed + (sum_by (entries_of files) within.listed + sum_by (entries_of files) unlisted)

-- a folder of a package that was listed, and comes before a path in the order of a walk
pub record IsListedBefore (by_git : Bool) (root : List ℕ) (list : Listing) (path folder : List ℕ) : Type 0 where
  pub listed : IsListed by_git root list folder
  pub before : slice_cmp nat_cmp folder path ≡ Less

-- the entries of the folder at the path, and of the folders that were listed before it, are more than 2 ^ 24
pub record IsPastBound (by_git : Bool) (root : List ℕ) (list : Listing) (files : Files) (path : List ℕ)
    : Type 0 where
  pub listed : List (List ℕ)
  pub are : HasEach (IsListedBefore by_git root list path) listed
  pub past : 2 ^ 24 + 1 ≤ sum_by (entries_of files) listed + entries_of files path
