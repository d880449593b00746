-- Which folders and files lie below the folder of a package, by the lists of its folders.
use Rattle.std.specs.Prelude.{◌≡◌, ℕ, ◌&&◌, Bool, true, false, List, [], ◌∷◌, codes, Contains, Option, Some}
use Rattle.std.specs.Str.{bytes_eq}
use Rattle.deny_base_disk.specs.Children.{child}
use Rattle.deny_base_disk.specs.declared.disk.Entry.{Entry}

-- the entries of each folder; none where it was not listed
abbrev pub Listing : Type 0
Listing = List ℕ → Option (List Entry)

-- of a package that came by git, `.git` directly in its folder is left out
unfoldable pub is_left_out : Bool → List ℕ → List ℕ → List ℕ → Bool
is_left_out by_git root folder name = by_git && (bytes_eq folder root && bytes_eq name (codes ".git"))

-- a folder lists a folder (or else a file) of this name that is not left out
pub record Holds (by_git : Bool) (root : List ℕ) (list : Listing) (is_folder : Bool) (folder name : List ℕ)
    : Type 0 where
  pub entries : List Entry
  pub seen : list folder ≡ Some entries
  pub member : Contains entries record { name = name; folder = is_folder }
  pub kept : is_left_out by_git root folder name ≡ false

-- the package's folder and the folders below it, by a relation between folders and the names of those they hold
pub data IsFolderBy (Has : List ℕ → List ℕ → Type 0) (root : List ℕ) : List ℕ → Type 0 where
  itself : IsFolderBy Has root root
  inside : (folder name : List ℕ) → IsFolderBy Has root folder → Has folder name
      → IsFolderBy Has root (child folder name)

abbrev pub IsFolder : Bool → List ℕ → Listing → List ℕ → Type 0
IsFolder by_git root list path = IsFolderBy (Holds by_git root list true) root path

-- a file of the package: an entry of one of its folders that is no folder
pub record IsFile (by_git : Bool) (root : List ℕ) (list : Listing) (path : List ℕ) : Type 0 where
  pub folder : List ℕ
  pub name : List ℕ
  pub within : IsFolder by_git root list folder
  pub holds : Holds by_git root list false folder name
  pub is : path ≡ child folder name

-- a folder of the package that was listed
pub record IsListed (by_git : Bool) (root : List ℕ) (list : Listing) (path : List ℕ) : Type 0 where
  pub within : IsFolder by_git root list path
  pub entries : List Entry
  pub seen : list path ≡ Some entries

-- no path occurs twice
abbrev pub AreApart : List (List ℕ) → Type 0
AreApart [] = Unit
AreApart (path ∷ paths) = (Contains paths path → ⊥) × AreApart paths

-- the list has exactly the paths that are so, each once
pub record HasEach (Is : List ℕ → Type 0) (paths : List (List ℕ)) : Type 0 where
  pub apart : AreApart paths
  pub sound : (path : List ℕ) → Contains paths path → Is path
  pub whole : (path : List ℕ) → Is path → Contains paths path
