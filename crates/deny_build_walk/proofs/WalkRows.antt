-- Worked cases of a walk: what is left out, what is a file or folder of a package, and what is taken from a list.
use Rattle.std.proofs.Common.{◌≡◌, ℕ, true, false, List, [], ◌∷◌, None, Some, arith, cond, codes, refl}
use Rattle.std.proofs.Common.{sym}
use Rattle.std.specs.BTreeSet.{insert_key}
use Rattle.std.specs.Cmp.Lexicographic.{slice_cmp}
use Rattle.std.specs.List.{filter_map}
use Rattle.std.specs.Ordering.{nat_cmp}
use Rattle.std.specs.Str.{bytes_eq}
use Rattle.std.proofs.lemmas.Bool.{false≢true}
use Rattle.std.proofs.lemmas.Option.{none-some}
use Rattle.deny_base_disk.specs.Children.{child, prefix_of}
use Rattle.deny_base_disk.specs.declared.disk.Entry.{Entry}
use Rattle.deny_build_walk.specs.Walk.{Holds, IsFile, IsFolder, Listing, is_left_out}
use Rattle.deny_build_walk.specs.Walk.IsFolderBy.{inside, itself}
use Rattle.deny_build_walk.specs.private.Taking.{is_taken, path_taken}

-- ---- what is left out

git_left_out : is_left_out true (codes "/p") (codes "/p") (codes ".git") ≡ true
unfolding is_left_out
git_left_out = refl

-- nothing is left out of a package that did not come by git
kept_of_a_registry : is_left_out false (codes "/p") (codes "/p") (codes ".git") ≡ false
unfolding is_left_out
kept_of_a_registry = refl

-- `.git` further below is not left out
kept_below : is_left_out true (codes "/p") (codes "/p/src") (codes ".git") ≡ false
unfolding is_left_out
kept_below = refl

-- another name is not left out
kept_by_name : is_left_out true (codes "/p") (codes "/p") (codes ".github") ≡ false
unfolding is_left_out
kept_by_name = refl

-- ---- one package

abbrev in_root : List Entry
in_root = record { name = codes ".git"; folder = true } ∷ record { name = codes "a.rs"; folder = false }
    ∷ record { name = codes "src"; folder = true } ∷ []

abbrev in_src : List Entry
in_src = record { name = codes ".git"; folder = true } ∷ record { name = codes "lib.rs"; folder = false } ∷ []

-- the folder of the package and its `src` were listed
abbrev list : Listing
list path = cond (bytes_eq path (codes "/p")) (Some in_root) (cond (bytes_eq path (codes "/p/src")) (Some in_src) None)

root_holds_src : Holds true (codes "/p") list true (codes "/p") (codes "src")
unfolding is_left_out
root_holds_src = record { entries = in_root; seen = refl; member = (2, omega arith, refl); kept = refl }

src_is_a_folder : IsFolder true (codes "/p") list (codes "/p/src")
unfolding prefix_of
src_is_a_folder = inside (codes "/p") (codes "src") itself root_holds_src

a_file_of_the_root : IsFile true (codes "/p") list (codes "/p/a.rs")
unfolding prefix_of is_left_out
a_file_of_the_root = record {
  folder = codes "/p";
  name = codes "a.rs";
  within = itself;
  holds = record { entries = in_root; seen = refl; member = (1, omega arith, refl); kept = refl };
  is = refl;
}

a_file_below : IsFile true (codes "/p") list (codes "/p/src/lib.rs")
unfolding prefix_of is_left_out
a_file_below = record {
  folder = codes "/p/src";
  name = codes "lib.rs";
  within = src_is_a_folder;
  holds = record { entries = in_src; seen = refl; member = (1, omega arith, refl); kept = refl };
  is = refl;
}

-- `.git` directly in the folder is left out of a package that came by git, and is a folder of any other
git_not_held : Holds true (codes "/p") list true (codes "/p") (codes ".git") → ⊥
unfolding is_left_out
git_not_held holds = false≢true (sym holds.kept)

git_held_of_a_registry : IsFolder false (codes "/p") list (codes "/p/.git")
unfolding prefix_of is_left_out
git_held_of_a_registry = inside (codes "/p") (codes ".git") itself
    record { entries = in_root; seen = refl; member = (0, omega arith, refl); kept = refl }

-- `.git` further below is a folder in any case
git_held_below : IsFolder true (codes "/p") list (codes "/p/src/.git")
unfolding prefix_of is_left_out
git_held_below = inside (codes "/p/src") (codes ".git") src_is_a_folder
    record { entries = in_src; seen = refl; member = (0, omega arith, refl); kept = refl }

-- a folder that was not listed has no entries
unlisted_holds_nothing : (name : List ℕ) → Holds true (codes "/p") list false (codes "/p/src/.git") name → ⊥
unlisted_holds_nothing name holds = none-some holds.entries holds.seen

-- ---- what is taken from a list

folders_taken : filter_map (path_taken true (codes "/p") (codes "/p") true) in_root ≡ codes "/p/src" ∷ []
unfolding is_taken is_left_out prefix_of
folders_taken = refl

files_taken : filter_map (path_taken true (codes "/p") (codes "/p") false) in_root ≡ codes "/p/a.rs" ∷ []
unfolding is_taken is_left_out prefix_of
files_taken = refl

folders_taken_below : filter_map (path_taken true (codes "/p") (codes "/p/src") true) in_src
    ≡ codes "/p/src/.git" ∷ []
unfolding is_taken is_left_out prefix_of
folders_taken_below = refl

-- a path that ends with a slash gets no second one
behind_a_slash : child (codes "/") (codes "a") ≡ codes "/a"
unfolding prefix_of
behind_a_slash = refl

-- pending folders are in byte order: `a/c` comes after `a-b`
waiting_in_order : insert_key (slice_cmp nat_cmp) (codes "/p/a-b" ∷ []) (codes "/p/a/c")
    ≡ codes "/p/a-b" ∷ codes "/p/a/c" ∷ []
waiting_in_order = refl
