-- The entries for a walked package are wanted.
use Rattle.std.proofs.Common.{◌≡◌, ◌∙◌, ◌++◌, ◌∷◌, [], ℕ, true, List, Option, None, Some, ap, cond, drop, inl, inr, length}
use Rattle.std.proofs.Common.{refl, subst, sym}
use Rattle.std.specs.Prelude.{◌↔◌, Contains, IfSome, nat_eq}
use Rattle.std.specs.List.{AllZip, starts_with}
use Rattle.std.specs.Option.{option_map_or}
use Rattle.std.proofs.lemmas.Bool.Decides.{Decides-eqb}
use Rattle.std.proofs.lemmas.Slice.Eq.{starts_is}
use Rattle.std.proofs.lemmas.List.Elements.{Contains-append_cases}
use Rattle.deny_spec.specs.Building.{Building}
use Rattle.deny_spec.specs.declared.package.Package.{Package}
use Rattle.deny_spec.specs.declared.package.PackageFile.{PackageFile}
use Rattle.deny_base_lists.proofs.Members.{Contains-first, Contains-rest, no_member}
use Rattle.deny_spec.specs.Crates as crates
use Rattle.deny_spec.specs.Crates.{is_git_source}
use Rattle.deny_spec.specs.Graph.{Crate, kid_of}
use Rattle.deny_base_disk.specs.Children.{child, prefix_of, text_behind}
use Rattle.deny_base_disk.specs.Disk.{Disk, Files, IsLater}
use Rattle.deny_base_disk.specs.declared.disk.Entry.{Entry}
use Rattle.deny_build_scan.proofs.FilesLemmas.{IsEntryOf, entry_of}
use Rattle.deny_build_scan.proofs.WalkLemmas.{lists_own, of_files}
use Rattle.deny_build_scan.specs.Paths.{below}
use Rattle.deny_build_scan.specs.private.Entries.{entries_of, entries_of_all}
use Rattle.deny_build_scan.specs.private.Walks.{IsOfWalk}
use Rattle.deny_build_scan.specs.private.Walks.IsOfWalk.{of_folder}
use Rattle.deny_base.specs.Unread.{asked}
use Rattle.deny_base_unread.specs.View.{view_of}
use Rattle.deny_base.specs.declared.purpose.Purpose.TheVariants as purpose
use Rattle.deny_base.specs.declared.unread.Unread.{Unread}
use Rattle.deny_build_walk.specs.Walk.{IsFile, IsFolder}

-- a path below a folder is that of a child by its rest
path_again : (root path rest : List ℕ) → rest ≡ below root path
    → starts_with nat_eq path (prefix_of root) ≡ true → path ≡ child root rest
unfolding below text_behind
path_again root path rest is begins =
    let prefix : List ℕ = prefix_of root in
    let behind : List ℕ = drop (length prefix) path in
    let whole : path ≡ prefix ++ behind = (starts_is Decides-eqb path prefix _ refl).0 begins in
    whole ∙ ap (λ (r : List ℕ). prefix ++ r)
    (sym (is ∙ (λ i. option_map_or (λ r. r) (cond (begins i) (Some behind) None) path)))

-- a path and a file at one index, so related
record IsPaired (b : Building) (c : Crate) (R : List ℕ → PackageFile → Type 0) (paths : List (List ℕ))
    (files : List PackageFile) (u : Unread) : Type 0 where
  path : List ℕ
  file : PackageFile
  listed : Contains paths path
  member : Contains files file
  pair : R path file
  entry : IsEntryOf b c path file u

paired : (b : Building) (c : Crate) (R : List ℕ → PackageFile → Type 0) (paths : List (List ℕ))
    (files : List PackageFile) (u : Unread) → AllZip R paths files → Contains (entries_of_all b c paths files) u
    → IsPaired b c R paths files u
paired b c R [] files u zip there = absurd (no_member u there)
paired b c R (path ∷ paths) [] u zip there = absurd zip
paired b c R (path ∷ paths) (file ∷ files) u zip there =
    elim (Contains-append_cases (entries_of b c path file) (entries_of_all b c paths files) u there) [
      | inl here ↦ record {
        path = path;
        file = file;
        listed = Contains-first path paths;
        member = Contains-first file files;
        pair = zip.0;
        entry = entry_of b c path file u here;
      }
      | inr later ↦
          let rest = paired b c R paths files u zip.1 later in
          record {
            path = rest.path;
            file = rest.file;
            listed = Contains-rest path paths rest.path rest.listed;
            member = Contains-rest file files rest.file rest.member;
            pair = rest.pair;
            entry = rest.entry;
          }
    ]

module _ (b : Building) (home : Option (List ℕ)) (c : Crate) (start mid end : Disk) (before : IsLater start mid)
    (after : IsLater mid end) (first : List Unread)
    (lists : (u : Unread) → Contains first u → u ≡ asked (Some (kid_of c)) purpose.List u.path)
    (paths : List (List ℕ)) (files : List PackageFile) where
  abbrev own : List Unread
  own = first ++ entries_of_all b c paths files

  own_lists : (P : Files → (List ℕ → Option (List Entry)) → Type 0) (told : Option Files)
      → IfSome told (λ fs. P fs (view_of fs first (Some (kid_of c))).list)
      → IfSome told (λ fs. P fs (view_of fs own (Some (kid_of c))).list)
  unfolding view_of
  own_lists P told is = lists_own b home c start mid end before after first lists paths files P told is

  folder_lies : (told : Option Files) (u : Unread) → Contains first u
      → IfSome told (λ fs. (v : Unread) → Contains first v → IsFolder (is_git_source c) (crates.folder c)
      (view_of fs first (Some (kid_of c))).list v.path)
      → IfSome told (λ fs. IsFolder (is_git_source c) (crates.folder c) (view_of fs first
      (Some (kid_of c))).list u.path)
  folder_lies None u there all = tt
  folder_lies (Some fs) u there all = all u there

  file_lies : (told : Option Files) (path : List ℕ) → Contains paths path
      → IfSome told (λ fs. (p : List ℕ) → Contains paths p
      ↔ IsFile (is_git_source c) (crates.folder c) (view_of fs first (Some (kid_of c))).list p)
      → IfSome told (λ fs. IsFile (is_git_source c) (crates.folder c) (view_of fs first (Some (kid_of c))).list path)
  file_lies None path there all = tt
  file_lies (Some fs) path there all = (all path).0 there

  pub walk_wanted : (contents : Package) → contents.files ≡ files
      → AllZip (λ path file. file.path ≡ below (crates.folder c) path) paths files
      → ((path : List ℕ) → Contains paths path → starts_with nat_eq path (prefix_of (crates.folder c)) ≡ true)
      → IfSome start.files (λ fs. (v : Unread) → Contains first v → IsFolder (is_git_source c) (crates.folder c)
      (view_of fs first (Some (kid_of c))).list v.path)
      → IfSome start.files (λ fs. (p : List ℕ) → Contains paths p
      ↔ IsFile (is_git_source c) (crates.folder c) (view_of fs first (Some (kid_of c))).list p)
      → (u : Unread) → Contains own u → IsOfWalk start.files b own c contents u
  walk_wanted contents are rests begins folders all u there =
      elim (Contains-append_cases first (entries_of_all b c paths files) u there) [
        | inl listing ↦ of_folder u.path
            (own_lists (λ fs list. IsFolder (is_git_source c) (crates.folder c) list u.path) start.files
            (folder_lies start.files u listing folders))
            (lists u listing)
        | inr later ↦
            let one = paired b c (λ path file. file.path ≡ below (crates.folder c) path) paths files u rests later in
            of_files b home c start mid end before after first lists paths files contents start.files one.path
            one.file u
            (subst (λ (fs : List PackageFile). Contains fs one.file) (sym are) one.member)
            (path_again (crates.folder c) one.path one.file.path one.pair (begins one.path one.listed))
            (own_lists (λ fs list. IsFile (is_git_source c) (crates.folder c) list one.path) start.files
            (file_lies start.files one.path one.listed all)) one.entry
      ]
