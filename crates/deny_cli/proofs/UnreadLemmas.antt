-- On the generated disk nothing is left unread: it never fails, and its texts are short.
use Rattle.std.proofs.Common.{◌≡◌, ◌≢◌, ◌≤◌, ◌^◌, ℕ, Bool, true, false, List, [], ◌∷◌, ◌+◌, Option, None, Some, ap}
use Rattle.std.proofs.Common.{get_or, length, codes, inl, inr, refl, sym, subst, arith}
use Rattle.std.specs.Prelude.{AllPairs, is_some, cond, filter, map, if◌then◌else◌}
use Rattle.std.specs.List.{cons_option, filter_map}
use Rattle.std.specs.Option.{option_map_or}
use Rattle.std.specs.Cmp.Lexicographic.{nat_list_cmp_total, slice_cmp}
use Rattle.std.specs.FinMap as finite
use Rattle.std.specs.FinMap.Entries.{by_order, put}
use Rattle.std.specs.declared.cmp.Ordering.TheVariants.{Equal, Greater, Less}
use Rattle.std.specs.Ordering.{eq_by_cmp, nat_cmp}
use Rattle.std.proofs.lemmas.Bool.{leb-true}
use Rattle.std.proofs.lemmas.List.{length-map}
use Rattle.std.proofs.lemmas.List.Sums.{count_by-le-length, length-filter, sum_by-le}
use Rattle.deny_base_lists.proofs.Members.{Contains-first, there}
use Rattle.deny_krates.specs.Ids.{crate_of}
use Rattle.deny_spec.specs.Crates as crates
use Rattle.deny_spec.specs.Graph.{Crate, Graph}
use Rattle.deny_base_disk.specs.Children.{children, entry_behind, prefix_of}
use Rattle.deny_base_disk.specs.Disk.{Files, bytes_at, is_folder, text_of}
use Rattle.deny_base_disk.specs.MemoryDisk.{folders_of, with_folder, with_folders}
use Rattle.deny_base_disk.specs.SureDisk.{Sure, sure_seen}
use Rattle.deny_base_disk.specs.declared.disk.Place.{Place}
use Rattle.deny_base_disk.specs.declared.disk.Place.TheVariants.{Folder, File}
use Rattle.deny_build_scan.specs.Why.{AreFoldersOf}
use Rattle.deny_spans.proofs.IdLemmas.{crate_found}
use Rattle.deny_base_unread.specs.Bound.{Folders, entries_in, is_bound, is_in, is_past, size_told}
use Rattle.deny_base_unread.specs.Causes.{AreCaused, IsCaused}
use Rattle.deny_base.specs.Purpose.{limit_for, spent_for}
use Rattle.deny_base.specs.declared.purpose.Purpose.{Purpose}
use Rattle.deny_base.specs.declared.purpose.Purpose.TheVariants as purpose
use Rattle.deny_base.specs.declared.unread.Unread.{Unread}
use Rattle.deny_cli.specs.Causes.{made_files}

-- ---- the generated files are short

-- a place holds no text of more bytes
abbrev IsWithin : ℕ → Option Place → Type 0
IsWithin most place = length (text_of place) ≤ most

abbrev AreWithin : ℕ → Files → Type 0
AreWithin most files = (path : List ℕ) → IsWithin most (finite.get files path)

within_either : (most : ℕ) (here : Bool) (place : Place) (other : Option Place) → IsWithin most (Some place)
    → IsWithin most other → IsWithin most (cond here (Some place) other)
within_either most true place other this that = this
within_either most false place other this that = that

within_inserted : (most : ℕ) (files : Files) (path : List ℕ) (place : Place) → AreWithin most files
    → IsWithin most (Some place) → AreWithin most (finite.insert files path place)
within_inserted most files path place within this other =
    subst (IsWithin most) (sym (finite.get-insert nat_list_cmp_total files path place other))
    (within_either most (eq_by_cmp (slice_cmp nat_cmp) other path) place (finite.get files other) this (within other))

within_folder : (most : ℕ) (files : Files) (folder : List ℕ) → AreWithin most files
    → AreWithin most (with_folder files folder)
within_folder most files folder within = by (is_some (finite.get files folder))
  where
    by : (there : Bool) → AreWithin most (if there then files else finite.insert files folder Folder)
    by true = within
    by false = within_inserted most files folder Folder within (omega arith)

within_folders : (most : ℕ) (files : Files) (folders : List (List ℕ)) → AreWithin most files
    → AreWithin most (with_folders files folders)
within_folders most files [] within = within
within_folders most files (folder ∷ folders) within =
    within_folders most (with_folder files folder) folders (within_folder most files folder within)

within_none : (most : ℕ) → AreWithin most finite.empty
within_none most path = subst (IsWithin most) (sym (finite.get-empty (slice_cmp nat_cmp) path)) (omega arith)

-- no generated text has more bytes than the manifest
made_within : AreWithin 23 made_files
unfolding made_files
made_within =
    let path = codes "/w/Cargo.toml" in
    let bytes = codes "[package]\nname = \"app\"\n" in
    within_inserted 23 (with_folders finite.empty (folders_of path)) path (File bytes)
    (within_folders 23 finite.empty (folders_of path) (within_none 23)) (omega arith)

-- ---- the generated files are few

-- the disk has no more entries
abbrev AreFew : ℕ → Files → Type 0
AreFew most files = length (finite.entries files) ≤ most

few_put : (path : List ℕ) (place : Place) (es : List (List ℕ × Place))
    → length (put (slice_cmp nat_cmp) path place es) ≤ length es + 1
few_put path place [] = omega arith
few_put path place (e ∷ es) =
    elim (slice_cmp nat_cmp path e.0) as (λ r. length
    (by_order r ((path, place) ∷ e ∷ es) ((e.0, place) ∷ es) (e ∷ put (slice_cmp nat_cmp) path place es))
    ≤ length (e ∷ es) + 1) [
      | Less ↦ omega arith
      | Equal ↦ omega arith
      | Greater ↦ omega (arith, few_put path place es)
    ]

few_inserted : (most : ℕ) (files : Files) (path : List ℕ) (place : Place) → AreFew most files
    → AreFew (most + 1) (finite.insert files path place)
few_inserted most files path place few =
    subst (λ (es : List (List ℕ × Place)). length es ≤ most + 1)
    (sym (finite.entries-insert nat_list_cmp_total files path place))
    (omega (arith, few, few_put path place (finite.entries files)))

few_folder : (most : ℕ) (files : Files) (folder : List ℕ) → AreFew most files
    → AreFew (most + 1) (with_folder files folder)
few_folder most files folder few = by (is_some (finite.get files folder))
  where
    by : (there : Bool) → AreFew (most + 1) (if there then files else finite.insert files folder Folder)
    by true = omega (arith, few)
    by false = few_inserted most files folder Folder few

few_of : (files : Files) → finite.len files ≡ 0 → AreFew 0 files
few_of files none = omega (arith, finite.len-entries files, none)

few_none : AreFew 0 finite.empty
few_none = few_of finite.empty (finite.len-empty (slice_cmp nat_cmp) Place)

made_few : AreFew 3 made_files
unfolding made_files
made_few =
    let path = codes "/w/Cargo.toml" in
    let root = few_folder 0 finite.empty (codes "/") few_none in
    let folders = few_folder 1 (with_folder finite.empty (codes "/")) (codes "/w") root in
    few_inserted 2 (with_folders finite.empty (folders_of path)) path
    (File (codes "[package]\nname = \"app\"\n")) folders

-- ---- the generated disk has few entries in each folder

few_given : {X Y : Type 0} (h : X → Option Y) (xs : List X) → length (filter_map h xs) ≤ length xs
few_given h [] = omega arith
few_given {X} {Y} h (x ∷ xs) = by (h x) (few_given h xs)
  where
    by : (o : Option Y) → length (filter_map h xs) ≤ length xs
        → length (cons_option o (filter_map h xs)) ≤ length (x ∷ xs)
    by None rest = omega (arith, rest)
    by (Some y) rest = omega (arith, rest)

few_children : (files : Files) (folder : List ℕ) → length (children files folder) ≤ length (finite.entries files)
unfolding children
few_children files folder = by (is_folder (finite.get files folder))
  where
    by : (is : Bool) → length
        (if is then filter_map (entry_behind (prefix_of folder)) (finite.entries files) else [])
        ≤ length (finite.entries files)
    by true = few_given (entry_behind (prefix_of folder)) (finite.entries files)
    by false = omega arith

few_listed : (folder : List ℕ) → entries_in made_files folder ≤ 9
unfolding entries_in
few_listed folder =
    let entries = finite.entries made_files in
    let inside = is_in folder in
    let paths = map (λ (e : List ℕ × Place). e.0) entries in
    let each : (path : List ℕ) → length (children made_files path) ≤ 3 =
    λ path. omega (arith, few_children made_files path, made_few) in
    omega (
      arith,
      made_few,
      length-map entries (λ (e : List ℕ × Place). e.0),
      length-filter inside paths,
      count_by-le-length inside paths,
      sum_by-le (λ (path : List ℕ). length (children made_files path)) 3
          (filter inside paths) (λ i d within. each (get_or (filter inside paths) i d)),
    )

-- ---- each crate of a graph has a folder

abbrev pub folder_in : Graph → Folders
folder_in g None = []
folder_in g (Some kid) = option_map_or crates.folder (crate_of g kid.0) []

pub are_folders : (g : Graph) → AllPairs (λ c d. c.id ≢ d.id) g.crates → AreFoldersOf g (folder_in g)
are_folders g apart c member =
    let at = there g.crates c member in
    ap (λ (found : Option Crate). option_map_or crates.folder found []) (crate_found g at.0 c apart at.1)

-- ---- no bound explains an entry, and no call fails

not_past : (folder : List ℕ) (p : Purpose) (path : List ℕ) (before after : ℕ)
    → is_past (limit_for p) (Some (size_told made_files folder p path)) before after ≡ true → ⊥
not_past folder purpose.Manifest path before after past =
    omega (arith, made_within path, leb-true (2 ^ 28) (length (bytes_at made_files path)) past)
not_past folder purpose.Script path before after past =
    omega (arith, made_within path, leb-true (2 ^ 40) (length (bytes_at made_files path)) past)
not_past folder purpose.List path before after past =
    omega (arith, few_listed folder, leb-true (2 ^ 24 + 1) (entries_in made_files folder) past)
not_past folder purpose.Header path before after past = absurd (cc past)
not_past folder purpose.Sum path before after past =
    omega (arith, made_within path, leb-true (2 ^ 40) (length (bytes_at made_files path)) past)

not_caused : (folder : Folders) (old new : Sure) (u : Unread) → old.files ≡ made_files
    → IsCaused folder (sure_seen old) (sure_seen new) u → ⊥
unfolding is_bound
not_caused folder old new u is (inl bound) =
    let before = spent_for u.purpose (sure_seen old) in
    let after = spent_for u.purpose (sure_seen new) in
    not_past (folder u.krate) u.purpose u.path before after
    (subst (λ (files : Files). is_past (limit_for u.purpose)
    (Some (size_told files (folder u.krate) u.purpose u.path)) before after ≡ true) is bound)
not_caused folder old new u is (inr failed) = omega (arith, failed.faults)

pub none_unread : (folder : Folders) (old new : Sure) (us : List Unread) → old.files ≡ made_files
    → AreCaused folder (sure_seen old) (sure_seen new) us → us ≡ []
none_unread folder old new [] is caused = refl
none_unread folder old new (u ∷ us) is caused =
    absurd (not_caused folder old new u is (caused.each u (Contains-first u us)))
