-- The paths of a disk in memory have the form of a file's path, or are the root.
use Rattle.std.proofs.Common.{◌≡◌, ◌+◌, ◌++◌, ◌==◌, ◌||◌, ℕ, suc, true, false, not, List, [], ◌∷◌, None, Some, cond}
use Rattle.std.proofs.Common.{is_some, length, take, refl, sym, ap, ◌∙◌, subst, arith, append_assoc, length-append}
use Rattle.std.specs.Prelude.{codes, OnErr, OnOk, Result, Ok, Err}
use Rattle.deny_base_lists.specs.declared.memory.NoMemory.{NoMemory}
use Rattle.std.specs.FinMap as finite
use Rattle.std.specs.List.{AllByRecursion, before_first, prefix_len, filter_map, enumerate_from, cons_option}
use Rattle.std.specs.Ordering.{eq_by_cmp, nat_cmp}
use Rattle.std.specs.Cmp.Lexicographic.{nat_list_cmp_total, slice_cmp}
use Rattle.std.specs.Str.{bytes_eq}
use Rattle.std.specs.Cmp.{Equal-is}
use Rattle.std.proofs.Math.Seq.{take-append_seam}
use Rattle.std.proofs.lemmas.Bool.{and_from, and_parts, false≢true, eqb-true, ne_eqb}
use Rattle.deny_base_disk.specs.Disk.{Files}
use Rattle.deny_base_disk.specs.MemoryDisk.{HoldsPaths, folder_at, folder_before, folders_of, is_held, with_folder}
use Rattle.deny_base_disk.specs.MemoryDisk.{with_file, with_folders}
use Rattle.deny_base_disk.specs.Paths.{is_name, is_path, is_slash, names_behind}
use Rattle.deny_base_disk.specs.declared.disk.Place.{Place}
use Rattle.deny_base_disk.specs.declared.disk.Place.TheVariants.{File, Folder}

-- ---- the part of a path before one of its slashes

take_one : (n b : ℕ) (xs : List ℕ) → take (1 + n) (b ∷ xs) ≡ b ∷ take n xs
take_one n b xs = let e : 1 + n ≡ suc n = omega arith in ap (λ m. take m (b ∷ xs)) e

-- a part ends before a slash, and stays when the path is cut off there
part-take : (bytes rest : List ℕ) → before_first is_slash (bytes ++ 47 ∷ rest) ≡ before_first is_slash bytes
part-take [] rest = refl
part-take (b ∷ bs) rest = elim (is_slash b)
    as (λ s. take (cond (not s) (1 + prefix_len (λ x. not (is_slash x)) (bs ++ 47 ∷ rest)) 0) (b ∷ (bs ++ 47 ∷ rest))
    ≡ take (cond (not s) (1 + prefix_len (λ x. not (is_slash x)) bs) 0) (b ∷ bs)) [
      | true ↦ refl
      | false ↦ take_one (prefix_len (λ x. not (is_slash x)) (bs ++ 47 ∷ rest)) b (bs ++ 47 ∷ rest)
          ∙ (ap (λ xs. b ∷ xs) (part-take bs rest) ∙ sym (take_one (prefix_len (λ x. not (is_slash x)) bs) b bs))
    ]

names-take : (bytes rest : List ℕ) → names_behind (bytes ++ 47 ∷ rest) ≡ true → names_behind bytes ≡ true
names-take [] rest is = refl
names-take (b ∷ bs) rest is =
    let here : cond (is_slash b) (is_name (before_first is_slash bs)) true ≡ true =
    ap (λ part. cond (is_slash b) (is_name part) true) (sym (part-take bs rest))
    ∙ (and_parts (cond (is_slash b) (is_name (before_first is_slash (bs ++ 47 ∷ rest))) true)
    (names_behind (bs ++ 47 ∷ rest)) is).0 in
    let later = (and_parts (cond (is_slash b) (is_name (before_first is_slash (bs ++ 47 ∷ rest))) true)
    (names_behind (bs ++ 47 ∷ rest)) is).1 in
    and_from (cond (is_slash b) (is_name (before_first is_slash bs)) true) (names_behind bs) here
    (names-take bs rest later)

not_empty : (b : ℕ) (bs : List ℕ) → not (length (b ∷ bs) == 0) ≡ true
not_empty b bs = ap not (ne_eqb (suc (length bs)) 0 (λ e. omega (arith, e)))

-- the folder before a slash
folder_held : (before rest : List ℕ) → is_path (before ++ 47 ∷ rest) ≡ true
    → is_held (folder_before (before ++ 47 ∷ rest) (length before)) ≡ true
folder_held [] rest is = refl
folder_held (b ∷ bs) rest is =
    let names = (and_parts (not (length (b ∷ (bs ++ 47 ∷ rest)) == 0)) (names_behind (b ∷ (bs ++ 47 ∷ rest))) is).1 in
    let whole : folder_before (b ∷ (bs ++ 47 ∷ rest)) (suc (length bs)) ≡ b ∷ bs =
    ap (λ s. cond s (codes "/") (take (suc (length bs)) (b ∷ (bs ++ 47 ∷ rest))))
    (ne_eqb (suc (length bs)) 0 (λ e. omega (arith, e)))
    ∙ ap (λ xs. b ∷ xs) (take-append_seam bs (47 ∷ rest)) in
    let path : is_path (b ∷ bs) ≡ true = and_from (not (length (b ∷ bs) == 0)) (names_behind (b ∷ bs)) (not_empty b bs)
    (names-take (b ∷ bs) rest names) in
    subst (λ folder. is_held folder ≡ true) (sym whole) (ap (λ p. p || bytes_eq (b ∷ bs) (codes "/")) path)

held_here : (path before : List ℕ) (b : ℕ) (bs : List ℕ) → path ≡ before ++ b ∷ bs → is_path path ≡ true
    → is_slash b ≡ true
    → is_held (folder_before path (length before)) ≡ true
held_here path before b bs here is slash =
    let here_is : path ≡ before ++ 47 ∷ bs = here ∙ ap (λ (c : ℕ). before ++ c ∷ bs) (eqb-true b 47 slash) in
    subst (λ p. is_held (folder_before p (length before)) ≡ true) (sym here_is)
    (folder_held before bs (ap is_path (sym here_is) ∙ is))

folders_held_from : (path before rest : List ℕ) → path ≡ before ++ rest → is_path path ≡ true
    → AllByRecursion (λ folder. is_held folder ≡ true)
    (filter_map (folder_at path) (enumerate_from (length before) rest))
folders_held_from path before [] here is = tt
folders_held_from path before (b ∷ bs) here is =
    let others = filter_map (folder_at path) (enumerate_from (length before + 1) bs) in
    let further = folders_held_from path (before ++ b ∷ []) bs (here ∙ sym (append_assoc before (b ∷ []) bs)) is in
    let later : AllByRecursion (λ folder. is_held folder ≡ true) others =
    subst (λ (n : ℕ). AllByRecursion (λ folder. is_held folder ≡ true)
    (filter_map (folder_at path) (enumerate_from n bs)))
    (length-append before (b ∷ [])) further in
    elim (is_slash b) as (λ s. is_slash b ≡ s
    → AllByRecursion (λ folder. is_held folder ≡ true)
    (cons_option (cond s (Some (folder_before path (length before))) None) others)) [
      | true ↦ λ slash. (held_here path before b bs here is slash, later)
      | false ↦ λ _. later
    ] refl

folders_held : (path : List ℕ) → is_path path ≡ true
    → AllByRecursion (λ folder. is_held folder ≡ true) (folders_of path)
folders_held path is = folders_held_from path [] path refl is

-- ---- putting files and folders keeps the form of paths

pub holds_nothing : HoldsPaths (finite.empty {X = Place} {R = slice_cmp nat_cmp})
holds_nothing path is = absurd (false≢true (sym (ap is_some (finite.get-empty (slice_cmp nat_cmp) path)) ∙ is))

holds_insert : (files : Files) (path : List ℕ) (place : Place) → HoldsPaths files → is_held path ≡ true
    → HoldsPaths (finite.insert files path place)
holds_insert files path place holds held asked is = elim (eq_by_cmp (slice_cmp nat_cmp) asked path)
    as (λ b. eq_by_cmp (slice_cmp nat_cmp) asked path ≡ b
    → is_some (cond b (Some place) (finite.get files asked)) ≡ true → is_held asked ≡ true) [
      | true ↦ λ same _. subst (λ p. is_held p ≡ true)
          (sym (exact asked path ((Equal-is (slice_cmp nat_cmp asked path)).0 same))) held
      | false ↦ λ _ there. holds asked there
    ] refl (sym (ap is_some (finite.get-insert nat_list_cmp_total files path place asked)) ∙ is)
  where
    exact : finite.IsAntisymmetric (slice_cmp nat_cmp)
    exact = finite.slice_cmp-IsAntisymmetric finite.nat_cmp-IsAntisymmetric

holds_folder : (files : Files) (folder : List ℕ) → HoldsPaths files → is_held folder ≡ true
    → HoldsPaths (with_folder files folder)
holds_folder files folder holds held = elim (is_some (finite.get files folder))
    as (λ b. HoldsPaths (cond b files (finite.insert files folder Folder))) [
      | true ↦ holds
      | false ↦ holds_insert files folder Folder holds held
    ]

holds_folders : (files : Files) (folders : List (List ℕ)) → HoldsPaths files
    → AllByRecursion (λ folder. is_held folder ≡ true) folders
    → HoldsPaths (with_folders files folders)
holds_folders files [] holds held = holds
holds_folders files (folder ∷ folders) holds held = holds_folders (with_folder files folder) folders
    (holds_folder files folder holds held.0) held.1

-- a file and its folders are put, or nothing where memory runs out
pub holds_put : (r : Result (Unit {0}) NoMemory) (files new : Files) (path bytes : List ℕ) → HoldsPaths files
    → is_path path ≡ true → OnOk r (new ≡ with_file files path bytes) → OnErr r (new ≡ files) → HoldsPaths new
holds_put (Ok done) files new path bytes holds is put stays =
    let folders = holds_folders files (folders_of path) holds (folders_held path is) in
    let held : is_held path ≡ true = ap (λ b. b || bytes_eq path (codes "/")) is in
    subst HoldsPaths (sym put) (holds_insert (with_folders files (folders_of path)) path (File bytes) folders held)
holds_put (Err e) files new path bytes holds is put stays = subst HoldsPaths (sym stays) holds
