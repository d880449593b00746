-- A walk that has ended: the folders and files found are those of the view.
use Rattle.std.proofs.Common.{nat_cmp, arith, length, ◌+◌, ◌^◌, ◌<◌, ◌≤◌, ◌≡◌, ◌∙◌, ℕ, Bool, true, false, List, [], ◌∷◌}
use Rattle.std.proofs.Common.{Option, None, Some, refl, sym, ap, subst, inl, inr}
use Rattle.std.specs.Prelude.{Contains, IfSome}
use Rattle.std.specs.Cmp.Lexicographic.{nat_list_cmp_total, slice_cmp}
use Rattle.std.proofs.lemmas.Bool.{false≢true}
use Rattle.std.proofs.lemmas.Option.{none-some}
use Rattle.deny_base_lists.specs.Ascending.{Lists}
use Rattle.std.specs.List.Sorted.{IsStrictlySortedBy}
use Rattle.std.specs.Prelude.{map, sum_by}
use Rattle.deny_base_lists.proofs.Members.{no_member}
use Rattle.deny_base_lists.proofs.Sorted.{length-ascending}
use Rattle.deny_base_disk.specs.Children.{child, children}
use Rattle.deny_base_disk.specs.Disk.{Disk, Files}
use Rattle.deny_base_disk.specs.declared.disk.Entry.{Entry}
use Rattle.deny_base.specs.declared.span.Kid.{Kid}
use Rattle.deny_base_unread.proofs.AddedLemmas.{added_is}
use Rattle.deny_base_unread.proofs.ViewLemmas.{list_read, list_unread}
use Rattle.deny_base_unread.specs.Added.{added}
use Rattle.deny_base_unread.specs.Bound.{Folders}
use Rattle.deny_base_unread.specs.Causes.{AreCaused}
use Rattle.deny_base.specs.Unread.{asked}
use Rattle.deny_base_unread.specs.View.{view_of}
use Rattle.deny_base.specs.declared.purpose.Purpose.TheVariants as purpose
use Rattle.deny_base.specs.declared.unread.Unread.{Unread}
use Rattle.deny_build_walk.proofs.PathLemmas.{folder_grows}
use Rattle.deny_build_walk.specs.Entries.{AreListedOnce}
use Rattle.deny_build_walk.specs.Folder.{entries_of}
use Rattle.deny_build_walk.specs.Walk.{HasEach, Holds, IsFile, IsFolder, IsListed, Listing}
use Rattle.deny_build_walk.specs.Walk.IsFolderBy.{inside, itself}
use Rattle.deny_build_walk.specs.private.Walking.{HasIn, IsKnown, IsMet, ToldWalk, Walking}

pub same_inside : (xs ys : List Entry) → Some xs ≡ Some ys → xs ≡ ys
same_inside xs ys same = ap (λ (o : Option (List Entry)). elim o [ None ↦ xs | Some zs ↦ zs ]) same

module _ (krate : Kid) (root : List ℕ) (by_git : Bool) (files : Files) (own : List Unread) (found : List (List ℕ))
    (count : ℕ) (told : ToldWalk krate root by_git files own [] found count)
  where
    abbrev lists : Listing
    lists = (view_of files own (Some krate)).list

    all_met : (path : List ℕ) → IsKnown krate told.listed own [] path → IsMet krate told.listed own path
    all_met path (inl met) = met
    all_met path (inr there) = absurd (no_member path there)

    holds_of : (is_folder : Bool) (folder name : List ℕ) → HasIn by_git root files told.listed is_folder folder name
        → Holds by_git root lists is_folder folder name
    holds_of is_folder folder name has = record {
      entries = children files folder;
      seen = list_read files own (Some krate) folder (told.once folder has.within);
      member = has.member;
      kept = has.kept;
    }

    -- the view lists a folder that was met only if it was listed
    has_of : (is_folder : Bool) (folder name : List ℕ) → IsMet krate told.listed own folder
        → Holds by_git root lists is_folder folder name → HasIn by_git root files told.listed is_folder folder name
    has_of is_folder folder name (inl listed) holds = record {
      within = listed;
      member = subst (λ (entries : List Entry). Contains entries record { name = name; folder = is_folder })
          (same_inside holds.entries (children files folder)
          (sym holds.seen ∙ list_read files own (Some krate) folder (told.once folder listed))) holds.member;
      kept = holds.kept;
    }
    has_of is_folder folder name (inr unread) holds =
        absurd (none-some holds.entries (sym (list_unread files own (Some krate) folder unread) ∙ holds.seen))

    folder_met : (path : List ℕ) → IsFolder by_git root lists path → IsMet krate told.listed own path
    folder_met _ itself = all_met root told.root_known
    folder_met _ (inside folder name within holds) = all_met (child folder name)
        (told.all_known folder name (has_of true folder name (folder_met folder within) holds))

    met_folder : (path : List ℕ) → IsMet krate told.listed own path → IsFolder by_git root lists path
    met_folder path met = folder_grows _ _ root path (holds_of true) (told.folders path (inl met))

    file_found : (path : List ℕ) → IsFile by_git root lists path → Contains found path
    file_found path file = told.whole path record {
      folder = file.folder;
      name = file.name;
      has = has_of false file.folder file.name (folder_met file.folder file.within) file.holds;
      is = file.is;
    }

    found_file : (path : List ℕ) → Contains found path → IsFile by_git root lists path
    found_file path there =
        let of = told.sound path there in
        record {
          folder = of.folder;
          name = of.name;
          within = met_folder of.folder (inl of.has.within);
          holds = holds_of false of.folder of.name of.has;
          is = of.is;
        }

    pub files_listed : (paths : List (List ℕ)) → Lists (slice_cmp nat_cmp) (Contains found) paths
        → Lists (slice_cmp nat_cmp) (IsFile by_git root lists) paths
    files_listed paths all = record {
      ascending = all.ascending;
      whole = λ path is. all.whole path (file_found path is);
      sound = λ path there. found_file path (all.sound path there);
    }

    pub listed_each : HasEach (IsListed by_git root lists) told.listed
    listed_each = record {
      apart = told.apart;
      sound = λ path there. record {
        within = met_folder path (inl there);
        entries = children files path;
        seen = list_read files own (Some krate) path (told.once path there);
      };
      whole = λ path is. elim (folder_met path is.within) as (λ _. Contains told.listed path) [
        | inl listed ↦ listed
        | inr unread ↦ absurd (none-some is.entries
            (sym (list_unread files own (Some krate) path unread) ∙ is.seen))
      ];
    }

    pub folders_wanted : ((u : Unread) → Contains own u → u ≡ asked (Some krate) purpose.List u.path)
        → (u : Unread) → Contains own u → IsFolder by_git root lists u.path
    folders_wanted listing u there =
        met_folder u.path (inr (subst (λ (v : Unread). Contains own v) (listing u there) there))

-- ---- the answers of a walk

-- nothing is pending where no first element was found
pub none_pending : (keys : List (List ℕ)) → (0 < length keys → false ≡ true) → keys ≡ []
none_pending [] next = refl
none_pending (key ∷ keys) next = absurd (false≢true (next (omega arith)))

pub walk_ended : (krate : Kid) (root : List ℕ) (by_git : Bool) (start : Disk) (first : List Unread) (now : Disk)
    (unread : List Unread) (pending found : List (List ℕ)) (count : ℕ) → pending ≡ []
    → Walking krate root by_git start first now unread pending found count
    → Walking krate root by_git start first now unread [] found count
walk_ended krate root by_git start first now unread pending found count none walk =
    subst (λ (ps : List (List ℕ)). Walking krate root by_git start first now unread ps found count) none walk

module _ (krate : Kid) (root : List ℕ) (by_git : Bool) (start : Disk) (first : List Unread) (now : Disk)
    (unread : List Unread) (found : List (List ℕ)) (count : ℕ)
    (walk : Walking krate root by_git start first now unread [] found count)
  where
    own_is : walk.own ≡ added first unread
    own_is = sym (added_is first walk.own unread walk.longer)

    pub walked_ordered : IsStrictlySortedBy (slice_cmp nat_cmp)
        (map (λ (u : Unread). u.path) (added first unread))
    walked_ordered = subst (λ (us : List Unread). IsStrictlySortedBy (slice_cmp nat_cmp)
        (map (λ (u : Unread). u.path) us)) own_is walk.ordered

    pub walked_lists : (u : Unread) → Contains (added first unread) u → u ≡ asked (Some krate) purpose.List u.path
    walked_lists = subst (λ (us : List Unread). (u : Unread) → Contains us u
        → u ≡ asked (Some krate) purpose.List u.path) own_is walk.lists

    pub walked_caused : (folder : Folders) → folder (Some krate) ≡ root
        → AreCaused folder start now (added first unread)
    walked_caused folder at = subst (λ (us : List Unread). AreCaused folder start now us) own_is (walk.caused folder at)

    told_files : (told : Option Files) (paths : List (List ℕ)) → Lists (slice_cmp nat_cmp) (Contains found) paths
        → IfSome told (λ files. ToldWalk krate root by_git files walk.own [] found count)
        → IfSome told (λ files. Lists (slice_cmp nat_cmp)
        (IsFile by_git root (view_of files walk.own (Some krate)).list) paths)
    told_files None paths all told = tt
    told_files (Some files) paths all told = files_listed krate root by_git files walk.own found count told paths all

    pub walked_files : (paths : List (List ℕ)) → Lists (slice_cmp nat_cmp) (Contains found) paths
        → IfSome start.files (λ files. Lists (slice_cmp nat_cmp)
        (IsFile by_git root (view_of files (added first unread) (Some krate)).list) paths)
    walked_files paths all = subst (λ (us : List Unread). IfSome start.files (λ files. Lists (slice_cmp nat_cmp)
        (IsFile by_git root (view_of files us (Some krate)).list) paths)) own_is
        (told_files start.files paths all walk.told)

    told_wanted : (told : Option Files) → IfSome told (λ files. ToldWalk krate root by_git files walk.own [] found
        count)
        → IfSome told (λ files. (u : Unread) → Contains walk.own u
        → IsFolder by_git root (view_of files walk.own (Some krate)).list u.path)
    told_wanted None told = tt
    told_wanted (Some files) told = folders_wanted krate root by_git files walk.own found count told walk.lists

    pub walked_wanted : IfSome start.files (λ files. (u : Unread) → Contains (added first unread) u
        → IsFolder by_git root (view_of files (added first unread) (Some krate)).list u.path)
    walked_wanted = subst (λ (us : List Unread). IfSome start.files (λ files. (u : Unread) → Contains us u
        → IsFolder by_git root (view_of files us (Some krate)).list u.path)) own_is (told_wanted start.files walk.told)

    told_once : (told : Option Files) → count ≤ 2 ^ 24
        → IfSome told (λ files. now.listed
        ≤ start.listed + (count + sum_by (entries_of files) (map (λ (u : Unread). u.path) walk.own)))
        → IfSome told (λ files. ToldWalk krate root by_git files walk.own [] found count)
        → IfSome told (λ files. AreListedOnce by_git root (view_of files walk.own (Some krate)).list files start now
        (map (λ (u : Unread). u.path) walk.own))
    told_once None few once told = tt
    told_once (Some files) few once told = record {
      within = record {
        listed = told.listed;
        are = listed_each krate root by_git files walk.own found count told;
        few = omega (arith, few, told.counted);
      };
      once = omega (arith, once, told.counted);
    }

    pub walked_once : count ≤ 2 ^ 24 → IfSome start.files (λ files. AreListedOnce by_git root
        (view_of files (added first unread) (Some krate)).list files start now
        (map (λ (u : Unread). u.path) (added first unread)))
    walked_once few = subst (λ (us : List Unread). IfSome start.files (λ files. AreListedOnce by_git root
        (view_of files us (Some krate)).list files start now (map (λ (u : Unread). u.path) us))) own_is
        (told_once start.files few walk.once walk.told)

    -- each file was an entry
    pub walked_few : count ≤ 2 ^ 24 → (paths : List (List ℕ)) → Lists (slice_cmp nat_cmp) (Contains found) paths
        → length paths ≤ 2 ^ 24
    walked_few few paths all = omega (
      arith,
      few,
      walk.few,
      length-ascending nat_list_cmp_total paths found all.ascending all.sound,
    )
