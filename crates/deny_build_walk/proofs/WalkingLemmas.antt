-- How a walk begins, and the walk after one more folder.
use Rattle.std.proofs.Common.{nat_cmp, ◌≡◌, ◌∙◌, ◌+◌, ◌^◌, ◌≤◌, ℕ, Bool, true, false, List, [], ◌∷◌, ◌++◌, fold, length}
use Rattle.std.proofs.Common.{map, Option, None, Some, refl, sym, ap, subst, arith, inl, inr, append_assoc}
use Rattle.std.proofs.Common.{length-append}
use Rattle.std.specs.BTreeMap.Range.{IsLtBy}
use Rattle.std.specs.Cmp.Lexicographic.{nat_list_cmp_total}
use Rattle.std.specs.List.{AllByRecursion}
use Rattle.std.specs.List.Sorted.{IsStrictlySortedBy}
use Rattle.std.specs.declared.cmp.Ordering.TheVariants.{Less}
use Rattle.std.specs.Prelude.{Contains, IfSome, nat_eq, sum_by}
use Rattle.std.specs.BTreeSet.{insert_key}
use Rattle.std.specs.Cmp.Lexicographic.{slice_cmp}
use Rattle.std.specs.List.{filter_map, starts_with}
use Rattle.std.proofs.lemmas.List.{append-nil, map_push}
use Rattle.std.proofs.lemmas.List.Sums.{sum_by-append}
use Rattle.std.proofs.lemmas.List.Elements.{All-contains, Contains-append_cases, Contains-push_cases}
use Rattle.deny_base_lists.proofs.Members.{Contains-by_cases, Contains-first, Contains-rest, contains_map, no_member}
use Rattle.deny_base_lists.proofs.Equalities.{subst₃}
use Rattle.deny_base_disk.specs.Children.{AreListed, children, prefix_of}
use Rattle.deny_base_disk.specs.Count.{RoseBy, counted}
use Rattle.deny_base_disk.specs.Disk.{Disk, Files, IsLater}
use Rattle.deny_base_disk.specs.declared.disk.Call.TheVariants as call
use Rattle.deny_base_disk.specs.declared.disk.Entry.{Entry}
use Rattle.deny_base.specs.declared.span.Kid.{Kid}
use Rattle.deny_base_unread.proofs.AddedLemmas.{added_is}
use Rattle.deny_base_unread.proofs.BoundLemmas.{bound_wider, list_past}
use Rattle.deny_base_unread.proofs.CauseLemmas.{caused_bounded, caused_by_call, caused_none, caused_then, caused_wider}
use Rattle.deny_base_disk.proofs.PieceLemmas.{later_same, later_then}
use Rattle.deny_base_unread.proofs.Later.{failed_wider}
use Rattle.deny_base_unread.specs.Added.{added}
use Rattle.deny_base_unread.specs.Bound.{Folders, entries_in, is_bound, is_in}
use Rattle.deny_base_unread.specs.Causes.{AreCaused}
use Rattle.deny_base.specs.Unread.{asked}
use Rattle.deny_base.specs.declared.purpose.Purpose.TheVariants as purpose
use Rattle.deny_base.specs.declared.unread.Unread.{Unread}
use Rattle.deny_build_walk.proofs.PathLemmas.{child_below, child_in, in_itself}
use Rattle.deny_build_walk.proofs.TakingLemmas.{IsLeast, above_taken, from_puts, from_taken, length_given}
use Rattle.deny_build_walk.proofs.ToldWalkLemmas.{told_listed, told_unlisted, with_next}
use Rattle.deny_build_walk.specs.Cause.{CauseOf, HasCause}
use Rattle.deny_build_walk.specs.Folder.{IsCrowded, IsUnlisted, ListedAtMost, ListedOnce, entries_of, failed_calls}
use Rattle.deny_build_walk.specs.Walk.IsFolderBy.{itself}
use Rattle.deny_build_walk.specs.Walk.{IsFolderBy}
use Rattle.deny_build_walk.specs.private.Taking.{path_taken}
use Rattle.deny_build_walk.specs.declared.folder.NoList.{NoList}
use Rattle.deny_build_walk.specs.declared.folder.NoList.TheVariants.{Crowded, Failed}
use Rattle.deny_build_walk.specs.declared.walk.Unlisted.{Unlisted}
use Rattle.deny_build_walk.specs.private.Crowded.{WasCrowded}
use Rattle.deny_build_walk.specs.private.Noted.{AreNoted}
use Rattle.deny_build_walk.specs.private.Walking.{HasIn, IsKnown, IsMet, ToldWalk, Walking}

-- ---- the start

root_alone : (krate : Kid) (root : List ℕ) (by_git : Bool) (files : Files) (path : List ℕ)
    → IsKnown krate [] [] (root ∷ []) path → IsFolderBy (HasIn by_git root files [] true) root path
root_alone krate root by_git files path (inl (inl listed)) = absurd (no_member path listed)
root_alone krate root by_git files path (inl (inr unread)) =
    absurd (no_member (asked (Some krate) purpose.List path) unread)
root_alone krate root by_git files path (inr there) = Contains-by_cases root [] path there
    (λ here. subst (λ (p : List ℕ). IsFolderBy (HasIn by_git root files [] true) root p) here itself)
    (λ other. absurd (no_member path other))

none_met : (krate : Kid) (path : List ℕ) → IsMet krate [] [] path → ⊥
none_met krate path (inl listed) = no_member path listed
none_met krate path (inr unread) = no_member (asked (Some krate) purpose.List path) unread

told_start : (krate : Kid) (root : List ℕ) (by_git : Bool) (told : Option Files)
    → IfSome told (λ files. ToldWalk krate root by_git files [] (root ∷ []) [] 0)
told_start krate root by_git None = tt
told_start krate root by_git (Some files) = record {
  listed = [];
  apart = tt;
  below = λ path other met there. absurd (none_met krate path met);
  once = λ path there unread. no_member path there;
  folders = root_alone krate root by_git files;
  root_known = inr (Contains-first root []);
  all_known = λ folder name has. absurd (no_member folder has.within);
  sound = λ path there. absurd (no_member path there);
  whole = λ path is. absurd (no_member is.folder is.has.within);
  counted = refl;
}

-- ---- the order of paths
sorted_nil : IsStrictlySortedBy (slice_cmp nat_cmp) []
unfolding IsStrictlySortedBy
sorted_nil = tt

all_push : (P : List ℕ → Type 0) (xs : List (List ℕ)) (x : List ℕ) → AllByRecursion P xs → P x
    → AllByRecursion P (xs ++ x ∷ [])
all_push P [] x all last = (last, tt)
all_push P (y ∷ ys) x all last = (all.0, all_push P ys x all.1 last)

sorted_push : (xs : List (List ℕ)) (x : List ℕ) → IsStrictlySortedBy (slice_cmp nat_cmp) xs
    → ((y : List ℕ) → Contains xs y → slice_cmp nat_cmp y x ≡ Less)
    → IsStrictlySortedBy (slice_cmp nat_cmp) (xs ++ x ∷ [])
unfolding IsStrictlySortedBy
sorted_push [] x sorted below = (tt, tt)
sorted_push (y ∷ ys) x sorted below = (
  all_push (λ z. slice_cmp nat_cmp y z ≡ Less) ys x sorted.0 (below y (Contains-first y ys)),
  sorted_push ys x sorted.1 (λ z there. below z (Contains-rest y ys z there)),
)

nothing_listed : (disk : Disk) → ListedAtMost disk disk (λ files. 0 + sum_by (entries_of files) [])
nothing_listed disk = by_files disk.files
  where
    by_files : (told : Option Files)
        → IfSome told (λ files. disk.listed ≤ disk.listed + (0 + sum_by (entries_of files) []))
    by_files None = tt
    by_files (Some files) = omega arith

start_here : (krate : Kid) (root : List ℕ) (by_git : Bool) (disk : Disk) (unread : List Unread)
    → Walking krate root by_git disk unread disk unread (root ∷ []) [] 0
start_here krate root by_git disk unread = record {
  own = [];
  longer = sym (append-nil unread);
  later = later_same disk;
  lists = λ u there. absurd (no_member u there);
  ordered = sorted_nil;
  above = λ path other there. absurd (no_member path there);
  caused = λ folder at. caused_none folder disk disk (later_same disk);
  rose = omega arith;
  once = nothing_listed disk;
  few = omega arith;
  inside = λ path there. Contains-by_cases root [] path there
      (λ here. subst (λ (p : List ℕ). is_in root p ≡ true) here (in_itself root))
      (λ other. absurd (no_member path other));
  below = λ path there. absurd (no_member path there);
  told = told_start krate root by_git disk.files;
}

pub walking_start : (krate : Kid) (root : List ℕ) (by_git : Bool) (disk : Disk) (unread : List Unread)
    (pending found : List (List ℕ)) (count : ℕ) → pending ≡ root ∷ [] → found ≡ [] → count ≡ 0
    → Walking krate root by_git disk unread disk unread pending found count
walking_start krate root by_git disk unread pending found count only none zero_yet =
    subst₃ (Walking krate root by_git disk unread disk unread) (sym only) (sym none) (sym zero_yet)
    (start_here krate root by_git disk unread)

-- a cause between two disks is one up to any later disk
cause_wider : (folder : Folders) (start old new : Disk) (krate : Kid) (why : NoList) (path : List ℕ) → IsLater old new
    → CauseOf why folder start old krate path → CauseOf why folder start new krate path
cause_wider folder start old new krate Failed path later failed =
    failed_wider start start old new call.List path (later_same start) later failed
cause_wider folder start old new krate Crowded path later bound =
    bound_wider folder start start old new (asked (Some krate) purpose.List path) (later_same start) later bound

-- ---- one more folder

module _ (krate : Kid) (root : List ℕ) (by_git : Bool) (start : Disk) (first : List Unread) (old : Disk)
    (unread : List Unread) (next : List ℕ) (pending found : List (List ℕ)) (count : ℕ)
    (walk : Walking krate root by_git start first old unread (next ∷ pending) found count)
    (least : IsLeast next pending) (new : Disk) (later : IsLater old new)
  where
    abbrev now_pending : List Entry → List (List ℕ)
    now_pending entries =
        fold (insert_key (slice_cmp nat_cmp)) pending (filter_map (path_taken by_git root next true) entries)

    abbrev now_found : List Entry → List (List ℕ)
    now_found entries = found ++ filter_map (path_taken by_git root next false) entries

    reported_with : (told : Option Files) (entries : List Entry) → IfSome told (λ files. entries ≡ children files next)
        → IfSome told (λ files. ToldWalk krate root by_git files walk.own (next ∷ pending) found count)
        → IfSome told (λ files. ToldWalk krate root by_git files walk.own (now_pending entries) (now_found entries)
        (count + length entries))
    reported_with None entries are told = tt
    reported_with (Some files) entries are told =
        subst (λ (es : List Entry). ToldWalk krate root by_git files walk.own (now_pending es) (now_found es)
        (count + length es)) (sym are)
        (told_listed krate root by_git files walk.own next pending found count told least)

    rose_more : (n : ℕ) → RoseBy n old.listed new.listed → RoseBy (count + n) start.listed new.listed
    rose_more n rose =
        let before : RoseBy count start.listed old.listed = walk.rose in omega (arith, before, rose)

    once_listed : (told : Option Files) (n : ℕ) (unlisted : Files → ℕ) → new.listed ≡ counted old.listed n
        → IfSome told (λ files. old.listed ≤ start.listed + (count + unlisted files))
        → IfSome told (λ files. new.listed ≤ start.listed + ((count + n) + unlisted files))
    once_listed None n unlisted rose once = tt
    once_listed (Some files) n unlisted rose once = omega (arith, rose, once)

    few_found : (entries : List Entry) → length (now_found entries) ≤ count + length entries
    few_found entries =
        let more : length (filter_map (path_taken by_git root next false) entries) ≤ length entries =
        length_given (path_taken by_git root next false) entries in
        omega (
          arith,
          walk.few,
          more,
          length-append found (filter_map (path_taken by_git root next false) entries),
        )

    next_in : is_in root next ≡ true
    next_in = walk.inside next (Contains-first next pending)

    taken_in : (entries : List Entry) (path : List ℕ) → Contains (now_pending entries) path → is_in root path ≡ true
    taken_in entries path there =
        elim (from_puts pending (filter_map (path_taken by_git root next true) entries) path there)
        as (λ _. is_in root path ≡ true) [
          | inl old ↦ walk.inside path (Contains-rest next pending path old)
          | inr new ↦
              let of = from_taken by_git root next true entries path new in
              subst (λ (p : List ℕ). is_in root p ≡ true) (sym of.is) (child_in root next of.name next_in)
        ]

    found_below : (entries : List Entry) (path : List ℕ) → Contains (now_found entries) path
        → starts_with nat_eq path (prefix_of root) ≡ true
    found_below entries path there =
        elim (Contains-append_cases found (filter_map (path_taken by_git root next false) entries) path there)
        as (λ _. starts_with nat_eq path (prefix_of root) ≡ true) [
          | inl old ↦ walk.below path old
          | inr new ↦
              let of = from_taken by_git root next false entries path new in
              subst (λ (p : List ℕ). starts_with nat_eq p (prefix_of root) ≡ true) (sym of.is)
              (child_below root next of.name next_in)
        ]

    -- the folder was listed
    pub walking_listed : (entries : List Entry) → AreListed entries
        → IfSome old.files (λ files. entries ≡ children files next)
        → new.listed ≡ counted old.listed (length entries)
        → Walking krate root by_git start first new unread (now_pending entries) (now_found entries)
        (count + length entries)
    walking_listed entries names are rose = record {
      own = walk.own;
      longer = walk.longer;
      later = later_then start old new walk.later later;
      lists = walk.lists;
      ordered = walk.ordered;
      above = λ path other there waits. nat_list_cmp_total.trans path next other
          (walk.above path next there (Contains-first next pending))
          (above_taken by_git root next pending entries other names least waits);
      caused = λ folder at.
          caused_wider folder start start old new walk.own (later_same start) later (walk.caused folder at);
      rose = rose_more (length entries)
          (let by : RoseBy (length entries) old.listed new.listed = omega (arith, rose) in by);
      once = once_listed start.files (length entries)
          (λ files. sum_by (entries_of files) (map (λ (u : Unread). u.path) walk.own)) rose walk.once;
      few = few_found entries;
      inside = taken_in entries;
      below = found_below entries;
      told = reported_with start.files entries
          (subst (λ (told : Option Files). IfSome told (λ files. entries ≡ children files next)) walk.later.files are)
          walk.told;
    }

    -- the folder was listed, for lists and entries that equal those of the step
    pub walking_taken : (entries items : List Entry) (more : List Unread) (ps fs : List (List ℕ)) (n : ℕ)
        → AreListed entries → IfSome old.files (λ files. entries ≡ children files next)
        → new.listed ≡ counted old.listed (length entries) → items ≡ entries → more ≡ unread ++ []
        → ps ≡ now_pending items → fs ≡ now_found items → n ≡ count + length items
        → Walking krate root by_git start first new more ps fs n
    walking_taken entries items more ps fs n names are rose same none ps_are fs_are n_is =
        subst (λ (us : List Unread). Walking krate root by_git start first new us ps fs n)
        (sym (none ∙ append-nil unread))
        (subst₃ (Walking krate root by_git start first new unread) (sym (ps_are ∙ ap now_pending same))
        (sym (fs_are ∙ ap now_found same)) (sym (n_is ∙ ap (λ (es : List Entry). count + length es) same))
        (walking_listed entries names are rose))

    abbrev entry : Unread
    entry = asked (Some krate) purpose.List next

    told_without : (told : Option Files)
        → IfSome told (λ files. ToldWalk krate root by_git files walk.own (next ∷ pending) found count)
        → IfSome told (λ files. ToldWalk krate root by_git files (walk.own ++ entry ∷ []) pending found count)
    told_without None told = tt
    told_without (Some files) told = told_unlisted krate root by_git files walk.own next pending found count told least

    -- the entries listed so far and those of this folder are more than a package may have
    crowded_told : (told : Option Files) (room : ℕ) (folder : List ℕ) → folder ≡ root → count + room ≡ 2 ^ 24
        → IfSome told (λ files. room + 1 ≤ length (children files next))
        → IfSome told (λ files. ToldWalk krate root by_git files walk.own (next ∷ pending) found count)
        → IfSome told (λ files. 2 ^ 24 + 1 ≤ entries_in files folder)
    crowded_told None room folder at full many told = tt
    crowded_told (Some files) room folder at full many told =
        subst (λ (f : List ℕ). 2 ^ 24 + 1 ≤ entries_in files f) (sym at)
        (let all : count + length (children files next) ≤ entries_in files root =
        with_next krate root by_git files walk.own next pending found count told in
        let here : 2 ^ 24 + 1 ≤ entries_in files root = omega (arith, all, many, full) in here)

    bound_of : (room : ℕ) (folder : Folders) → folder (Some krate) ≡ root → count + room ≡ 2 ^ 24
        → IsCrowded old new next room → is_bound folder start new entry ≡ true
    bound_of room folder at full crowded = list_past folder start new (Some krate) next
        (let rose : RoseBy (count + (room + 1)) start.listed new.listed = rose_more (room + 1) crowded.listed in
        let past : RoseBy (2 ^ 24 + 1) start.listed new.listed = omega (arith, rose, full) in past)
        (crowded_told start.files room (folder (Some krate)) at full
        (subst (λ (told : Option Files). IfSome told (λ files. room + 1 ≤ length (children files next)))
        walk.later.files crowded.told) walk.told)

    caused_unlisted : (why : NoList) (room : ℕ) (folder : Folders) → folder (Some krate) ≡ root
        → count + room ≡ 2 ^ 24 → IsUnlisted why old new next room
        → AreCaused folder start new (walk.own ++ entry ∷ [])
    caused_unlisted Failed room folder at full failed =
        caused_then folder start old new walk.own (entry ∷ []) walk.later later (walk.caused folder at)
        (caused_by_call folder old new entry failed)
    caused_unlisted Crowded room folder at full crowded =
        caused_bounded folder start old new walk.own entry later (walk.caused folder at)
        (bound_of room folder at full crowded)

    -- the cause of the folder's entry
    cause_of : (why : NoList) (room : ℕ) (folder : Folders) → folder (Some krate) ≡ root
        → count + room ≡ 2 ^ 24 → IsUnlisted why old new next room → CauseOf why folder start new krate next
    cause_of Failed room folder at full failed =
        failed_wider start old new new call.List next walk.later (later_same new) failed
    cause_of Crowded room folder at full crowded = bound_of room folder at full crowded

    lists_entry : (u : Unread) → Contains (walk.own ++ entry ∷ []) u → u ≡ asked (Some krate) purpose.List u.path
    lists_entry u there = elim (Contains-push_cases walk.own entry u there)
        as (λ _. u ≡ asked (Some krate) purpose.List u.path) [
          | inl before ↦ walk.lists u before
          | inr last ↦ subst (λ (v : Unread). v ≡ asked (Some krate) purpose.List v.path) last refl
        ]

    entry_above : (path other : List ℕ) → Contains (map (λ (u : Unread). u.path) (walk.own ++ entry ∷ [])) path
        → Contains pending other → slice_cmp nat_cmp path other ≡ Less
    entry_above path other there waits =
        elim (Contains-push_cases (map (λ (u : Unread). u.path) walk.own) next path
        (subst (λ (paths : List (List ℕ)). Contains paths path) (map_push (λ (u : Unread). u.path) walk.own entry)
        there))
        as (λ _. slice_cmp nat_cmp path other ≡ Less) [
          | inl before ↦ walk.above path other before (Contains-rest next pending other waits)
          | inr last ↦ subst (λ (p : List ℕ). slice_cmp nat_cmp p other ≡ Less) last
              (All-contains (IsLtBy (slice_cmp nat_cmp) next) pending other least waits)
        ]

    entry_ordered : IsStrictlySortedBy (slice_cmp nat_cmp) (map (λ (u : Unread). u.path) (walk.own ++ entry ∷ []))
    entry_ordered = subst (λ (paths : List (List ℕ)). IsStrictlySortedBy (slice_cmp nat_cmp) paths)
        (sym (map_push (λ (u : Unread). u.path) walk.own entry))
        (sorted_push (map (λ (u : Unread). u.path) walk.own) next walk.ordered
        (λ path there. walk.above path next there (Contains-first next pending)))

    once_unlisted : (told : Option Files) → IfSome told (λ files. new.listed ≤ old.listed + entries_of files next)
        → IfSome told (λ files. old.listed
        ≤ start.listed + (count + sum_by (entries_of files) (map (λ (u : Unread). u.path) walk.own)))
        → IfSome told (λ files. new.listed
        ≤ start.listed + (count + sum_by (entries_of files) (map (λ (u : Unread). u.path) (walk.own ++ entry ∷ []))))
    once_unlisted None here before = tt
    once_unlisted (Some files) here before =
        let paths : List (List ℕ) = map (λ (u : Unread). u.path) walk.own in
        let both : sum_by (entries_of files) (map (λ (u : Unread). u.path) (walk.own ++ entry ∷ []))
        ≡ sum_by (entries_of files) paths + (0 + entries_of files next) =
        ap (sum_by (entries_of files)) (map_push (λ (u : Unread). u.path) walk.own entry)
        ∙ sum_by-append (entries_of files) paths (next ∷ []) in
        omega (arith, here, before, both)

    -- the folder was not listed
    pub walking_unlisted : (why : NoList) (room : ℕ) (more : List Unread) → count + room ≡ 2 ^ 24
        → more ≡ unread ++ entry ∷ [] → ListedOnce old new next → IsUnlisted why old new next room
        → Walking krate root by_git start first new more pending found count
    walking_unlisted why room more full is once unlisted = record {
      own = walk.own ++ entry ∷ [];
      longer = is ∙ ap (λ us. us ++ entry ∷ []) walk.longer ∙ append_assoc first walk.own (entry ∷ []);
      later = later_then start old new walk.later later;
      lists = lists_entry;
      ordered = entry_ordered;
      above = entry_above;
      caused = λ folder at. caused_unlisted why room folder at full unlisted;
      rose = (let before : RoseBy count start.listed old.listed = walk.rose in
          let now : RoseBy count start.listed new.listed = omega (arith, before, later.listed) in now);
      once = once_unlisted start.files
          (subst (λ (told : Option Files). IfSome told (λ files. new.listed ≤ old.listed + entries_of files next))
          walk.later.files once) walk.once;
      few = walk.few;
      inside = λ path there. walk.inside path (Contains-rest next pending path there);
      below = walk.below;
      told = told_without start.files walk.told;
    }

    -- ---- the folders without a list

    noted_wider : (notes : List Unlisted) → AreNoted krate root by_git start first old unread notes → (folder : Folders)
        → folder (Some krate) ≡ root → (n : Unlisted) → Contains notes n → HasCause folder start new krate n
    noted_wider notes noted folder at n there = cause_wider folder start old new krate n.why n.path later
        (noted.causes folder at n there)

    -- none is added where the folder was listed
    pub noted_listed : (notes new_notes : List Unlisted) (more : List Unread) → more ≡ unread ++ [] → new_notes ≡ notes
        → new.faults ≡ old.faults
        → AreNoted krate root by_git start first old unread notes → AreNoted krate root by_git start first new more new_notes
    noted_listed notes new_notes more none same quiet noted =
        subst (λ (us : List Unread). AreNoted krate root by_git start first new us new_notes) (sym (none ∙ append-nil unread))
        (subst (λ (ns : List Unlisted). AreNoted krate root by_git start first new unread ns) (sym same)
        (record {
          paths = noted.paths;
          causes = noted_wider notes noted;
          faults = omega (arith, quiet, noted.faults);
          crowded = noted.crowded;
        }))

    added_more : (more : List Unread) → more ≡ unread ++ entry ∷ []
        → added first more ≡ added first unread ++ entry ∷ []
    added_more more is =
        let whole : more ≡ first ++ (walk.own ++ entry ∷ []) =
        is ∙ ap (λ us. us ++ entry ∷ []) walk.longer ∙ append_assoc first walk.own (entry ∷ []) in
        added_is first (walk.own ++ entry ∷ []) more whole
        ∙ ap (λ us. us ++ entry ∷ []) (sym (added_is first walk.own unread walk.longer))

    -- the folder's entries are more than there was room for, where that is why it has no list
    abbrev IsFull : Option Files → NoList → ℕ → Type 0
    IsFull told why room = IfSome told (λ files. why ≡ Crowded → room + 1 ≤ entries_of files next)

    full_of : (why : NoList) (room : ℕ) → IsUnlisted why old new next room → IsFull old.files why room
    full_of Failed room unlisted = none_full old.files
      where
        none_full : (told : Option Files) → IsFull told Failed room
        none_full None = tt
        none_full (Some files) = λ is. absurd (cc is)
    full_of Crowded room unlisted = all_full old.files unlisted.told
      where
        all_full : (told : Option Files) → IfSome told (λ files. room + 1 ≤ length (children files next))
            → IsFull told Crowded room
        all_full None many = tt
        all_full (Some files) many = λ is. many

    -- one more folder without a list, with the walk before it
    crowded_more : (told : Option Files) (why : NoList) (room : ℕ) (notes : List Unlisted) (more : List Unread)
        → more ≡ walk.own ++ entry ∷ [] → count + room ≡ 2 ^ 24 → IsFull told why room
        → IfSome told (λ files. ToldWalk krate root by_git files walk.own (next ∷ pending) found count)
        → map (λ (n : Unlisted). n.path) notes ≡ map (λ (u : Unread). u.path) walk.own
        → IfSome told (λ files. (n : Unlisted) → Contains notes n → n.why ≡ Crowded
        → WasCrowded krate root by_git files walk.own n.path)
        → IfSome told (λ files. (n : Unlisted) → Contains (notes ++ record { path = next; why = why } ∷ []) n
        → n.why ≡ Crowded → WasCrowded krate root by_git files more n.path)
    crowded_more None why room notes more is full many told paths crowded = tt
    crowded_more (Some files) why room notes more is full many told paths crowded = λ n there crowds.
        elim (Contains-push_cases notes record { path = next; why = why } n there)
        as (λ _. WasCrowded krate root by_git files more n.path) [
          | inl before ↦
              let was = crowded n before crowds in
              record {
                before = was.before;
                behind = was.behind ++ entry ∷ [];
                is = is ∙ ap (λ us. us ++ entry ∷ []) was.is
                    ∙ append_assoc was.before (asked (Some krate) purpose.List n.path ∷ was.behind) (entry ∷ []);
                above = λ u within. elim (Contains-push_cases was.behind entry u within)
                    as (λ _. slice_cmp nat_cmp n.path u.path ≡ Less) [
                      | inl old ↦ was.above u old
                      | inr last ↦ subst (λ (v : Unread). slice_cmp nat_cmp n.path v.path ≡ Less) last
                          (walk.above n.path next (subst (λ (ps : List (List ℕ)). Contains ps n.path) paths
                          (contains_map (λ (m : Unlisted). m.path) notes n before)) (Contains-first next pending))
                    ];
                pending = was.pending;
                found = was.found;
                count = was.count;
                walk = was.walk;
                least = was.least;
                past = was.past;
              }
          | inr last ↦
              let here : why ≡ Crowded = ap (λ (m : Unlisted). m.why) last ∙ crowds in
              let many_here : room + 1 ≤ entries_of files next = many here in
              subst (λ (m : Unlisted). WasCrowded krate root by_git files more m.path) last
              (record {
                before = walk.own;
                behind = [];
                is = is;
                above = λ u within. absurd (no_member u within);
                pending = pending;
                found = found;
                count = count;
                walk = told;
                least = least;
                past = omega (arith, full, many_here);
              })
        ]

    own_added : added first unread ≡ walk.own
    own_added = added_is first walk.own unread walk.longer

    -- the folder is added with its cause where it was not listed
    pub noted_unlisted : (why : NoList) (room : ℕ) (notes new_notes : List Unlisted) (more : List Unread)
        → count + room ≡ 2 ^ 24 → more ≡ unread ++ entry ∷ [] → IsUnlisted why old new next room
        → new.faults ≤ old.faults + failed_calls why → new_notes ≡ notes ++ record { path = next; why = why } ∷ []
        → AreNoted krate root by_git start first old unread notes → AreNoted krate root by_git start first new more new_notes
    noted_unlisted why room notes new_notes more full is unlisted most are noted =
        let here : Unlisted = record { path = next; why = why } in
        subst (λ (ns : List Unlisted). AreNoted krate root by_git start first new more ns) (sym are)
        (record {
          paths = map_push (λ (n : Unlisted). n.path) notes here
              ∙ ap (λ ps. ps ++ next ∷ []) noted.paths
              ∙ sym (map_push (λ (u : Unread). u.path) (added first unread) entry)
              ∙ ap (map (λ (u : Unread). u.path)) (sym (added_more more is));
          causes = λ folder at n there. elim (Contains-push_cases notes here n there)
              as (λ _. HasCause folder start new krate n) [
                | inl before ↦ noted_wider notes noted folder at n before
                | inr last ↦ subst (λ (m : Unlisted). HasCause folder start new krate m) last
                    (cause_of why room folder at full unlisted)
              ];
          faults = (let both : sum_by (λ (n : Unlisted). failed_calls n.why) (notes ++ here ∷ [])
              ≡ sum_by (λ (n : Unlisted). failed_calls n.why) notes + (0 + failed_calls why) =
              sum_by-append (λ (n : Unlisted). failed_calls n.why) notes (here ∷ []) in
              omega (arith, most, noted.faults, both));
          crowded = subst (λ (us : List Unread). IfSome start.files (λ files. (n : Unlisted)
              → Contains (notes ++ here ∷ []) n → n.why ≡ Crowded → WasCrowded krate root by_git files us n.path))
              (sym (added_more more is ∙ ap (λ us. us ++ entry ∷ []) own_added))
              (crowded_more start.files why room notes (walk.own ++ entry ∷ []) refl full
              (subst (λ (told : Option Files). IsFull told why room) walk.later.files (full_of why room unlisted))
              walk.told (noted.paths ∙ ap (map (λ (u : Unread). u.path)) own_added)
              (subst (λ (us : List Unread). IfSome start.files (λ files. (n : Unlisted) → Contains notes n
              → n.why ≡ Crowded → WasCrowded krate root by_git files us n.path)) own_added noted.crowded));
        })

no_crowded : (krate : Kid) (root : List ℕ) (by_git : Bool) (told : Option Files) (own : List Unread)
    → IfSome told (λ files. (n : Unlisted) → Contains [] n → n.why ≡ Crowded
    → WasCrowded krate root by_git files own n.path)
no_crowded krate root by_git None own = tt
no_crowded krate root by_git (Some files) own = λ n there. absurd (no_member n there)

pub noted_none : (krate : Kid) (root : List ℕ) (by_git : Bool) (disk : Disk) (unread : List Unread)
    (notes : List Unlisted) → notes ≡ [] → AreNoted krate root by_git disk unread disk unread notes
noted_none krate root by_git disk unread notes none =
    subst (λ (ns : List Unlisted). AreNoted krate root by_git disk unread disk unread ns) (sym none)
    (record {
      paths = ap (map (λ (u : Unread). u.path)) (sym (added_is unread [] unread (sym (append-nil unread))));
      causes = λ folder at n there. absurd (no_member n there);
      faults = omega arith;
      crowded = no_crowded krate root by_git disk.files (added unread unread);
    })
