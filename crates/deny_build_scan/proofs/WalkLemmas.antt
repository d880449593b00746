-- What is seen of a package that is walked.
use Rattle.std.proofs.Common.{◌≡◌, ◌∙◌, ◌++◌, ◌∷◌, ◌^◌, ◌≤◌, [], ℕ, Bool, List, Option, None, Some, true, ap, arith, inl, inr, map}
use Rattle.std.proofs.Common.{length, nat_cmp, refl, subst, sym}
use Rattle.std.specs.Prelude.{◌↔◌, Contains, IfSome}
use Rattle.std.specs.Cmp.Lexicographic.{slice_cmp}
use Rattle.std.specs.List.{AllZip}
use Rattle.std.specs.List.Sorted.{IsStrictlySortedBy}
use Rattle.std.proofs.lemmas.List.Elements.{Contains-append_cases, Contains-append_right}
use Rattle.deny_base.specs.declared.span.Kid.{Kid}
use Rattle.deny_base.specs.declared.span.Spanned.{Spanned}
use Rattle.deny_spec.specs.Building.{Building}
use Rattle.deny_spec.specs.Paths.{path_cmp}
use Rattle.deny_spec.specs.declared.package.Package.{Package}
use Rattle.deny_spec.specs.declared.package.PackageFile.{PackageFile}
use Rattle.deny_spec.specs.declared.package.Seen.{Seen}
use Rattle.deny_spec.specs.declared.package.Failure.TheVariants as failures
use Rattle.deny_spec_report.specs.BuildScripts.{used}
use Rattle.deny_spec_report.specs.PackageFiles.{ByExtension, ByGlob, ByHeader, ByPath, BySum, Step, is_decided_by}
use Rattle.deny_spec_report.specs.PackageFiles.{step_of}
use Rattle.deny_base_lists.proofs.Members.{Contains-first, Contains-from_map, Contains-rest, contains_map}
use Rattle.deny_base_lists.proofs.Sorted.{length-ascending}
use Rattle.deny_base_lists.specs.Ascending.{Lists}
use Rattle.deny_spec.specs.Crates as crates
use Rattle.deny_spec.specs.Crates.{is_git_source}
use Rattle.deny_spec.specs.Graph.{Crate, kid_of}
use Rattle.deny_base_disk.specs.Children.{child}
use Rattle.deny_base_disk.specs.Disk.{Disk, Files, IsLater}
use Rattle.deny_base_disk.specs.declared.disk.Call.TheVariants as call
use Rattle.deny_base_disk.specs.declared.disk.Entry.{Entry}
use Rattle.deny_build_scan.proofs.Among.{file_weaker, same_lists}
use Rattle.deny_build_scan.proofs.FilesLemmas.{IsEntryOf, IsOfFile, because_wider, entry_among, gaps_each}
use Rattle.deny_build_scan.proofs.FilesLemmas.IsEntryOf.{header_of, sum_of}
use Rattle.deny_build_scan.proofs.OrderLemmas.{path_total}
use Rattle.deny_build_scan.proofs.Zips.{zip_weaker}
use Rattle.deny_build_scan.specs.Seen.{IsFileSeen, IsFolderUnseen, IsWalkSeen}
use Rattle.deny_build_scan.specs.Why.{IsBecause}
use Rattle.deny_build_scan.specs.Why.CanFail.{listing, long_listing}
use Rattle.deny_build_scan.specs.declared.decide.Asks.TheVariants as asks
use Rattle.deny_build_scan.specs.private.Deciding.{asks_by}
use Rattle.deny_build_scan.specs.private.Entries.{entries_of_all, gaps_of}
use Rattle.deny_build_scan.specs.private.Folders.{failure_of, folder_unseen}
use Rattle.deny_build_scan.specs.private.Walks.{IsOfWalk}
use Rattle.deny_build_scan.specs.private.Walks.IsOfWalk.{of_header, of_sum}
use Rattle.deny_base_unread.proofs.BoundLemmas.{bound_wider}
use Rattle.deny_base_disk.proofs.PieceLemmas.{later_same}
use Rattle.deny_base_unread.proofs.Later.{failed_wider}
use Rattle.deny_base_unread.proofs.ViewLemmas.{AreForOthers, is_left_out, holds_there, unread_behind}
use Rattle.deny_base_unread.specs.Bound.{Folders}
use Rattle.deny_base.specs.Unread.{asked, is_unread}
use Rattle.deny_base_unread.specs.View.{view_by, view_of}
use Rattle.deny_base.specs.declared.purpose.Purpose.{Purpose}
use Rattle.deny_base.specs.declared.purpose.Purpose.TheVariants as purpose
use Rattle.deny_base.specs.declared.unread.Unread.{Unread}
use Rattle.deny_build_walk.specs.Cause.{CauseOf, HasCause}
use Rattle.deny_build_walk.specs.Entries.{AreListedOnce, HasFewEntries, IsPastBound}
use Rattle.deny_build_walk.specs.Walk.{IsFile, Listing}
use Rattle.deny_build_walk.specs.declared.folder.NoList.{NoList}
use Rattle.deny_build_walk.specs.declared.folder.NoList.TheVariants.{Crowded, Failed}
use Rattle.deny_build_walk.specs.declared.walk.Unlisted.{Unlisted}

-- ---- what the deciding rule asks

header_step : (s : Step) → asks_by s ≡ asks.Header → s ≡ ByHeader
header_step (ByPath span) is = absurd (cc is)
header_step ByGlob is = absurd (cc is)
header_step (BySum sum) is = absurd (cc is)
header_step ByExtension is = absurd (cc is)
header_step ByHeader is = refl

sum_step : (s : Step) → asks_by s ≡ asks.Sum → (sum : Spanned (List ℕ)) × (s ≡ BySum sum)
sum_step (ByPath span) is = absurd (cc is)
sum_step ByGlob is = absurd (cc is)
sum_step (BySum sum) is = (sum, refl)
sum_step ByExtension is = absurd (cc is)
sum_step ByHeader is = absurd (cc is)

-- folders that were each listed once have few entries
pub few_once : (told : Option Files) (by_git : Bool) (root : List ℕ) (list : Files → Listing) (old new : Disk)
    (unlisted : List (List ℕ)) → IfSome told (λ files. AreListedOnce by_git root (list files) files old new unlisted)
    → IfSome told (λ files. HasFewEntries by_git root (list files) files)
few_once None by_git root list old new unlisted is = tt
few_once (Some files) by_git root list old new unlisted is = is.within

-- ---- a walk, and its files after the folders

module _ (b : Building) (home : Option (List ℕ)) (c : Crate) (start mid end : Disk) (before : IsLater start mid)
    (after : IsLater mid end) (first : List Unread)
    (lists : (u : Unread) → Contains first u → u ≡ asked (Some (kid_of c)) purpose.List u.path)
    (paths : List (List ℕ)) (files : List PackageFile) where
  abbrev kid : Option Kid
  kid = Some (kid_of c)

  abbrev own : List Unread
  own = first ++ entries_of_all b c paths files

  -- entries for folders are for lists, those for files are not
  listing_alone : (p : Purpose) (path : List ℕ) → Contains first (asked kid p path) → p ≡ purpose.List
  listing_alone p path there = ap (λ (u : Unread). u.purpose) (lists (asked kid p path) there)

  entry_purpose : (path : List ℕ) (file : PackageFile) (u : Unread) (p : Purpose) → IsEntryOf b c path file u
      → u.purpose ≡ p → (purpose.Header ≡ p → ⊥) → (purpose.Sum ≡ p → ⊥) → ⊥
  entry_purpose path file u p (header_of asks_header failed is) same no_header no_sum =
      no_header (ap (λ (v : Unread). v.purpose) (sym is) ∙ same)
  entry_purpose path file u p (sum_of asks_sum failed is) same no_header no_sum =
      no_sum (ap (λ (v : Unread). v.purpose) (sym is) ∙ same)

  files_for_others : (p : Purpose) → (purpose.Header ≡ p → ⊥) → (purpose.Sum ≡ p → ⊥)
      → AreForOthers p (entries_of_all b c paths files)
  files_for_others p no_header no_sum u there same =
      let one = entry_among b c paths files u there in
      entry_purpose one.path one.file u p one.entry same no_header no_sum

  not_listing : AreForOthers purpose.List (entries_of_all b c paths files)
  not_listing = files_for_others purpose.List (λ e. cc e) (λ e. cc e)

  says_by : (p : Purpose) (path : List ℕ) → (p ≡ purpose.List → ⊥)
      → Contains own (asked kid p path) ↔ Contains (entries_of_all b c paths files) (asked kid p path)
  says_by p path other = (
    λ there. elim (Contains-append_cases first (entries_of_all b c paths files) (asked kid p path) there) [
      | inl folder ↦ absurd (other (listing_alone p path folder))
      | inr file ↦ file
    ],
    λ there. Contains-append_right first (entries_of_all b c paths files) (asked kid p path) there,
  )

  list_same : (path : List ℕ) → is_unread own kid purpose.List path ≡ is_unread first kid purpose.List path
  list_same path = unread_behind first (entries_of_all b c paths files) kid purpose.List path not_listing

  pub lists_own : (P : Files → (List ℕ → Option (List Entry)) → Type 0) (told : Option Files)
      → IfSome told (λ fs. P fs (view_of fs first kid).list)
      → IfSome told (λ fs. P fs (view_by fs (is_unread own kid)).list)
  unfolding view_of
  lists_own P None is = tt
  lists_own P (Some fs) is = subst (λ (list : List ℕ → Option (List Entry)). P fs list)
      (same_lists fs (is_unread first kid) (is_unread own kid) (λ path. sym (list_same path))) is

  -- ---- folders

  missing_own : IsStrictlySortedBy (slice_cmp nat_cmp) (map (λ (u : Unread). u.path) first)
      → Lists (slice_cmp nat_cmp) (λ path. is_unread own kid purpose.List path ≡ true)
      (map (λ (u : Unread). u.path) first)
  missing_own up = record {
    ascending = up;
    whole = λ path gap. contains_map (λ (u : Unread). u.path) first (asked kid purpose.List path)
        (holds_there first kid purpose.List path (sym (list_same path) ∙ gap));
    sound = λ path there.
        let one = Contains-from_map (λ (u : Unread). u.path) first path there in
        let same : one.from ≡ asked kid purpose.List path =
        lists one.from one.member ∙ ap (asked kid purpose.List) one.is in
        list_same path
        ∙ is_left_out first kid purpose.List path (subst (λ (u : Unread). Contains first u) same one.member);
  }

  module _ (folder : Folders) where
    because_folder : (why : NoList) (path : List ℕ) → CauseOf why folder start mid (kid_of c) path
        → IsBecause folder start end (asked kid purpose.List path) (failure_of why)
    because_folder Failed path cause = record {
      can = listing;
      cause = failed_wider start start mid end call.List path (later_same start) after cause;
    }
    because_folder Crowded path cause = record {
      can = long_listing;
      cause = bound_wider folder start start mid end (asked kid purpose.List path) (later_same start) after cause;
    }

    -- a folder is crowded by the lists of all
    abbrev IsPast : List ℕ → Type 0
    IsPast path = IfSome start.files (λ fs.
        IsPastBound (is_git_source c) (crates.folder c) (view_by fs (is_unread own kid)).list fs path)

    past_of : (why : NoList) (path : List ℕ) → (why ≡ Crowded → IsPast path) → failure_of why ≡ failures.Crowded
        → IsPast path
    past_of Failed path past is = absurd (cc is)
    past_of Crowded path past is = past refl

    unseen_each : (notes : List Unlisted)
        → ((n : Unlisted) → Contains notes n → HasCause folder start mid (kid_of c) n)
        → ((n : Unlisted) → Contains notes n → n.why ≡ Crowded → IsPast n.path)
        → AllZip (IsFolderUnseen (IsBecause folder start end) start.files home (is_unread own kid) c)
        (map (λ (n : Unlisted). n.path) notes) (map (folder_unseen (crates.folder c) home) notes)
    unseen_each [] causes past = tt
    unseen_each (n ∷ notes) causes past = (
      record {
        shown = refl;
        failure = failure_of n.why;
        found = refl;
        because = because_folder n.why n.path (causes n (Contains-first n notes));
        past = past_of n.why n.path (past n (Contains-first n notes));
      },
      unseen_each notes (λ m there. causes m (Contains-rest n notes m there))
          (λ m there. past m (Contains-rest n notes m there)),
    )

    -- of one folder
    past_one : (notes : List Unlisted) (told : Option Files) (n : Unlisted) → Contains notes n → n.why ≡ Crowded
        → IfSome told (λ fs. (m : Unlisted) → Contains notes m → m.why ≡ Crowded
        → IsPastBound (is_git_source c) (crates.folder c) (view_of fs first kid).list fs m.path)
        → IfSome told (λ fs. IsPastBound (is_git_source c) (crates.folder c) (view_of fs first kid).list fs n.path)
    past_one notes None n there crowds past = tt
    past_one notes (Some fs) n there crowds past = past n there crowds

    -- ---- files

    pub told_all : (told : Option Files) (listed : List (List ℕ))
        → IfSome told (λ fs. Lists (slice_cmp nat_cmp) (IsFile (is_git_source c) (crates.folder c)
        (view_of fs first kid).list) listed)
        → Lists path_cmp (Contains listed) paths
        → IfSome told (λ fs. (path : List ℕ) → Contains paths path
        ↔ IsFile (is_git_source c) (crates.folder c) (view_of fs first kid).list path)
    told_all None listed all order = tt
    told_all (Some fs) listed all order = λ path. (
      λ there. all.sound path (order.sound path there),
      λ is. order.whole path (all.whole path is),
    )

    pub walk_seen : (script : Option Seen) (listed : List (List ℕ)) (notes : List Unlisted)
        → IsStrictlySortedBy (slice_cmp nat_cmp) (map (λ (u : Unread). u.path) first)
        → map (λ (n : Unlisted). n.path) notes ≡ map (λ (u : Unread). u.path) first
        → ((n : Unlisted) → Contains notes n → HasCause folder start mid (kid_of c) n)
        → IfSome start.files (λ fs. (n : Unlisted) → Contains notes n → n.why ≡ Crowded
        → IsPastBound (is_git_source c) (crates.folder c) (view_of fs first kid).list fs n.path)
        → length listed ≤ 2 ^ 24
        → IfSome start.files (λ fs. HasFewEntries (is_git_source c) (crates.folder c) (view_of fs first kid).list fs)
        → IfSome start.files (λ fs. Lists (slice_cmp nat_cmp) (IsFile (is_git_source c) (crates.folder c)
        (view_of fs first kid).list) listed)
        → Lists path_cmp (Contains listed) paths
        → AllZip (λ path file. IsFileSeen (IsBecause folder mid end) mid.files b home (gaps_of file) c path file)
        paths files
        → IsWalkSeen (IsBecause folder start end) start.files b home (is_unread own kid) c
        (record { script = script; unlisted = map (folder_unseen (crates.folder c) home) notes; files = files })
    walk_seen script listed notes up same causes past most few all order seen = record {
      folders = map (λ (u : Unread). u.path) first;
      missing = missing_own up;
      unlisted = subst (λ (ps : List (List ℕ)). AllZip (IsFolderUnseen (IsBecause folder start end) start.files home
          (is_unread own kid) c) ps (map (folder_unseen (crates.folder c) home) notes)) same
          (unseen_each notes causes (λ n there crowds.
          lists_own (λ fs list. IsPastBound (is_git_source c) (crates.folder c) list fs n.path) start.files
          (past_one notes start.files n there crowds past)));
      paths = paths;
      ordered = order.ascending;
      all = lists_own (λ fs list. (path : List ℕ) → Contains paths path
          ↔ IsFile (is_git_source c) (crates.folder c) list path) start.files (told_all start.files listed all order);
      files = gaps_each b c (IsBecause folder start end) start.files home own paths files order.ascending
          (λ path p there of_file. says_by p path (file_apart p of_file))
          (zip_weaker
          (λ path file. IsFileSeen (IsBecause folder mid end) mid.files b home (gaps_of file) c path file)
          (λ path file. IsFileSeen (IsBecause folder start end) start.files b home (gaps_of file) c path file)
          paths files (λ path file is. file_weaker (IsBecause folder mid end) (IsBecause folder start end)
          (because_wider folder start mid end end before (later_same end)) start.files c b home (gaps_of file)
          (gaps_of file) path file refl refl
          (subst (λ (told : Option Files). IsFileSeen (IsBecause folder mid end) told b home (gaps_of file) c path file)
          before.files is)) seen);
      most = omega (arith, most, length-ascending path_total paths listed order.ascending order.sound);
      few = lists_own (λ fs list. HasFewEntries (is_git_source c) (crates.folder c) list fs) start.files few;
    }
      where
        file_apart : (p : Purpose) → IsOfFile b c p → p ≡ purpose.List → ⊥
        file_apart purpose.Manifest of_file same = of_file
        file_apart purpose.Script of_file same = of_file
        file_apart purpose.List of_file same = of_file
        file_apart purpose.Header of_file same = cc same
        file_apart purpose.Sum of_file same = cc same

  -- ---- which entries are wanted

  pub of_files : (contents : Package) (told : Option Files) (path : List ℕ) (file : PackageFile) (u : Unread)
      → Contains contents.files file → path ≡ child (crates.folder c) file.path
      → IfSome told (λ fs. IsFile (is_git_source c) (crates.folder c) (view_of fs own kid).list path)
      → IsEntryOf b c path file u → IsOfWalk told b own c contents u
  of_files contents told path file u member rest lies (header_of asks_header failed is) = of_header path
      (record {
        file = file;
        member = member;
        rest = rest;
        lies = lies;
        decides = header_step (step_of b (used b c) file.path (is_decided_by file)) asks_header;
      })
      is
  of_files contents told path file u member rest lies (sum_of asks_sum failed is) =
      let step = sum_step (step_of b (used b c) file.path (is_decided_by file)) asks_sum in
      of_sum path step.0
      (record { file = file; member = member; rest = rest; lies = lies; decides = step.1 }) is
