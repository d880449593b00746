-- What is seen of files, one after another, and the entries for them.
use Rattle.std.proofs.Common.{◌≡◌, ◌∙◌, ◌++◌, ◌∷◌, [], ℕ, Bool, List, Option, Some, true, ap, append-nil, append_assoc}
use Rattle.std.proofs.Common.{inl, inr, refl, subst, sym}
use Rattle.std.specs.Prelude.{◌↔◌, Contains, not}
use Rattle.std.specs.List.{AllByRecursion, AllZip}
use Rattle.std.specs.List.Sorted.{IsStrictlySortedBy}
use Rattle.std.specs.declared.cmp.Ordering.TheVariants.{Less}
use Rattle.std.proofs.lemmas.Slice.Zip.{all_zipped_more}
use Rattle.std.proofs.lemmas.List.Elements.{Contains-append_cases, Contains-append_left, Contains-append_right}
use Rattle.deny_base.specs.declared.span.Kid.{Kid}
use Rattle.deny_spec.specs.Building.{Building}
use Rattle.deny_spec.specs.Paths.{path_cmp}
use Rattle.deny_spec.specs.declared.package.Failure.{Failure}
use Rattle.deny_spec.specs.declared.package.Failure.TheVariants.{Crowded, Long, Unlisted, Unreadable}
use Rattle.deny_spec.specs.declared.package.Found.{Found}
use Rattle.deny_spec.specs.declared.package.Found.TheVariants.{Failed, Kind, Sum, Unasked}
use Rattle.deny_spec.specs.declared.package.PackageFile.{PackageFile}
use Rattle.deny_spec_report.specs.BuildScripts.{used}
use Rattle.deny_spec_report.specs.PackageFiles.{ByExtension, ByGlob, ByHeader, ByPath, BySum, Step, is_decided_by}
use Rattle.deny_spec_report.specs.PackageFiles.{step_of}
use Rattle.deny_base_lists.proofs.Booleans.{tests_agree}
use Rattle.deny_base_lists.proofs.Members.{Contains-by_cases, Contains-first, Contains-rest, at_member, no_member}
use Rattle.deny_base_lists.proofs.Orders.{not_below_itself}
use Rattle.deny_spec.specs.Graph.{Crate, kid_of}
use Rattle.deny_base_disk.specs.Disk.{Disk, Files, IsLater}
use Rattle.deny_build_scan.proofs.OrderLemmas.{path_total}
use Rattle.deny_build_scan.proofs.Zips.{zip_weaker}
use Rattle.deny_build_scan.proofs.Among.{file_weaker, found_weaker}
use Rattle.deny_build_scan.specs.Seen.{Gaps, IsFileSeen, IsFoundBy, of_crate}
use Rattle.deny_build_scan.specs.Why.{HasCause, IsBecause, Why}
use Rattle.deny_build_scan.specs.declared.decide.Asks.{Asks}
use Rattle.deny_build_scan.specs.declared.decide.Asks.TheVariants as asks
use Rattle.deny_build_scan.specs.private.Deciding.{asks_by}
use Rattle.deny_build_scan.specs.private.Entries.{IsFoundFor, asks_of, entries_for, entries_of, entries_of_all, gaps_of}
use Rattle.deny_build_scan.specs.private.Entries.{is_failed, noted}
use Rattle.deny_base_unread.proofs.BoundLemmas.{bound_wider}
use Rattle.deny_base_unread.proofs.Later.{failed_wider}
use Rattle.deny_base_unread.proofs.ViewLemmas.{is_left_out, holds_there}
use Rattle.deny_base_unread.specs.Bound.{Folders}
use Rattle.deny_base.specs.Purpose.{call_for}
use Rattle.deny_base.specs.Unread.{asked, is_unread}
use Rattle.deny_base.specs.declared.purpose.Purpose.{Purpose}
use Rattle.deny_base.specs.declared.purpose.Purpose.TheVariants as purpose
use Rattle.deny_base.specs.declared.unread.Unread.{Unread}

-- ---- a cause between two disks is one between an earlier and a later one

cause_wider : (folder : Folders) (a b c d : Disk) (u : Unread) (failure : Failure) → IsLater a b → IsLater c d
    → HasCause folder b c u failure → HasCause folder a d u failure
cause_wider folder a b c d u Unreadable before after cause =
    failed_wider a b c d (call_for u.purpose) u.path before after cause
cause_wider folder a b c d u Long before after cause = bound_wider folder a b c d u before after cause
cause_wider folder a b c d u Unlisted before after cause =
    failed_wider a b c d (call_for u.purpose) u.path before after cause
cause_wider folder a b c d u Crowded before after cause = bound_wider folder a b c d u before after cause

pub because_wider : (folder : Folders) (a b c d : Disk) → IsLater a b → IsLater c d → (u : Unread) (failure : Failure)
    → IsBecause folder b c u failure → IsBecause folder a d u failure
because_wider folder a b c d before after u failure is =
    record { can = is.can; cause = cause_wider folder a b c d u failure before after is.cause }

-- ---- one more file

module _ (b : Building) (home : Option (List ℕ)) (c : Crate) (folder : Folders) (start : Disk) where
  abbrev IsSeenAt : Disk → Disk → List ℕ → PackageFile → Type 0
  IsSeenAt from to path file =
      IsFileSeen (IsBecause folder from to) start.files b home (gaps_of file) c path file

  seen_wider : (from mid to end : Disk) (path : List ℕ) (file : PackageFile) → IsLater from mid → IsLater to end
      → IsSeenAt mid to path file → IsSeenAt from end path file
  seen_wider from mid to end path file before after is =
      file_weaker (IsBecause folder mid to) (IsBecause folder from end)
      (because_wider folder from mid to end before after)
      start.files c b home (gaps_of file) (gaps_of file) path file refl refl is

  zip_wider : (from mid to end : Disk) (paths : List (List ℕ)) (files : List PackageFile) → IsLater from mid
      → IsLater to end → AllZip (IsSeenAt mid to) paths files → AllZip (IsSeenAt from end) paths files
  zip_wider from mid to end paths files before after zip =
      zip_weaker (IsSeenAt mid to) (IsSeenAt from end) paths files
      (λ path file. seen_wider from mid to end path file before after) zip

  pub seen_more : (mid end : Disk) (paths : List (List ℕ)) (files : List PackageFile) (path : List ℕ)
      (file : PackageFile) → IsLater start start → IsLater start mid → IsLater mid end → IsLater end end
      → AllZip (IsSeenAt start mid) paths files
      → IsFileSeen (IsBecause folder mid end) mid.files b home (gaps_of file) c path file
      → AllZip (IsSeenAt start end) (paths ++ path ∷ []) (files ++ file ∷ [])
  seen_more mid end paths files path file same before after last zip is =
      all_zipped_more (IsSeenAt start end) paths files path file
      (zip_wider start start mid end paths files same after zip)
      (seen_wider start mid end end path file before last
      (subst (λ (told : Option Files). IsFileSeen (IsBecause folder mid end) told b home (gaps_of file) c path file)
      before.files is))

  pub entries_more : (R : List ℕ → PackageFile → Type 0) (paths : List (List ℕ)) (files : List PackageFile)
      (path : List ℕ) (file : PackageFile) → AllZip R paths files
      → entries_of_all b c (paths ++ path ∷ []) (files ++ file ∷ [])
      ≡ entries_of_all b c paths files ++ entries_of b c path file
  entries_more R [] [] path file zip = append-nil (entries_of b c path file)
  entries_more R [] (f ∷ files) path file zip = absurd zip
  entries_more R (p ∷ paths) [] path file zip = absurd zip
  entries_more R (p ∷ paths) (f ∷ files) path file zip =
      ap (λ us. entries_of b c p f ++ us) (entries_more R paths files path file zip.1)
      ∙ sym (append_assoc (entries_of b c p f) (entries_of_all b c paths files) (entries_of b c path file))

-- ---- what is found is what was asked

pub found_by_asks : (why : Purpose → List ℕ → Failure → Type 0) (told : Option Files) (no_archives : Bool)
    (path : List ℕ) (step : Step) (found : Found) → IsFoundFor why told no_archives path (asks_by step) found
    → IsFoundBy why told no_archives (λ p q. is_failed found) path step found
found_by_asks why told no_archives path (ByPath span) found is = is
found_by_asks why told no_archives path ByGlob found is = is
found_by_asks why told no_archives path (BySum sum) found is = is
found_by_asks why told no_archives path ByExtension found is = is
found_by_asks why told no_archives path ByHeader found is = is

-- ---- the entries for files

pub failed_noted : (u : Unread) (found : Found) → is_failed found ≡ true → Contains (noted u found) u
failed_noted u Unasked is = absurd (cc is)
failed_noted u (Sum sum) is = absurd (cc is)
failed_noted u (Kind kind) is = absurd (cc is)
failed_noted u (Failed failure) is = Contains-first u []

module _ (b : Building) (c : Crate) where
  abbrev kid : Option Kid
  kid = Some (kid_of c)

  noted_at : (path : List ℕ) (p : Purpose) (found : Found) (u : Unread) → Contains (noted (asked kid p path) found) u
      → asked kid p path ≡ u
  noted_at path p Unasked u there = absurd (no_member u there)
  noted_at path p (Sum sum) u there = absurd (no_member u there)
  noted_at path p (Kind kind) u there = absurd (no_member u there)
  noted_at path p (Failed failure) u there =
      Contains-by_cases (asked kid p path) [] u there (λ same. same) (λ later. absurd (no_member u later))

  noted_failed : (u v : Unread) (found : Found) → Contains (noted u found) v → is_failed found ≡ true
  noted_failed u v Unasked there = absurd (no_member v there)
  noted_failed u v (Sum sum) there = absurd (no_member v there)
  noted_failed u v (Kind kind) there = absurd (no_member v there)
  noted_failed u v (Failed failure) there = refl

  -- the entry is for this file
  pub data IsEntryOf (path : List ℕ) (file : PackageFile) (u : Unread) : Type 0 where
    header_of : asks_of b c file ≡ asks.Header → is_failed file.seen.found ≡ true
        → u ≡ asked kid purpose.Header path → IsEntryOf path file u
    sum_of : asks_of b c file ≡ asks.Sum → is_failed file.seen.found ≡ true
        → u ≡ asked kid purpose.Sum path → IsEntryOf path file u

  entry_by : (path : List ℕ) (file : PackageFile) (a : Asks) (u : Unread) → asks_of b c file ≡ a
      → Contains (entries_for a kid path file.seen.found) u → IsEntryOf path file u
  entry_by path file asks.Nothing u is there = absurd (no_member u there)
  entry_by path file asks.Sum u is there =
      sum_of is (noted_failed (asked kid purpose.Sum path) u file.seen.found there)
      (sym (noted_at path purpose.Sum file.seen.found u there))
  entry_by path file asks.Header u is there =
      header_of is (noted_failed (asked kid purpose.Header path) u file.seen.found there)
      (sym (noted_at path purpose.Header file.seen.found u there))

  pub entry_of : (path : List ℕ) (file : PackageFile) (u : Unread) → Contains (entries_of b c path file) u
      → IsEntryOf path file u
  entry_of path file u there = entry_by path file (asks_of b c file) u refl there

  entry_path : (path : List ℕ) (file : PackageFile) (u : Unread) → IsEntryOf path file u → u.path ≡ path
  entry_path path file u (header_of asks_header failed is) = ap (λ (v : Unread). v.path) is
  entry_path path file u (sum_of asks_sum failed is) = ap (λ (v : Unread). v.path) is

  -- the entry is for one of the files
  pub record IsEntryAmong (paths : List (List ℕ)) (files : List PackageFile) (u : Unread) : Type 0 where
    pub path : List ℕ
    pub file : PackageFile
    pub listed : Contains paths path
    pub member : Contains files file
    pub entry : IsEntryOf path file u

  pub entry_among : (paths : List (List ℕ)) (files : List PackageFile) (u : Unread)
      → Contains (entries_of_all b c paths files) u → IsEntryAmong paths files u
  entry_among [] files u there = absurd (no_member u there)
  entry_among (path ∷ paths) [] u there = absurd (no_member u there)
  entry_among (path ∷ paths) (file ∷ files) u there =
      elim (Contains-append_cases (entries_of b c path file) (entries_of_all b c paths files) u there) [
        | inl here ↦ record {
          path = path;
          file = file;
          listed = Contains-first path paths;
          member = Contains-first file files;
          entry = entry_of path file u here;
        }
        | inr later ↦
            let rest = entry_among paths files u later in
            record {
              path = rest.path;
              file = rest.file;
              listed = Contains-rest path paths rest.path rest.listed;
              member = Contains-rest file files rest.file rest.member;
              entry = rest.entry;
            }
      ]

  -- ---- the entries for one of the files

  abbrev pub IsOfFile : Purpose → Type 0
  IsOfFile purpose.Manifest = ⊥
  IsOfFile purpose.Script = ⊥
  IsOfFile purpose.List = ⊥
  IsOfFile purpose.Header = Unit {0}
  IsOfFile purpose.Sum = Unit {0}

  -- the gap of a file, for what is asked of it, says whether it failed
  record IsGapAt (unread : Gaps) (path : List ℕ) (file : PackageFile) : Type 0 where
    header : asks_of b c file ≡ asks.Header → unread purpose.Header path ≡ is_failed file.seen.found
    sum : asks_of b c file ≡ asks.Sum → unread purpose.Sum path ≡ is_failed file.seen.found

  found_gap : (why : Why) (told : Option Files) (no_archives : Bool) (unread : Gaps) (path : List ℕ) (step : Step)
      (found : Found) → (asks_by step ≡ asks.Header → unread purpose.Header path ≡ is_failed found)
      → (asks_by step ≡ asks.Sum → unread purpose.Sum path ≡ is_failed found)
      → IsFoundBy (of_crate why c) told no_archives (λ p q. is_failed found) path step found
      → IsFoundBy (of_crate why c) told no_archives unread path step found
  found_gap why told no_archives unread path (ByPath span) found header sum is = is
  found_gap why told no_archives unread path ByGlob found header sum is = is
  found_gap why told no_archives unread path (BySum wanted) found header sum is =
      found_weaker why why (λ u failure because. because) told c no_archives (λ p q. is_failed found)
      (λ p q. unread purpose.Sum path) path (BySum wanted) found (sym (sum refl)) (sym (sum refl)) is
  found_gap why told no_archives unread path ByExtension found header sum is = is
  found_gap why told no_archives unread path ByHeader found header sum is =
      found_weaker why why (λ u failure because. because) told c no_archives (λ p q. is_failed found)
      (λ p q. unread purpose.Header path) path ByHeader found (sym (header refl)) (sym (header refl)) is

  file_gap : (why : Why) (told : Option Files) (home : Option (List ℕ)) (unread : Gaps) (path : List ℕ)
      (file : PackageFile) → IsGapAt unread path file → IsFileSeen why told b home (gaps_of file) c path file
      → IsFileSeen why told b home unread c path file
  file_gap why told home unread path file gap is = record {
    rest = is.rest;
    globs = is.globs;
    shown = is.shown;
    found = found_gap why told (not b.with_archives) unread path (step_of b (used b c) file.path (is_decided_by file))
        file.seen.found gap.header gap.sum is.found;
  }

  entry_failed : (path : List ℕ) (file : PackageFile) (u : Unread) → IsEntryOf path file u
      → is_failed file.seen.found ≡ true
  entry_failed path file u (header_of asks_header failed is) = failed
  entry_failed path file u (sum_of asks_sum failed is) = failed

  not_again : (path : List ℕ) (paths : List (List ℕ)) → AllByRecursion (λ q. path_cmp path q ≡ Less) paths
      → Contains paths path → ⊥
  not_again path paths above there =
      not_below_itself path_cmp path_total path path refl
      (at_member (λ q. path_cmp path q ≡ Less) paths path above there)

  asked_header : (path : List ℕ) (file : PackageFile) → asks_of b c file ≡ asks.Header
      → is_failed file.seen.found ≡ true → Contains (entries_of b c path file) (asked kid purpose.Header path)
  asked_header path file is failed =
      subst (λ (a : Asks). Contains (entries_for a kid path file.seen.found) (asked kid purpose.Header path)) (sym is)
      (failed_noted (asked kid purpose.Header path) file.seen.found failed)

  asked_sum : (path : List ℕ) (file : PackageFile) → asks_of b c file ≡ asks.Sum
      → is_failed file.seen.found ≡ true → Contains (entries_of b c path file) (asked kid purpose.Sum path)
  asked_sum path file is failed =
      subst (λ (a : Asks). Contains (entries_for a kid path file.seen.found) (asked kid purpose.Sum path)) (sym is)
      (failed_noted (asked kid purpose.Sum path) file.seen.found failed)

  -- all entries of the crate agree with those of these files
  abbrev SaysOf : List Unread → List (List ℕ) → List PackageFile → Type 0
  SaysOf own paths files = (path : List ℕ) (p : Purpose) → Contains paths path → IsOfFile p
      → Contains own (asked kid p path) ↔ Contains (entries_of_all b c paths files) (asked kid p path)

  gap_here : (own : List Unread) (path : List ℕ) (file : PackageFile) (paths : List (List ℕ))
      (files : List PackageFile) (p : Purpose) → IsOfFile p → AllByRecursion (λ q. path_cmp path q ≡ Less) paths
      → SaysOf own (path ∷ paths) (file ∷ files)
      → (is_failed file.seen.found ≡ true → Contains (entries_of b c path file) (asked kid p path))
      → is_unread own kid p path ≡ is_failed file.seen.found
  gap_here own path file paths files p of_file above says asked_so =
      tests_agree (is_unread own kid p path) (is_failed file.seen.found)
      (λ gap. elim (Contains-append_cases (entries_of b c path file) (entries_of_all b c paths files) (asked kid p path)
      ((says path p (Contains-first path paths) of_file).0 (holds_there own kid p path gap))) [
        | inl here ↦ entry_failed path file (asked kid p path) (entry_of path file (asked kid p path) here)
        | inr later ↦
            let rest = entry_among paths files (asked kid p path) later in
            absurd (not_again path paths above (subst (λ (q : List ℕ). Contains paths q)
            (sym (entry_path rest.path rest.file (asked kid p path) rest.entry)) rest.listed))
      ])
      (λ failed. is_left_out own kid p path ((says path p (Contains-first path paths) of_file).1
      (Contains-append_left (entries_of b c path file) (entries_of_all b c paths files) (asked kid p path)
      (asked_so failed))))

  says_rest : (own : List Unread) (path : List ℕ) (file : PackageFile) (paths : List (List ℕ))
      (files : List PackageFile) → AllByRecursion (λ q. path_cmp path q ≡ Less) paths
      → SaysOf own (path ∷ paths) (file ∷ files) → SaysOf own paths files
  says_rest own path file paths files above says other p there of_file = (
    λ holds. elim (Contains-append_cases (entries_of b c path file) (entries_of_all b c paths files)
        (asked kid p other) ((says other p (Contains-rest path paths other there) of_file).0 holds)) [
          | inl here ↦
              absurd (not_again path paths above (subst (λ (q : List ℕ). Contains paths q)
              (entry_path path file (asked kid p other) (entry_of path file (asked kid p other) here)) there))
          | inr later ↦ later
        ],
    λ later. (says other p (Contains-rest path paths other there) of_file).1
        (Contains-append_right (entries_of b c path file) (entries_of_all b c paths files) (asked kid p other) later),
  )

  pub gaps_each : (why : Why) (told : Option Files) (home : Option (List ℕ)) (own : List Unread)
      (paths : List (List ℕ)) (files : List PackageFile) → IsStrictlySortedBy path_cmp paths → SaysOf own paths files
      → AllZip (λ path file. IsFileSeen why told b home (gaps_of file) c path file) paths files
      → AllZip (IsFileSeen why told b home (is_unread own kid) c) paths files
  unfolding IsStrictlySortedBy
  gaps_each why told home own [] [] up says zip = tt
  gaps_each why told home own [] (file ∷ files) up says zip = absurd zip
  gaps_each why told home own (path ∷ paths) [] up says zip = absurd zip
  gaps_each why told home own (path ∷ paths) (file ∷ files) up says zip = (
    file_gap why told home (is_unread own kid) path file
        (record {
          header = λ is. gap_here own path file paths files purpose.Header tt up.0 says (asked_header path file is);
          sum = λ is. gap_here own path file paths files purpose.Sum tt up.0 says (asked_sum path file is);
        })
        zip.0,
    gaps_each why told home own paths files up.1 (says_rest own path file paths files up.0 says) zip.1,
  )
