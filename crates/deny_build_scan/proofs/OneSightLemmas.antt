-- What is seen of packages is determined, but for how failures came.
use Rattle.std.proofs.Common.{◌≡◌, ◌∙◌, ◌++◌, ◌∷◌, [], ℕ, Bool, List, Option, None, Some, true, false, ap, append_assoc}
use Rattle.std.proofs.Common.{refl, subst, sym}
use Rattle.std.specs.Prelude.{not}
use Rattle.std.specs.Cmp.Lexicographic.{nat_list_cmp_total}
use Rattle.std.specs.List.{AllZip, flat_map}
use Rattle.std.specs.Option.{option_map_or}
use Rattle.deny_spec.specs.Building.{Building, Bypass}
use Rattle.deny_spec.specs.declared.package.Failure.{Failure}
use Rattle.deny_spec.specs.declared.package.Found.{Found}
use Rattle.deny_spec.specs.declared.package.Found.TheVariants.{Failed, Kind, Sum, Unasked}
use Rattle.deny_spec.specs.declared.package.Package.{Package}
use Rattle.deny_spec.specs.declared.package.PackageFile.{PackageFile}
use Rattle.deny_spec.specs.declared.package.Seen.{Seen}
use Rattle.deny_spec_report.proofs.BuildAlike.{reached_alike}
use Rattle.deny_spec_report.specs.BuildScripts.{is_walked, used}
use Rattle.deny_spec_report.specs.Facts.{TestsReached}
use Rattle.deny_spec_report.specs.PackageFiles.{ByExtension, ByGlob, ByHeader, ByPath, BySum, Step, is_decided_by}
use Rattle.deny_spec_report.specs.PackageFiles.{leaves_to_globs, path_of_used, step_of}
use Rattle.deny_base_lists.proofs.Sorted.{one_list}
use Rattle.deny_spec.specs.Graph.{Crate, Graph, Target, kid_of}
use Rattle.deny_base_disk.specs.Disk.{Files}
use Rattle.deny_build_scan.proofs.Checks.{asked_same, walks_same}
use Rattle.deny_build_scan.proofs.OrderLemmas.{path_total}
use Rattle.deny_build_scan.proofs.Zips.{zip_both}
use Rattle.deny_build_scan.specs.Deciding.{AreDeciding, own_texts, script_texts}
use Rattle.deny_build_scan.specs.Deciding.AreDeciding.{by_extension, by_glob, by_path, by_sum}
use Rattle.deny_build_scan.specs.Failures.{failures_in, failures_of, package_failures}
use Rattle.deny_build_scan.specs.Globs.{AreFitting}
use Rattle.deny_build_scan.specs.Globs.AreFitting.{fitting, none, other}
use Rattle.deny_build_scan.specs.Seen.{AreBoth, ArePackagesSeen, Gaps, IsFileSeen, IsFolderUnseen, IsFoundBy}
use Rattle.deny_build_scan.specs.Seen.{IsKindSeen}
use Rattle.deny_build_scan.specs.Seen.{IsNotWalked, IsPackageSeenBy, IsScriptSeen, IsSumSeen, IsWalkSeen, of_crate}
use Rattle.deny_build_scan.specs.Seen.{script_asked}
use Rattle.deny_build_scan.specs.Seen.IsKindSeen.{known, unknown}
use Rattle.deny_build_scan.specs.Seen.IsSumSeen.{failed, taken}
use Rattle.deny_build_scan.specs.Why.{IsOfPurpose, Why}
use Rattle.deny_base.specs.Unread.{is_unread}
use Rattle.deny_base.specs.declared.purpose.Purpose.TheVariants as purpose
use Rattle.deny_base.specs.declared.unread.Unread.{Unread}

-- ---- which globs decide

fitting_once : (path : List ℕ) (globs these those : List (List ℕ)) → AreFitting path globs these
    → AreFitting path globs those → these ≡ those
fitting_once path _ _ _ none none = refl
fitting_once path _ _ _ (fitting {globs} {those} glob fits one) (fitting again fits_too two) =
    ap (λ gs. glob ∷ gs) (fitting_once path globs those _ one two)
fitting_once path _ _ _ (fitting glob fits one) (other again fails two) = absurd (fails fits)
fitting_once path _ _ _ (other glob fails one) (fitting again fits two) = absurd (fails fits)
fitting_once path _ _ _ (other {globs} {those} glob fails one) (other again fails_too two) =
    fitting_once path globs those _ one two

module _ (b : Building) (owner : Option Bypass) (path : List ℕ) where
  abbrev leaves : Bool
  leaves = leaves_to_globs (path_of_used owner path)

  apart : {P : Type 0} → leaves ≡ false → leaves ≡ true → P
  apart alone left = absurd (cc (sym alone ∙ left))

  leaves_none : path_of_used owner path ≡ None → leaves ≡ true
  leaves_none nowhere = ap leaves_to_globs nowhere

  empty : {P : Type 0} (glob : List ℕ) (globs : List (List ℕ)) → glob ∷ globs ≡ [] → P
  empty glob globs is = absurd (cc is)

  same_own : (these those : List (List ℕ)) → AreFitting path (own_texts owner) these
      → AreFitting path (own_texts owner) those → these ≡ those
  same_own = fitting_once path (own_texts owner)

  deciding_once : (these those : List (List ℕ)) → AreDeciding b owner path these → AreDeciding b owner path those
      → these ≡ those
  deciding_once _ _ (by_path alone) (by_path alone_too) = refl
  deciding_once _ _ (by_path alone) (by_glob g gs left fit) = apart alone left
  deciding_once _ _ (by_path alone) (by_sum allowed is left fit) = apart alone left
  deciding_once _ _ (by_path alone) (by_extension gs nowhere fit scripts) = apart alone (leaves_none nowhere)
  deciding_once _ _ (by_glob g gs left fit) (by_path alone) = apart alone left
  deciding_once _ _ (by_glob g gs left fit) (by_glob h hs left_too fit_too) =
      same_own (g ∷ gs) (h ∷ hs) fit fit_too
  deciding_once _ _ (by_glob g gs left fit) (by_sum allowed is left_too fit_too) = same_own (g ∷ gs) [] fit fit_too
  deciding_once _ _ (by_glob g gs left fit) (by_extension hs nowhere fit_too scripts) =
      empty g gs (same_own (g ∷ gs) [] fit fit_too)
  deciding_once _ _ (by_sum allowed is left fit) (by_path alone) = apart alone left
  deciding_once _ _ (by_sum allowed is left fit) (by_glob h hs left_too fit_too) = same_own [] (h ∷ hs) fit fit_too
  deciding_once _ _ (by_sum allowed is left fit) (by_sum allowed_too is_too left_too fit_too) = refl
  deciding_once _ _ (by_sum allowed is left fit) (by_extension hs nowhere fit_too scripts) =
      absurd (cc (sym is ∙ nowhere))
  deciding_once _ _ (by_extension gs nowhere fit scripts) (by_path alone) = apart alone (leaves_none nowhere)
  deciding_once _ _ (by_extension gs nowhere fit scripts) (by_glob h hs left_too fit_too) =
      empty h hs (same_own (h ∷ hs) [] fit_too fit)
  deciding_once _ _ (by_extension gs nowhere fit scripts) (by_sum allowed is left fit_too) =
      absurd (cc (sym is ∙ nowhere))
  deciding_once _ _ (by_extension gs nowhere fit scripts) (by_extension hs nowhere_too fit_too scripts_too) =
      fitting_once path (script_texts b) gs hs scripts scripts_too

-- ---- things that differ only by their failures

-- where the failures up to here and after are equal, the two are equal and so are the failures after
abbrev Splits : {X : Type 0} → (X → List Failure) → X → X → Type 0
Splits fails x y = (a b : List Failure) → fails x ++ a ≡ fails y ++ b → (x ≡ y) × (a ≡ b)

splits_none : {X : Type 0} (fails : X → List Failure) (x y : X) → fails x ≡ [] → fails y ≡ [] → x ≡ y
    → Splits fails x y
splits_none fails x y quiet quiet_too same = λ a b e. (
  same,
  ap (λ f. f ++ a) (sym quiet) ∙ e ∙ ap (λ f. f ++ b) quiet_too,
)

splits_list : {X : Type 0} (fails : X → List Failure) (xs ys : List X) → AllZip (Splits fails) xs ys
    → Splits (flat_map fails) xs ys
splits_list fails [] [] zip = λ a b e. (refl, e)
splits_list fails [] (y ∷ ys) zip = absurd zip
splits_list fails (x ∷ xs) [] zip = absurd zip
splits_list fails (x ∷ xs) (y ∷ ys) zip = λ a b e.
    let first = zip.0 (flat_map fails xs ++ a) (flat_map fails ys ++ b)
    (sym (append_assoc (fails x) (flat_map fails xs) a) ∙ e ∙ append_assoc (fails y) (flat_map fails ys) b) in
    let rest = splits_list fails xs ys zip.1 a b first.1 in
    ((λ i. first.0 i ∷ rest.0 i), rest.1)

-- ---- what was found

module _ (why why_too : Failure → Type 0) (files : Files) (path : List ℕ) (gap : Bool) where
  gap_apart : {P : Type 0} → gap ≡ false → gap ≡ true → P
  gap_apart read gone = absurd (cc (sym read ∙ gone))

  splits_sum : (x y : Found) → IsSumSeen why (Some files) path gap x → IsSumSeen why_too (Some files) path gap y
      → Splits failures_of x y
  splits_sum _ _ (taken read sum is short) (taken read_too sum_too is_too short_too) =
      splits_none failures_of (Sum sum) (Sum sum_too) refl refl (ap (λ s. Sum s) (is ∙ sym is_too))
  splits_sum _ _ (taken read sum is short) (failed gone failure because) = gap_apart read gone
  splits_sum _ _ (failed gone failure because) (taken read sum is short) = gap_apart read gone
  splits_sum _ _ (failed gone failure because) (failed gone_too failure_too because_too) = λ a b e. (cc e, cc e)

  splits_kind : (no_archives : Bool) (x y : Found) → IsKindSeen why (Some files) no_archives path gap x
      → IsKindSeen why_too (Some files) no_archives path gap y → Splits failures_of x y
  splits_kind no_archives _ _ (known read kind is) (known read_too kind_too is_too) =
      splits_none failures_of (Kind kind) (Kind kind_too) refl refl (ap (λ k. Kind k) (is ∙ sym is_too))
  splits_kind no_archives _ _ (known read kind is) (unknown gone failure because) = gap_apart read gone
  splits_kind no_archives _ _ (unknown gone failure because) (known read kind is) = gap_apart read gone
  splits_kind no_archives _ _ (unknown gone failure because) (unknown gone_too failure_too because_too) =
      λ a b e. (cc e, cc e)

splits_unasked : (x y : Found) → x ≡ Unasked → y ≡ Unasked → Splits failures_of x y
splits_unasked x y is is_too = splits_none failures_of x y (ap failures_of is) (ap failures_of is_too) (is ∙ sym is_too)

module _ (why why_too : Why) (files : Files) (b : Building) (home : Option (List ℕ)) (unread : Gaps) (c : Crate) where
  splits_found : (no_archives : Bool) (path : List ℕ) (step : Step) (x y : Found)
      → IsFoundBy (of_crate why c) (Some files) no_archives unread path step x
      → IsFoundBy (of_crate why_too c) (Some files) no_archives unread path step y → Splits failures_of x y
  splits_found no_archives path (ByPath span) x y is is_too = splits_unasked x y is is_too
  splits_found no_archives path ByGlob x y is is_too = splits_unasked x y is is_too
  splits_found no_archives path (BySum sum) x y is is_too =
      splits_sum (of_crate why c purpose.Sum path) (of_crate why_too c purpose.Sum path) files path
      (unread purpose.Sum path) x y is is_too
  splits_found no_archives path ByExtension x y is is_too = splits_unasked x y is is_too
  splits_found no_archives path ByHeader x y is is_too =
      splits_kind (of_crate why c purpose.Header path) (of_crate why_too c purpose.Header path) files path
      (unread purpose.Header path) no_archives x y is is_too

  abbrev file_fails : PackageFile → List Failure
  file_fails file = failures_of file.seen.found

  abbrev seen_fails : Seen → List Failure
  seen_fails seen = failures_of seen.found

  abbrev step_at : List ℕ → List (List ℕ) → Step
  step_at path globs = step_of b (used b c) path (is_decided_by (record {
    path = path;
    globs = globs;
    seen = record { shown = []; found = Unasked };
  }))

  step_is : (file : PackageFile) → step_of b (used b c) file.path (is_decided_by file) ≡ step_at file.path file.globs
  unfolding is_decided_by
  step_is file = refl

  splits_file : (path : List ℕ) (x y : PackageFile) → IsFileSeen why (Some files) b home unread c path x
      → IsFileSeen why_too (Some files) b home unread c path y → Splits file_fails x y
  splits_file path x y one two =
      let rest : x.path ≡ y.path = one.rest ∙ sym two.rest in
      let globs : x.globs ≡ y.globs = deciding_once b (used b c) y.path x.globs y.globs
      (subst (λ (p : List ℕ). AreDeciding b (used b c) p x.globs) rest one.globs) two.globs in
      let shown : x.seen.shown ≡ y.seen.shown = one.shown ∙ sym two.shown in
      let step : step_of b (used b c) x.path (is_decided_by x) ≡ step_of b (used b c) y.path (is_decided_by y) =
      step_is x ∙ (λ i. step_at (rest i) (globs i)) ∙ sym (step_is y) in
      let found = splits_found (not b.with_archives) path (step_of b (used b c) y.path (is_decided_by y)) x.seen.found
      y.seen.found
      (subst (λ (s : Step). IsFoundBy (of_crate why c) (Some files) (not b.with_archives) unread path s x.seen.found)
      step one.found) two.found in
      λ a d e.
      let split = found a d e in (
        (λ i. record {
          path = rest i;
          globs = globs i;
          seen = record { shown = shown i; found = split.0 i };
        }),
        split.1,
      )

  splits_folder : (path : List ℕ) (x y : Seen) → IsFolderUnseen why (Some files) home unread c path x
      → IsFolderUnseen why_too (Some files) home unread c path y → Splits seen_fails x y
  splits_folder path x y one two = λ a d e.
      let failures : one.failure ∷ a ≡ two.failure ∷ d =
      ap (λ (f : Found). failures_of f ++ a) (sym one.found) ∙ e ∙ ap (λ (f : Found). failures_of f ++ d) two.found in
      let failure : one.failure ≡ two.failure = cc failures in
      let shown : x.shown ≡ y.shown = one.shown ∙ sym two.shown in
      let found : x.found ≡ y.found = one.found ∙ ap (λ f. Failed f) failure ∙ sym two.found in (
        (λ i. record { shown = shown i; found = found i }),
        cc failures,
      )

  abbrev script_fails : Option Seen → List Failure
  script_fails script = option_map_or (λ (seen : Seen). failures_of seen.found) script []

  splits_script : (target : Option Target) (x y : Option Seen)
      → AreBoth (IsScriptSeen why (Some files) home unread c) target x
      → AreBoth (IsScriptSeen why_too (Some files) home unread c) target y → Splits script_fails x y
  splits_script None None None one two = λ a d e. (refl, e)
  splits_script None None (Some y) one two = absurd two
  splits_script None (Some x) y one two = absurd one
  splits_script (Some target) None y one two = absurd one
  splits_script (Some target) (Some x) None one two = absurd two
  splits_script (Some target) (Some x) (Some y) one two =
      let shown : x.shown ≡ y.shown = one.shown ∙ sym two.shown in
      let found = splits_sum (of_crate why c purpose.Script target.src_path)
      (of_crate why_too c purpose.Script target.src_path) files target.src_path
      (unread purpose.Script target.src_path) x.found y.found one.found two.found in
      λ a d e.
      let split = found a d e in
      ((λ i. Some (record { shown = shown i; found = split.0 i })), split.1)

  -- ---- a package that was walked

  module _ (p q : Package) (one : IsWalkSeen why (Some files) b home unread c p)
      (two : IsWalkSeen why_too (Some files) b home unread c q) where
    same_folders : one.folders ≡ two.folders
    same_folders = one_list nat_list_cmp_total one.folders two.folders one.missing two.missing

    same_paths : one.paths ≡ two.paths
    same_paths = one_list path_total one.paths two.paths
        (record {
          ascending = one.ordered;
          whole = λ path is. (one.all path).1 is;
          sound = λ path there. (one.all path).0 there;
        })
        (record {
          ascending = two.ordered;
          whole = λ path is. (two.all path).1 is;
          sound = λ path there. (two.all path).0 there;
        })

    unlisted_split : Splits (flat_map seen_fails) p.unlisted q.unlisted
    unlisted_split = splits_list seen_fails p.unlisted q.unlisted
        (zip_both (IsFolderUnseen why (Some files) home unread c) (IsFolderUnseen why_too (Some files) home unread c) (Splits seen_fails) one.folders
        p.unlisted q.unlisted (λ path x y there. splits_folder path x y) one.unlisted
        (subst (λ (fs : List (List ℕ)). AllZip (IsFolderUnseen why_too (Some files) home unread c) fs q.unlisted) (sym same_folders)
        two.unlisted))

    files_split : Splits (flat_map file_fails) p.files q.files
    files_split = splits_list file_fails p.files q.files
        (zip_both (IsFileSeen why (Some files) b home unread c) (IsFileSeen why_too (Some files) b home unread c)
        (Splits file_fails) one.paths p.files q.files (λ path x y there. splits_file path x y) one.files
        (subst (λ (ps : List (List ℕ)). AllZip (IsFileSeen why_too (Some files) b home unread c) ps q.files)
        (sym same_paths) two.files))

-- ---- a package

-- the failures of the folders and files of a package
abbrev rest_fails : Package → List Failure
rest_fails p = flat_map (λ (seen : Seen). failures_of seen.found) p.unlisted
    ++ flat_map (λ (file : PackageFile). failures_of file.seen.found) p.files

-- the folders and files are equal, and so are the failures after them
record HasSameRest (p q : Package) (a d : List Failure) : Type 0 where
  unlisted : p.unlisted ≡ q.unlisted
  files : p.files ≡ q.files
  behind : a ≡ d

module _ (why why_too : Why) (files : Files) (b : Building) (home : Option (List ℕ)) (unread : Gaps) (c : Crate)
    (g : Graph) (reached other : Crate → Bool) (same : reached c ≡ other c) where
  walked_rest : (p q : Package) → IsWalkSeen why (Some files) b home unread c p
      → IsWalkSeen why_too (Some files) b home unread c q → (a d : List Failure)
      → rest_fails p ++ a ≡ rest_fails q ++ d → HasSameRest p q a d
  walked_rest p q one two a d e =
      let mine : List Failure = flat_map (λ (file : PackageFile). failures_of file.seen.found) p.files in
      let yours : List Failure = flat_map (λ (file : PackageFile). failures_of file.seen.found) q.files in
      let folders = unlisted_split why why_too files b home unread c p q one two (mine ++ a) (yours ++ d)
      (sym (append_assoc (flat_map (λ (seen : Seen). failures_of seen.found) p.unlisted) mine a) ∙ e
      ∙ append_assoc (flat_map (λ (seen : Seen). failures_of seen.found) q.unlisted) yours d) in
      let rest = files_split why why_too files b home unread c p q one two a d folders.1 in
      record { unlisted = folders.0; files = rest.0; behind = rest.1 }

  none_rest : (p : Package) → IsNotWalked p → rest_fails p ≡ []
  none_rest p is = λ i. flat_map (λ (seen : Seen). failures_of seen.found) (is.unlisted i)
      ++ flat_map (λ (file : PackageFile). failures_of file.seen.found) (is.files i)

  rest_same : (p q : Package) (w : Bool) → is_walked b g reached p c ≡ w → is_walked b g other q c ≡ w
      → IsPackageSeenBy why (Some files) b reached home g unread c p
      → IsPackageSeenBy why_too (Some files) b other home g unread c q → (a d : List Failure)
      → rest_fails p ++ a ≡ rest_fails q ++ d → HasSameRest p q a d
  rest_same p q true walks walks_too one two a d e =
      walked_rest p q (one.walked walks) (two.walked walks_too) a d e
  rest_same p q false walks walks_too one two a d e =
      let mine = one.not_walked walks in
      let yours = two.not_walked walks_too in
      record {
        unlisted = mine.unlisted ∙ sym yours.unlisted;
        files = mine.files ∙ sym yours.files;
        behind = ap (λ f. f ++ a) (sym (none_rest p mine)) ∙ e ∙ ap (λ f. f ++ d) (none_rest q yours);
      }

  splits_package : (p q : Package) → IsPackageSeenBy why (Some files) b reached home g unread c p
      → IsPackageSeenBy why_too (Some files) b other home g unread c q → Splits package_failures p q
  unfolding package_failures
  splits_package p q one two = λ a d e.
      let mine : List Failure = option_map_or (λ (seen : Seen). failures_of seen.found) p.script [] in
      let yours : List Failure = option_map_or (λ (seen : Seen). failures_of seen.found) q.script [] in
      let script = splits_script why why_too files b home unread c (script_asked b g reached c) p.script q.script
      one.script
      (subst (λ (t : Option Target). AreBoth (IsScriptSeen why_too (Some files) home unread c) t q.script)
      (sym (asked_same b g c reached other same)) two.script)
      (rest_fails p ++ a) (rest_fails q ++ d)
      (sym (append_assoc mine (rest_fails p) a) ∙ e ∙ append_assoc yours (rest_fails q) d) in
      let rest = rest_same p q (is_walked b g other q c) (walks_same b g c reached other p q same script.0) refl
      one two a d script.1 in (
        (λ i. record { script = script.0 i; unlisted = rest.unlisted i; files = rest.files i }),
        rest.behind,
      )

-- ---- all packages

pub same_sight : (files : Files) (b : Building) (g : Graph) (reached reached_too : Crate → Bool)
    (home : Option (List ℕ)) (unread : List Unread) (packages others : List Package) → TestsReached g reached
    → TestsReached g reached_too
    → ArePackagesSeen (Some files) b reached home g unread packages
    → ArePackagesSeen (Some files) b reached_too home g unread others
    → failures_in packages ≡ failures_in others → packages ≡ others
same_sight files b g reached reached_too home unread packages others reports reports_too one two failures =
    (splits_list package_failures packages others
    (zip_both (λ c p. IsPackageSeenBy IsOfPurpose (Some files) b reached home g
    (is_unread unread (Some (kid_of c))) c p)
    (λ c p. IsPackageSeenBy IsOfPurpose (Some files) b reached_too home g (is_unread unread (Some (kid_of c))) c p)
    (Splits package_failures) g.crates packages others
    (λ c p q there. splits_package IsOfPurpose IsOfPurpose files b home (is_unread unread (Some (kid_of c))) c g reached
    reached_too (reached_alike g reached reached_too reports reports_too c there) p q) one two)
    [] [] (ap (λ f. f ++ []) failures)).0
