-- What is asked of packages, and which entry decides first, where bypasses, paths and globs are taken out that nothing
-- hits.
use Rattle.std.proofs.Common.{◌≡◌, ◌==◌, ◌&&◌, ◌||◌, ◌∙◌, ℕ, Bool, List, None, Option, Some, ap, false, length, not}
use Rattle.std.proofs.Common.{refl, true}
use Rattle.std.specs.Prelude.{Contains, filter, if◌then◌else◌, is_some, option_and_then, option_map}
use Rattle.std.specs.List.{list_any}
use Rattle.std.specs.Option.{option_map_or}
use Rattle.std.proofs.lemmas.Bool.{and_from, and_parts}
use Rattle.deny_base_lists.proofs.Members.{any_from, no_member}
use Rattle.deny_base_lists.proofs.Finding.{found_member}
use Rattle.deny_base.specs.declared.entry.EntryId.{EntryId}
use Rattle.deny_base.specs.declared.span.Spanned.{Spanned}
use Rattle.deny_spec.specs.Building.{AllowedPath, Building, Bypass}
use Rattle.deny_spec.specs.declared.package.Package.{Package}
use Rattle.deny_spec.specs.declared.package.PackageFile.{PackageFile}
use Rattle.deny_spec.specs.Graph.{Crate}
use Rattle.deny_spec.specs.Policy as policy
use Rattle.deny_spec.specs.Wrappers.{same_span}
use Rattle.deny_spec.proofs.SpanLemmas.{same_span-itself}
use Rattle.deny_spec_report.specs.BuildScripts.{asks_script, bypass_span, bypasses, has_sum, is_checked}
use Rattle.deny_spec_report.specs.BuildScripts.{is_script_denied}
use Rattle.deny_spec_report.specs.BuildScripts.{is_script_ok, is_script_right, is_walked, may_have_script}
use Rattle.deny_spec_report.specs.BuildScripts.{passes_by_script}
use Rattle.deny_spec_report.specs.BuildScripts.{required_enabled, required_of, required_unknown, script_found}
use Rattle.deny_spec_report.specs.BuildScripts.{script_of}
use Rattle.deny_spec_report.specs.BuildScripts.{used, uses, wanted_sum}
use Rattle.deny_spec_report.specs.Features.{has_feature, is_enabled}
use Rattle.deny_spec_report.specs.FirstMatch.{first_of}
use Rattle.deny_spec_report.specs.PackageFiles.{ByExtension, ByGlob, ByHeader, BySum, allows, fits_own, fits_script}
use Rattle.deny_spec_report.specs.PackageFiles.{globs_of}
use Rattle.deny_spec_report.specs.PackageFiles.{hits_glob, hits_path, is_decided_by, leaves_to_globs, path_of}
use Rattle.deny_spec_report.specs.PackageFiles.{path_of_used}
use Rattle.deny_spec_report.specs.PackageFiles.{path_span, step_allowed, step_by, step_of}
use Rattle.deny_spec_report.specs.Packages.{Scanning, checks, is_used, meets_file, package_of, walks}
use Rattle.deny_spec_report.proofs.Kept.{guarded, list_any_kept}
use Rattle.deny_spec_removal.specs.Asking.{AreAskedAlike}
use Rattle.deny_spec_removal.specs.BypassRemoval.{BypassesStay, is_met}
use Rattle.deny_spec_removal.specs.Removal.{cut_building, cut_bypass, stays_bypass, stays_glob, stays_path}
use Rattle.deny_spec_removal.proofs.FirstMatch.{first_anew, first_stays, is_first_stays}

-- ---- globs decide on a file where no path without a checksum does

step_alike : (o : Option AllowedPath) (b d e : Bool) → (leaves_to_globs o ≡ true → b ≡ d)
    → step_by o b e ≡ step_by o d e
step_alike None b d e same = ap (λ g. if g then ByGlob else (if e then ByExtension else ByHeader)) (same refl)
step_alike (Some a) b d e same = by a.checksum refl
  where
    by : (o : Option (Spanned (List ℕ))) → a.checksum ≡ o → step_allowed a b o ≡ step_allowed a d o
    by None at = refl
    by (Some sum) at = ap (λ g. if g then ByGlob else BySum sum)
        (same (ap (λ (s : Option (Spanned (List ℕ))). is_some s) at))

-- the first bypass that matches a checked crate is used
pub used_is_used : (b : Building) (c : Crate) (y : Bypass) → used b c ≡ Some y → uses b y c ≡ true
unfolding used uses
used_is_used b c y is =
    ap (λ (o : Option Bypass). option_map_or (λ first. same_span (bypass_span first) (bypass_span y)) o false) is
    ∙ same_span-itself (bypass_span y)

pub used_member : (b : Building) (c : Crate) (y : Bypass) → used b c ≡ Some y → Contains b.bypass y
unfolding used
used_member b c y is = found_member (λ x. bypasses x c) b.bypass y is

-- a crate that is walked is checked
pub walked_scanned : (l : Scanning) (c : Crate) → walks l c ≡ true → checks l c ≡ true
unfolding is_walked
walked_scanned l c walked = (and_parts (checks l c)
    (is_script_ok l.building c && not (passes_by_script l.building (package_of l c) c)) walked).0

module _ (l : Scanning) (taken : List EntryId) (stay : BypassesStay l taken) where
  -- the policy on builds without the entries that are taken out
  abbrev pub rest : Scanning
  rest = record l { building = cut_building taken l.building }

  -- ---- crates that are checked

  pub checks_same : (c : Crate) → checks rest c ≡ checks l c
  unfolding is_checked is_script_ok may_have_script
  checks_same c = refl

  bypass_stays : (c : Crate) (y : Bypass) → Contains l.graph.crates c → checks l c ≡ true
      → used l.building c ≡ Some y → stays_bypass taken y ≡ true
  unfolding is_used
  bypass_stays c y known scan is = stay.bypasses y (used_member l.building c y is)
      (any_from (λ k. checks l k && uses l.building y k) l.graph.crates c known
      (and_from (checks l c) (uses l.building y c) scan (used_is_used l.building c y is)))

  pub used_same : (c : Crate) → Contains l.graph.crates c → checks l c ≡ true
      → used rest.building c ≡ option_map (cut_bypass taken) (used l.building c)
  unfolding used
  used_same c known scan =
      first_anew bypasses (cut_bypass taken) (filter (stays_bypass taken) l.building.bypass) c (λ y is. refl)
      ∙ ap (option_map (cut_bypass taken))
      (first_stays bypasses (stays_bypass taken) l.building.bypass c (λ y is. bypass_stays c y known scan is))

  pub uses_same : (y : Bypass) (c : Crate) → Contains l.graph.crates c → checks l c ≡ true
      → uses rest.building (cut_bypass taken y) c ≡ uses l.building y c
  unfolding used uses
  uses_same y c known scan =
      ap (λ (o : Option Bypass). option_map_or (λ first. same_span (bypass_span first) (bypass_span y)) o false)
      (used_same c known scan) ∙ by (used l.building c)
    where
      by : (o : Option Bypass)
          → option_map_or (λ first. same_span (bypass_span first) (bypass_span y)) (option_map (cut_bypass taken) o)
          false ≡ option_map_or (λ first. same_span (bypass_span first) (bypass_span y)) o false
      by None = refl
      by (Some x) = refl

  pub uses_where_same : (y : Bypass) (c : Crate) → Contains l.graph.crates c
      → (checks rest c && uses rest.building (cut_bypass taken y) c) ≡ (checks l c && uses l.building y c)
  uses_where_same y c known =
      ap (λ b. b && uses rest.building (cut_bypass taken y) c) (checks_same c)
      ∙ guarded (checks l c) (uses rest.building (cut_bypass taken y) c) (uses l.building y c)
      (λ scan. uses_same y c known scan)

  -- ---- scripts

  pub sum_same : (c : Crate) → Contains l.graph.crates c → checks l c ≡ true
      → wanted_sum rest.building c ≡ wanted_sum l.building c
  unfolding wanted_sum
  sum_same c known scan =
      ap (λ (o : Option Bypass). if is_some (script_of c) then option_and_then (λ y. y.script) o else None)
      (used_same c known scan) ∙ by (used l.building c)
    where
      by : (o : Option Bypass)
          → (if is_some (script_of c) then option_and_then (λ y. y.script) (option_map (cut_bypass taken) o) else None)
          ≡ (if is_some (script_of c) then option_and_then (λ y. y.script) o else None)
      by None = refl
      by (Some y) = refl

  required_same : (c : Crate) → Contains l.graph.crates c → checks l c ≡ true
      → required_of (used rest.building c) ≡ required_of (used l.building c)
  required_same c known scan = ap (λ (o : Option Bypass). required_of o) (used_same c known scan)
      ∙ by (used l.building c)
    where
      by : (o : Option Bypass) → required_of (option_map (cut_bypass taken) o) ≡ required_of o
      by None = refl
      by (Some y) = refl

  pub enabled_same : (c : Crate) → Contains l.graph.crates c → checks l c ≡ true
      → required_enabled rest.building c ≡ required_enabled l.building c
  unfolding required_enabled
  enabled_same c known scan = ap (λ (ws : List policy.SpannedText). filter (λ w. is_enabled c w.value) ws)
      (required_same c known scan)

  pub unknown_same : (c : Crate) → Contains l.graph.crates c → checks l c ≡ true
      → required_unknown rest.building c ≡ required_unknown l.building c
  unfolding required_unknown
  unknown_same c known scan = ap (λ (ws : List policy.SpannedText). filter (λ w. not (has_feature c w.value)) ws)
      (required_same c known scan)

  pub right_same : (contents : Package) (c : Crate) → Contains l.graph.crates c → checks l c ≡ true
      → is_script_right rest.building contents c ≡ is_script_right l.building contents c
  unfolding is_script_right
  right_same contents c known scan =
      ap (λ (o : Option (Spanned (List ℕ))). option_map_or (λ sum. has_sum sum.value (script_found contents)) o false)
      (sum_same c known scan)

  passes_same : (contents : Package) (c : Crate) → Contains l.graph.crates c → checks l c ≡ true
      → passes_by_script rest.building contents c ≡ passes_by_script l.building contents c
  unfolding passes_by_script
  passes_same contents c known scan =
      ap (λ b. b && (length (required_enabled rest.building c) == 0)) (right_same contents c known scan)
      ∙ ap (λ (ws : List policy.SpannedText). is_script_right l.building contents c && (length ws == 0))
      (enabled_same c known scan)

  script_ok_same : (c : Crate) → is_script_ok rest.building c ≡ is_script_ok l.building c
  unfolding is_script_ok may_have_script
  script_ok_same c = refl

  asks_same : (c : Crate) → Contains l.graph.crates c
      → asks_script rest.building l.graph l.reached c ≡ asks_script l.building l.graph l.reached c
  unfolding asks_script
  asks_same c known =
      ap (λ b. b && (is_some (wanted_sum rest.building c) || not (is_script_ok rest.building c))) (checks_same c)
      ∙ guarded (checks l c) (is_some (wanted_sum rest.building c) || not (is_script_ok rest.building c))
      (is_some (wanted_sum l.building c) || not (is_script_ok l.building c))
      (λ scan. ap (λ b. is_some (wanted_sum rest.building c) || not b) (script_ok_same c)
      ∙ ap (λ (o : Option (Spanned (List ℕ))). is_some o || not (is_script_ok l.building c)) (sum_same c known scan))

  pub denied_same : (contents : Package) (c : Crate) → Contains l.graph.crates c
      → is_script_denied rest.building l.graph l.reached contents c
      ≡ is_script_denied l.building l.graph l.reached contents c
  unfolding is_script_denied
  denied_same contents c known =
      ap (λ b. b && (not (is_script_ok rest.building c) && not (passes_by_script rest.building contents c)))
      (checks_same c)
      ∙ guarded (checks l c) (not (is_script_ok rest.building c) && not (passes_by_script rest.building contents c))
      (not (is_script_ok l.building c) && not (passes_by_script l.building contents c))
      (λ scan. ap (λ b. not b && not (passes_by_script rest.building contents c)) (script_ok_same c)
      ∙ ap (λ b. not (is_script_ok l.building c) && not b) (passes_same contents c known scan))

  pub walked_same : (contents : Package) (c : Crate) → Contains l.graph.crates c
      → is_walked rest.building l.graph l.reached contents c ≡ is_walked l.building l.graph l.reached contents c
  unfolding is_walked
  walked_same contents c known =
      ap (λ b. b && (is_script_ok rest.building c && not (passes_by_script rest.building contents c))) (checks_same c)
      ∙ guarded (checks l c) (is_script_ok rest.building c && not (passes_by_script rest.building contents c))
      (is_script_ok l.building c && not (passes_by_script l.building contents c))
      (λ scan. ap (λ b. b && not (passes_by_script rest.building contents c)) (script_ok_same c)
      ∙ ap (λ b. is_script_ok l.building c && not b) (passes_same contents c known scan))

  -- ---- files of crates that are walked

  -- a file of a walked crate that passes a test is met
  met : (y : Bypass) (test : PackageFile → Bool) (c : Crate) (file : PackageFile) → Contains l.graph.crates c
      → walks l c ≡ true → uses l.building y c ≡ true → Contains (package_of l c).files file → test file ≡ true
      → is_met l y test ≡ true
  unfolding meets_file
  met y test c file known walked does_match is passes = any_from (meets_file l y test) l.graph.crates c known
      (and_from (walks l c && uses l.building y c) (list_any test (package_of l c).files)
      (and_from (walks l c) (uses l.building y c) walked does_match)
      (any_from test (package_of l c).files file is passes))

  module _ (y : Bypass) (written : Contains l.building.bypass y) (c : Crate) (known : Contains l.graph.crates c)
      (walked : walks l c ≡ true) (does_match : uses l.building y c ≡ true) where
    path_stays : (file : PackageFile) (a : AllowedPath) → Contains (package_of l c).files file
        → first_of allows y.allow file.path ≡ Some a → stays_path taken a ≡ true
    unfolding hits_path
    path_stays file a is first = stay.paths y written a (found_member (λ x. allows x file.path) y.allow a first)
        (met y (hits_path y a) c file known walked does_match is
        (ap (λ (o : Option AllowedPath). option_map_or (λ x. same_span (path_span x) (path_span a)) o false) first
        ∙ same_span-itself (path_span a)))

    path_same : (file : PackageFile) → Contains (package_of l c).files file
        → path_of (cut_bypass taken y) file.path ≡ path_of y file.path
    unfolding path_of
    path_same file is = first_stays allows (stays_path taken) y.allow file.path
        (λ a first. path_stays file a is first)

    glob_stays : (file : PackageFile) (w : policy.SpannedText) → Contains (package_of l c).files file
        → Contains y.globs w → leaves_to_globs (path_of y file.path) ≡ true → is_decided_by file w.value ≡ true
        → stays_glob taken w ≡ true
    unfolding hits_glob
    glob_stays file w is within leaves decided = stay.globs y written w within
        (met y (hits_glob y w) c file known walked does_match is
        (and_from (leaves_to_globs (path_of y file.path)) (is_decided_by file w.value) leaves decided))

    pub hits_path_same : (a : AllowedPath) (file : PackageFile) → Contains (package_of l c).files file
        → hits_path (cut_bypass taken y) a file ≡ hits_path y a file
    unfolding hits_path
    hits_path_same a file is = is_first_stays path_span allows (stays_path taken) y.allow a file.path
        (λ x first. path_stays file x is first)

    pub hits_glob_same : (w : policy.SpannedText) (file : PackageFile) → Contains (package_of l c).files file
        → hits_glob (cut_bypass taken y) w file ≡ hits_glob y w file
    unfolding hits_glob
    hits_glob_same w file is = ap (λ (o : Option AllowedPath). leaves_to_globs o && is_decided_by file w.value)
        (path_same file is)

    step_same : (file : PackageFile) → Contains (package_of l c).files file
        → step_of rest.building (Some (cut_bypass taken y)) file.path (is_decided_by file)
        ≡ step_of l.building (Some y) file.path (is_decided_by file)
    unfolding step_of
    step_same file is =
        let fits = is_decided_by file in
        ap (λ (o : Option AllowedPath).
        step_by o (fits_own fits (Some (cut_bypass taken y))) (fits_script fits l.building)) (path_same file is)
        ∙ step_alike (path_of y file.path) (fits_own fits (Some (cut_bypass taken y))) (fits_own fits (Some y))
        (fits_script fits l.building)
        (λ leaves. list_any_kept (stays_glob taken) (λ w. fits w.value) y.globs
        (λ w within decided. glob_stays file w is within leaves decided))

  -- ---- by the bypass that a crate uses

  paths_same : (c : Crate) → Contains l.graph.crates c → walks l c ≡ true
      → (file : PackageFile) → Contains (package_of l c).files file
      → path_of_used (used rest.building c) file.path ≡ path_of_used (used l.building c) file.path
  paths_same c known walked file is =
      ap (λ (o : Option Bypass). path_of_used o file.path) (used_same c known (walked_scanned l c walked))
      ∙ by (used l.building c) refl
    where
      by : (o : Option Bypass) → used l.building c ≡ o
          → path_of_used (option_map (cut_bypass taken) o) file.path ≡ path_of_used o file.path
      by None at = refl
      by (Some y) at = path_same y (used_member l.building c y at) c known walked (used_is_used l.building c y at) file
          is

  globs_stay : (c : Crate) → Contains l.graph.crates c → walks l c ≡ true
      → (file : PackageFile) → Contains (package_of l c).files file
      → leaves_to_globs (path_of_used (used l.building c) file.path) ≡ true
      → (w : policy.SpannedText) → Contains (globs_of (used l.building c)) w → is_decided_by file w.value ≡ true
      → stays_glob taken w ≡ true
  globs_stay c known walked file is leaves w within decided = by (used l.building c) refl leaves within
    where
      by : (o : Option Bypass) → used l.building c ≡ o → leaves_to_globs (path_of_used o file.path) ≡ true
          → Contains (globs_of o) w → stays_glob taken w ≡ true
      by None at free written = absurd (no_member w written)
      by (Some y) at free written = glob_stays y (used_member l.building c y at) c known walked
          (used_is_used l.building c y at) file w is written free decided

  none_used : (file : PackageFile) → step_of rest.building None file.path (is_decided_by file)
      ≡ step_of l.building None file.path (is_decided_by file)
  unfolding step_of
  none_used file = refl

  pub steps_same : (c : Crate) → Contains l.graph.crates c → walks l c ≡ true
      → (file : PackageFile) → Contains (package_of l c).files file
      → step_of rest.building (used rest.building c) file.path (is_decided_by file)
      ≡ step_of l.building (used l.building c) file.path (is_decided_by file)
  steps_same c known walked file is =
      ap (λ (o : Option Bypass). step_of rest.building o file.path (is_decided_by file))
      (used_same c known (walked_scanned l c walked))
      ∙ by (used l.building c) refl
    where
      by : (o : Option Bypass) → used l.building c ≡ o
          → step_of rest.building (option_map (cut_bypass taken) o) file.path (is_decided_by file)
          ≡ step_of l.building o file.path (is_decided_by file)
      by None at = none_used file
      by (Some y) at = step_same y (used_member l.building c y at) c known walked (used_is_used l.building c y at) file
          is

  pub asked_alike : AreAskedAlike l rest.building taken
  asked_alike = record {
    checked = checks_same;
    bypass = used_same;
    sums = sum_same;
    scripts = asks_same;
    walked = λ c known contents. walked_same contents c known;
    paths = paths_same;
    globs = globs_stay;
    steps = steps_same;
  }
