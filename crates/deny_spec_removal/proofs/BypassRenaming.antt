-- The keys of build scripts and packaged files, and the hits of bypasses, where spans of the policy are replaced.
use Rattle.std.proofs.Common.{◌≡◌, ◌==◌, ◌&&◌, ◌||◌, ◌∙◌, ◌++◌, ◌∷◌, ℕ, Bool, List, None, Option, Some, [], ap, false}
use Rattle.std.proofs.Common.{length, map, not, refl, sym, true}
use Rattle.std.specs.Prelude.{Contains, filter, filter_map, find, if◌then◌else◌, is_none, is_some, option_and_then}
use Rattle.std.specs.Prelude.{option_map}
use Rattle.std.specs.List.{flat_map, list_any}
use Rattle.std.specs.Option.{option_map_or}
use Rattle.std.proofs.lemmas.List.{length-map, map-append}
use Rattle.deny_base_lists.proofs.Agreement.{find_on, list_any_on}
use Rattle.deny_base_lists.proofs.Filters.{filter-map}
use Rattle.deny_base_lists.proofs.Finding.{found_member}
use Rattle.deny_base_lists.proofs.Options.{is_some-option_map}
use Rattle.deny_base.specs.declared.code.Code.TheVariants as code
use Rattle.deny_base.specs.declared.entry.EntryKind.{EntryKind}
use Rattle.deny_base.specs.declared.entry.EntryKind.TheVariants as kind
use Rattle.deny_base.specs.declared.entry.Hit.{Hit}
use Rattle.deny_base.specs.declared.entry.Witness.TheVariants.{File, Krate}
use Rattle.deny_base.specs.declared.key.Key.{Key}
use Rattle.deny_base.specs.declared.span.Span.{Span}
use Rattle.deny_base.specs.declared.span.Spanned.{Spanned}
use Rattle.deny_spec.specs.Building.{AllowedPath, Building, Bypass}
use Rattle.deny_spec.specs.declared.package.ExecutableKind.TheVariants.{Interpreted, Native}
use Rattle.deny_spec.specs.declared.package.Found.{Found}
use Rattle.deny_spec.specs.declared.package.Found.TheVariants.{Failed, Kind, Sum, Unasked}
use Rattle.deny_spec.specs.declared.package.Package.{Package}
use Rattle.deny_spec.specs.declared.package.PackageFile.{PackageFile}
use Rattle.deny_spec.specs.Graph.{Crate, kid_of}
use Rattle.deny_spec.specs.Hits.{hit_of}
use Rattle.deny_spec.specs.Keys.{crate_key, key_of, no_span, unused_key}
use Rattle.deny_spec.specs.Match.{matches}
use Rattle.deny_spec.specs.Policy as policy
use Rattle.deny_spec.specs.Policy.{Spec}
use Rattle.deny_spec_report.specs.BuildScripts.{bypass_span, bypasses, has_sum, is_checked, is_script_denied}
use Rattle.deny_spec_report.specs.BuildScripts.{is_script_ok}
use Rattle.deny_spec_report.specs.BuildScripts.{is_script_right, is_walked, may_have_script, passes_by_script}
use Rattle.deny_spec_report.specs.BuildScripts.{required_enabled, required_of, required_unknown, script_found}
use Rattle.deny_spec_report.specs.BuildScripts.{script_of}
use Rattle.deny_spec_report.specs.BuildScripts.{used, uses, wanted_sum}
use Rattle.deny_spec_report.specs.Circumstances.{Circumstances}
use Rattle.deny_spec_report.specs.Facts.{Facts, AreFacts}
use Rattle.deny_spec_report.specs.Features.{has_feature, is_enabled}
use Rattle.deny_spec_report.specs.PackageFiles.{ByExtension, ByGlob, ByHeader, ByPath, BySum, ChecksumMatch}
use Rattle.deny_spec_report.specs.PackageFiles.{ChecksumMismatch}
use Rattle.deny_spec_report.specs.PackageFiles.{Class, DeniedByExtension, DetectedExecutable, DetectedExecutableScript}
use Rattle.deny_spec_report.specs.PackageFiles.{Harmless, PathBypassed, PathBypassedByGlob, Step, UnableToCheckPath}
use Rattle.deny_spec_report.specs.PackageFiles.{allows}
use Rattle.deny_spec_report.specs.PackageFiles.{class_by, class_by_header, class_of, fits_own, fits_script, hits_glob}
use Rattle.deny_spec_report.specs.PackageFiles.{hits_path, is_decided_by, leaves_to_globs, path_of, path_of_used}
use Rattle.deny_spec_report.specs.PackageFiles.{path_span}
use Rattle.deny_spec_report.specs.PackageFiles.{step_allowed, step_by, step_of}
use Rattle.deny_spec_report.specs.Packages.{Scanning, build_keys, build_keys_in, bypass_hit, bypass_hits}
use Rattle.deny_spec_report.specs.Packages.{bypass_hits_in}
use Rattle.deny_spec_report.specs.Packages.{bypass_hits_of, checks, class_keys, denied_script_keys, deprecated_key}
use Rattle.deny_spec_report.specs.Packages.{deprecated_keys, deprecated_keys_in, features_enabled_keys, file_hit}
use Rattle.deny_spec_report.specs.Packages.{file_hit_at}
use Rattle.deny_spec_report.specs.Packages.{file_keys, folder_key, glob_hit, if_hit, is_used, scanning, meets_file}
use Rattle.deny_spec_report.specs.Packages.{package_keys, package_of, path_hit, path_key, right_script_keys}
use Rattle.deny_spec_report.specs.Packages.{script_keys}
use Rattle.deny_spec_report.specs.Packages.{script_shown, sum_keys, unmatched_bypass_keys, unmatched_glob_keys}
use Rattle.deny_spec_report.specs.Packages.{unmatched_keys, unmatched_path_keys, walked_keys, walks}
use Rattle.deny_spec_report.proofs.BuildAlike.{hits_of_builds_alike, keys_of_builds_alike}
use Rattle.deny_spec_removal.specs.Renaming.{KeepsBypassesApart, Renaming, renamed_building, renamed_bypass}
use Rattle.deny_spec_removal.specs.Renaming.{renamed_hit}
use Rattle.deny_spec_removal.specs.Renaming.{renamed_in, renamed_key, renamed_path, renamed_script_glob, renamed_spec}
use Rattle.deny_spec_removal.specs.Renaming.{renamed_sum, renamed_text}
use Rattle.deny_spec_removal.proofs.Anew.{any_anew, crate_hit_anew, filter_map_anew, flat_map_alike, flat_map_anew}
use Rattle.deny_spec_removal.proofs.Anew.{made_alike}
use Rattle.deny_spec_removal.proofs.Anew.{made_anew, spanned, reported_anew, when_anew}
use Rattle.deny_spec_removal.proofs.FirstMatch.{first_anew, is_first_renamed}

-- ---- the rule that decides on a file, with new spans

abbrev renamed_step : Renaming → Step → Step
renamed_step r (ByPath span) = ByPath (r.span span)
renamed_step r ByGlob = ByGlob
renamed_step r (BySum sum) = BySum (renamed_sum r sum)
renamed_step r ByExtension = ByExtension
renamed_step r ByHeader = ByHeader

abbrev renamed_class : Renaming → Class → Class
renamed_class r (PathBypassed span) = PathBypassed (r.span span)
renamed_class r PathBypassedByGlob = PathBypassedByGlob
renamed_class r (ChecksumMatch span) = ChecksumMatch (r.span span)
renamed_class r (ChecksumMismatch span) = ChecksumMismatch (r.span span)
renamed_class r DeniedByExtension = DeniedByExtension
renamed_class r UnableToCheckPath = UnableToCheckPath
renamed_class r DetectedExecutable = DetectedExecutable
renamed_class r DetectedExecutableScript = DetectedExecutableScript
renamed_class r Harmless = Harmless

step_by_anew : (r : Renaming) (o : Option AllowedPath) (by_glob by_extension : Bool)
    → step_by (option_map (renamed_path r) o) by_glob by_extension ≡ renamed_step r (step_by o by_glob by_extension)
step_by_anew r None true by_extension = refl
step_by_anew r None false true = refl
step_by_anew r None false false = refl
step_by_anew r (Some a) by_glob by_extension = by a.checksum by_glob
  where
    by : (o : Option (Spanned (List ℕ))) (b : Bool)
        → step_allowed (renamed_path r a) b (option_map (renamed_sum r) o) ≡ renamed_step r (step_allowed a b o)
    by None b = refl
    by (Some sum) true = refl
    by (Some sum) false = refl

by_header_anew : (r : Renaming) (found : Found) → class_by_header found ≡ renamed_class r (class_by_header found)
by_header_anew r Unasked = refl
by_header_anew r (Sum sum) = refl
by_header_anew r (Kind None) = refl
by_header_anew r (Kind (Some (Native kind))) = refl
by_header_anew r (Kind (Some (Interpreted name))) = refl
by_header_anew r (Failed failure) = refl

class_by_anew : (r : Renaming) (step : Step) (found : Found)
    → class_by (renamed_step r step) found ≡ renamed_class r (class_by step found)
class_by_anew r (ByPath span) found = refl
class_by_anew r ByGlob found = refl
class_by_anew r (BySum sum) found = by (has_sum sum.value found)
  where
    by : (b : Bool) → (if b then ChecksumMatch (r.span sum.span) else ChecksumMismatch (r.span sum.span))
        ≡ renamed_class r (if b then ChecksumMatch sum.span else ChecksumMismatch sum.span)
    by true = refl
    by false = refl
class_by_anew r ByExtension found = refl
class_by_anew r ByHeader found = by_header_anew r found

class_keys_anew : (r : Renaming) (place : ℕ) (shown : List ℕ) (class : Class)
    → class_keys place shown (renamed_class r class) ≡ map (renamed_key r) (class_keys place shown class)
unfolding path_key key_of
class_keys_anew r place shown (PathBypassed span) = refl
class_keys_anew r place shown PathBypassedByGlob = refl
class_keys_anew r place shown (ChecksumMatch span) = refl
class_keys_anew r place shown (ChecksumMismatch span) = refl
class_keys_anew r place shown DeniedByExtension = refl
class_keys_anew r place shown UnableToCheckPath = refl
class_keys_anew r place shown DetectedExecutable = refl
class_keys_anew r place shown DetectedExecutableScript = refl
class_keys_anew r place shown Harmless = refl

-- ---- one bypass

module _ (r : Renaming) (y : Bypass) where
  path_of_anew : (path : List ℕ) → path_of (renamed_bypass r y) path ≡ option_map (renamed_path r) (path_of y path)
  unfolding path_of
  path_of_anew path = first_anew allows (renamed_path r) y.allow path (λ a is. refl)

  leaves_same : (o : Option AllowedPath) → leaves_to_globs (option_map (renamed_path r) o) ≡ leaves_to_globs o
  leaves_same None = refl
  leaves_same (Some a) = is_some-option_map (renamed_sum r) a.checksum

  pub hits_glob_same : (w : policy.SpannedText) (file : PackageFile)
      → hits_glob (renamed_bypass r y) (renamed_text r w) file ≡ hits_glob y w file
  unfolding hits_glob
  hits_glob_same w file =
      ap (λ (o : Option AllowedPath). leaves_to_globs o && is_decided_by file w.value) (path_of_anew file.path)
      ∙ ap (λ b. b && is_decided_by file w.value) (leaves_same (path_of y file.path))

  unmatched_globs_anew : (contents : Package) (place : ℕ) → unmatched_glob_keys contents place (renamed_bypass r y)
      ≡ map (renamed_key r) (unmatched_glob_keys contents place y)
  unfolding unmatched_glob_keys key_of
  unmatched_globs_anew contents place =
      reported_anew (λ w. not (list_any (hits_glob (renamed_bypass r y) w) contents.files))
      (λ w. not (list_any (hits_glob y w) contents.files)) (renamed_text r)
      (λ w. crate_key code.UnmatchedGlob place w.span) (λ w. crate_key code.UnmatchedGlob place w.span) (renamed_key r)
      y.globs
      (λ w within. ap (λ b. not b) (list_any_on (hits_glob (renamed_bypass r y) (renamed_text r w)) (hits_glob y w)
      contents.files (λ file is. hits_glob_same w file))) (λ w. refl)

-- different spans of paths of a bypass stay different
abbrev PathsApart : Renaming → Bypass → Type 0
PathsApart r y = (a d : AllowedPath) → Contains y.allow a → Contains y.allow d
    → r.span (path_span a) ≡ r.span (path_span d) → path_span a ≡ path_span d

module _ (r : Renaming) (y : Bypass) (apart : PathsApart r y) where
  pub hits_path_same : (a : AllowedPath) (file : PackageFile) → Contains y.allow a
      → hits_path (renamed_bypass r y) (renamed_path r a) file ≡ hits_path y a file
  unfolding hits_path
  hits_path_same a file within = is_first_renamed path_span allows (renamed_path r) y.allow a file.path
      (λ x is. refl) (λ x is same. apart x a is within same) (λ x same. ap r.span same)

  unmatched_paths_anew : (contents : Package) (place : ℕ) → unmatched_path_keys contents place (renamed_bypass r y)
      ≡ map (renamed_key r) (unmatched_path_keys contents place y)
  unfolding unmatched_path_keys key_of
  unmatched_paths_anew contents place =
      reported_anew (λ a. not (list_any (hits_path (renamed_bypass r y) a) contents.files))
      (λ a. not (list_any (hits_path y a) contents.files)) (renamed_path r)
      (λ a. crate_key code.UnmatchedPathBypass place (path_span a))
      (λ a. crate_key code.UnmatchedPathBypass place (path_span a)) (renamed_key r) y.allow
      (λ a within. ap (λ b. not b) (list_any_on (hits_path (renamed_bypass r y) (renamed_path r a)) (hits_path y a)
      contents.files (λ file is. hits_path_same a file within))) (λ a. refl)

-- ---- crates

module _ (r : Renaming) (l : Scanning) where
  abbrev new : Scanning
  new = record l { building = renamed_building r l.building }

  may_have_same : (c : Crate) → may_have_script new.building c ≡ may_have_script l.building c
  unfolding may_have_script matches
  may_have_same c = by l.building.scripts
    where
      by : (o : Option (List Spec))
          → option_map_or (λ specs. list_any (λ spec. matches spec c) specs) (option_map (map (renamed_spec r)) o) true
          ≡ option_map_or (λ specs. list_any (λ spec. matches spec c) specs) o true
      by None = refl
      by (Some specs) = any_anew (λ spec. matches spec c) (λ spec. matches spec c) (renamed_spec r) specs
          (λ spec is. refl)

  ok_same : (c : Crate) → is_script_ok new.building c ≡ is_script_ok l.building c
  unfolding is_script_ok
  ok_same c = ap (λ b. is_none (script_of c) || b) (may_have_same c)

  pub checks_same : (c : Crate) → checks new c ≡ checks l c
  unfolding is_checked
  checks_same c = rw (ok_same c) refl

  used_anew : (c : Crate) → used new.building c ≡ option_map (renamed_bypass r) (used l.building c)
  unfolding used matches
  used_anew c = first_anew bypasses (renamed_bypass r) l.building.bypass c (λ y is. refl)

  -- ---- scripts

  sum_anew : (c : Crate) → wanted_sum new.building c ≡ option_map (renamed_sum r) (wanted_sum l.building c)
  unfolding wanted_sum
  sum_anew c =
      ap (λ (o : Option Bypass). if is_some (script_of c) then option_and_then (λ y. y.script) o else None)
      (used_anew c) ∙ by (is_some (script_of c)) (used l.building c)
    where
      by : (b : Bool) (o : Option Bypass)
          → (if b then option_and_then (λ y. y.script) (option_map (renamed_bypass r) o) else None)
          ≡ option_map (renamed_sum r) (if b then option_and_then (λ y. y.script) o else None)
      by false o = refl
      by true None = refl
      by true (Some y) = refl

  required_anew : (c : Crate)
      → required_of (used new.building c) ≡ map (renamed_text r) (required_of (used l.building c))
  required_anew c = ap (λ (o : Option Bypass). required_of o) (used_anew c) ∙ by (used l.building c)
    where
      by : (o : Option Bypass)
          → required_of (option_map (renamed_bypass r) o) ≡ map (renamed_text r) (required_of o)
      by None = refl
      by (Some y) = refl

  enabled_anew : (c : Crate)
      → required_enabled new.building c ≡ map (renamed_text r) (required_enabled l.building c)
  unfolding required_enabled
  enabled_anew c =
      ap (λ (ws : List policy.SpannedText). filter (λ w. is_enabled c w.value) ws) (required_anew c)
      ∙ filter-map (λ w. is_enabled c w.value) (renamed_text r) (required_of (used l.building c))

  unknown_anew : (c : Crate)
      → required_unknown new.building c ≡ map (renamed_text r) (required_unknown l.building c)
  unfolding required_unknown
  unknown_anew c =
      ap (λ (ws : List policy.SpannedText). filter (λ w. not (has_feature c w.value)) ws) (required_anew c)
      ∙ filter-map (λ w. not (has_feature c w.value)) (renamed_text r) (required_of (used l.building c))

  right_same : (contents : Package) (c : Crate)
      → is_script_right new.building contents c ≡ is_script_right l.building contents c
  unfolding is_script_right
  right_same contents c =
      ap (λ (o : Option (Spanned (List ℕ))). option_map_or (λ sum. has_sum sum.value (script_found contents)) o false)
      (sum_anew c) ∙ by (wanted_sum l.building c)
    where
      by : (o : Option (Spanned (List ℕ)))
          → option_map_or (λ sum. has_sum sum.value (script_found contents)) (option_map (renamed_sum r) o) false
          ≡ option_map_or (λ sum. has_sum sum.value (script_found contents)) o false
      by None = refl
      by (Some sum) = refl

  passes_same : (contents : Package) (c : Crate)
      → passes_by_script new.building contents c ≡ passes_by_script l.building contents c
  unfolding passes_by_script
  passes_same contents c =
      ap (λ b. b && (length (required_enabled new.building c) == 0)) (right_same contents c)
      ∙ (ap (λ (ws : List policy.SpannedText). is_script_right l.building contents c && (length ws == 0))
      (enabled_anew c)
      ∙ ap (λ (n : ℕ). is_script_right l.building contents c && (n == 0))
      (length-map (required_enabled l.building c) (renamed_text r)))

  denied_same : (contents : Package) (c : Crate)
      → is_script_denied new.building l.graph l.reached contents c
      ≡ is_script_denied l.building l.graph l.reached contents c
  unfolding is_script_denied
  denied_same contents c =
      ap (λ b. b && (not (is_script_ok new.building c) && not (passes_by_script new.building contents c)))
      (checks_same c)
      ∙ (ap (λ b. checks l c && (not b && not (passes_by_script new.building contents c))) (ok_same c)
      ∙ ap (λ b. checks l c && (not (is_script_ok l.building c) && not b)) (passes_same contents c))

  pub walked_same : (contents : Package) (c : Crate)
      → is_walked new.building l.graph l.reached contents c ≡ is_walked l.building l.graph l.reached contents c
  unfolding is_walked
  walked_same contents c =
      ap (λ b. b && (is_script_ok new.building c && not (passes_by_script new.building contents c)))
      (checks_same c)
      ∙ (ap (λ b. checks l c && (b && not (passes_by_script new.building contents c))) (ok_same c)
      ∙ ap (λ b. checks l c && (is_script_ok l.building c && not b)) (passes_same contents c))

  -- ---- keys of scripts

  right_keys_anew : (c : Crate) (span : Span)
      → right_script_keys new c (r.span span) ≡ map (renamed_key r) (right_script_keys l c span)
  unfolding right_script_keys path_key key_of
  right_keys_anew c span =
      let first = path_key code.ChecksumMatch c.place (r.span span) (script_shown (package_of l c)) in
      ap (λ (ws : List policy.SpannedText). first ∷ map (λ w. crate_key code.UnknownFeature c.place w.span) ws)
      (unknown_anew c)
      ∙ ap (λ (ks : List Key). first ∷ ks)
      (made_anew (renamed_text r) (λ w. crate_key code.UnknownFeature c.place w.span)
      (λ w. crate_key code.UnknownFeature c.place w.span) (renamed_key r) (required_unknown l.building c) (λ w. refl))

  enabled_keys_anew : (c : Crate)
      → features_enabled_keys c.place (used new.building c) (required_enabled new.building c)
      ≡ map (renamed_key r) (features_enabled_keys c.place (used l.building c) (required_enabled l.building c))
  unfolding key_of
  enabled_keys_anew c =
      ap (λ (o : Option Bypass). features_enabled_keys c.place o (required_enabled new.building c)) (used_anew c)
      ∙ (ap (λ (ws : List policy.SpannedText).
      features_enabled_keys c.place (option_map (renamed_bypass r) (used l.building c)) ws) (enabled_anew c)
      ∙ by (used l.building c) (required_enabled l.building c))
    where
      by : (o : Option Bypass) (ws : List policy.SpannedText)
          → features_enabled_keys c.place (option_map (renamed_bypass r) o) (map (renamed_text r) ws)
          ≡ map (renamed_key r) (features_enabled_keys c.place o ws)
      by None ws = refl
      by (Some y) [] = refl
      by (Some y) (w ∷ ws) = refl

  sum_keys_anew : (c : Crate) (sum : Spanned (List ℕ))
      → sum_keys new c (renamed_sum r sum) ≡ map (renamed_key r) (sum_keys l c sum)
  unfolding sum_keys path_key key_of
  sum_keys_anew c sum =
      let enabled_then = features_enabled_keys c.place (used new.building c) (required_enabled new.building c) in
      ap (λ b. if b then right_script_keys new c (r.span sum.span) ++ enabled_then
      else path_key code.ChecksumMismatch c.place (r.span sum.span) (script_shown (package_of l c)) ∷ [])
      (right_same (package_of l c) c)
      ∙ by (is_script_right l.building (package_of l c) c)
    where
      by : (b : Bool)
          → (if b then right_script_keys new c (r.span sum.span)
          ++ features_enabled_keys c.place (used new.building c) (required_enabled new.building c)
          else path_key code.ChecksumMismatch c.place (r.span sum.span) (script_shown (package_of l c)) ∷ [])
          ≡ map (renamed_key r) (if b then right_script_keys l c sum.span
          ++ features_enabled_keys c.place (used l.building c) (required_enabled l.building c)
          else path_key code.ChecksumMismatch c.place sum.span (script_shown (package_of l c)) ∷ [])
      by true =
          let right = right_script_keys l c sum.span in
          let enabled = features_enabled_keys c.place (used l.building c) (required_enabled l.building c) in
          ap (λ (ks : List Key).
          ks ++ features_enabled_keys c.place (used new.building c) (required_enabled new.building c))
          (right_keys_anew c sum.span)
          ∙ (ap (λ (ks : List Key). map (renamed_key r) right ++ ks) (enabled_keys_anew c)
          ∙ sym (map-append (renamed_key r) right enabled))
      by false = refl

  script_keys_anew : (c : Crate) → script_keys new c ≡ map (renamed_key r) (script_keys l c)
  unfolding script_keys
  script_keys_anew c =
      ap (λ b. if b then option_map_or (sum_keys new c) (wanted_sum new.building c) [] else []) (checks_same c)
      ∙ when_anew (renamed_key r) (checks l c) (option_map_or (sum_keys new c) (wanted_sum new.building c) [])
      (option_map_or (sum_keys l c) (wanted_sum l.building c) [])
      (ap (λ (o : Option (Spanned (List ℕ))). option_map_or (sum_keys new c) o []) (sum_anew c)
      ∙ by (wanted_sum l.building c))
    where
      by : (o : Option (Spanned (List ℕ))) → option_map_or (sum_keys new c) (option_map (renamed_sum r) o) []
          ≡ map (renamed_key r) (option_map_or (sum_keys l c) o [])
      by None = refl
      by (Some sum) = sum_keys_anew c sum

  denied_keys_anew : (c : Crate) → denied_script_keys new c ≡ map (renamed_key r) (denied_script_keys l c)
  unfolding denied_script_keys key_of
  denied_keys_anew c =
      ap (λ b. if b then crate_key code.BuildScriptNotAllowed c.place no_span ∷ [] else [])
      (denied_same (package_of l c) c)
      ∙ when_anew (renamed_key r) (is_script_denied l.building l.graph l.reached (package_of l c) c)
      (crate_key code.BuildScriptNotAllowed c.place no_span ∷ [])
      (crate_key code.BuildScriptNotAllowed c.place no_span ∷ []) refl

  -- ---- files

  path_of_used_anew : (o : Option Bypass) (path : List ℕ)
      → path_of_used (option_map (renamed_bypass r) o) path ≡ option_map (renamed_path r) (path_of_used o path)
  path_of_used_anew None path = refl
  path_of_used_anew (Some y) path = path_of_anew r y path

  fits_own_same : (fits : List ℕ → Bool) (o : Option Bypass)
      → fits_own fits (option_map (renamed_bypass r) o) ≡ fits_own fits o
  fits_own_same fits None = refl
  fits_own_same fits (Some y) = any_anew (λ w. fits w.value) (λ w. fits w.value) (renamed_text r) y.globs
      (λ w is. refl)

  fits_script_same : (fits : List ℕ → Bool) → fits_script fits new.building ≡ fits_script fits l.building
  fits_script_same fits = any_anew (λ e. fits e.text) (λ e. fits e.text) (renamed_script_glob r) l.building.extensions
      (λ e is. refl)

  step_anew : (o : Option Bypass) (path : List ℕ) (fits : List ℕ → Bool)
      → step_of new.building (option_map (renamed_bypass r) o) path fits
      ≡ renamed_step r (step_of l.building o path fits)
  unfolding step_of
  step_anew o path fits =
      let found = option_map (renamed_path r) (path_of_used o path) in
      ap (λ (p : Option AllowedPath).
      step_by p (fits_own fits (option_map (renamed_bypass r) o)) (fits_script fits new.building))
      (path_of_used_anew o path)
      ∙ (ap (λ b. step_by found b (fits_script fits new.building)) (fits_own_same fits o)
      ∙ (ap (λ b. step_by found (fits_own fits o) b) (fits_script_same fits)
      ∙ step_by_anew r (path_of_used o path) (fits_own fits o) (fits_script fits l.building)))

  class_anew : (c : Crate) (file : PackageFile)
      → class_of new.building (used new.building c) file
      ≡ renamed_class r (class_of l.building (used l.building c) file)
  unfolding class_of
  class_anew c file =
      ap (λ (o : Option Bypass). class_by (step_of new.building o file.path (is_decided_by file)) file.seen.found)
      (used_anew c)
      ∙ (ap (λ (step : Step). class_by step file.seen.found)
      (step_anew (used l.building c) file.path (is_decided_by file))
      ∙ class_by_anew r (step_of l.building (used l.building c) file.path (is_decided_by file)) file.seen.found)

  file_keys_anew : (c : Crate) (file : PackageFile)
      → file_keys new c file ≡ map (renamed_key r) (file_keys l c file)
  unfolding file_keys
  file_keys_anew c file = ap (class_keys c.place file.seen.shown) (class_anew c file)
      ∙ class_keys_anew r c.place file.seen.shown (class_of l.building (used l.building c) file)

  folder_keys_anew : (c : Crate) → map (folder_key c.place) (package_of l c).unlisted
      ≡ map (renamed_key r) (map (folder_key c.place) (package_of l c).unlisted)
  unfolding path_key key_of
  folder_keys_anew c = made_alike (folder_key c.place) (folder_key c.place) (renamed_key r) (package_of l c).unlisted
      (λ seen. refl)

-- ---- where different spans stay different

module _ (r : Renaming) (l : Scanning)
    (bypasses_apart : (y z : Bypass) → Contains l.building.bypass y → Contains l.building.bypass z
    → r.span (bypass_span y) ≡ r.span (bypass_span z) → bypass_span y ≡ bypass_span z)
    (paths_apart : (y : Bypass) → Contains l.building.bypass y → PathsApart r y) where
  abbrev anew : Scanning
  anew = new r l

  pub uses_same : (y : Bypass) → Contains l.building.bypass y → (c : Crate)
      → uses anew.building (renamed_bypass r y) c ≡ uses l.building y c
  unfolding uses matches
  uses_same y written c = is_first_renamed bypass_span bypasses (renamed_bypass r) l.building.bypass y c
      (λ x is. refl) (λ x is alike. bypasses_apart x y is written alike) (λ x alike. ap r.span alike)

  -- ---- keys

  unmatched_of_anew : (c : Crate) (y : Bypass) → Contains l.building.bypass y
      → unmatched_keys anew c (renamed_bypass r y) ≡ map (renamed_key r) (unmatched_keys l c y)
  unfolding unmatched_keys
  unmatched_of_anew c y written =
      let contents = package_of l c in
      ap (λ (ks : List Key). ks ++ unmatched_glob_keys contents c.place (renamed_bypass r y))
      (unmatched_paths_anew r y (paths_apart y written) contents c.place)
      ∙ (ap (λ (ks : List Key). map (renamed_key r) (unmatched_path_keys contents c.place y) ++ ks)
      (unmatched_globs_anew r y contents c.place)
      ∙ sym (map-append (renamed_key r) (unmatched_path_keys contents c.place y)
      (unmatched_glob_keys contents c.place y)))

  used_member : (c : Crate) (y : Bypass) → used l.building c ≡ Some y → Contains l.building.bypass y
  unfolding used
  used_member c y is = found_member (λ x. bypasses x c) l.building.bypass y is

  unmatched_anew : (c : Crate) → option_map_or (unmatched_keys anew c) (used anew.building c) []
      ≡ map (renamed_key r) (option_map_or (unmatched_keys l c) (used l.building c) [])
  unmatched_anew c =
      ap (λ (o : Option Bypass). option_map_or (unmatched_keys anew c) o []) (used_anew r l c)
      ∙ by (used l.building c) refl
    where
      by : (o : Option Bypass) → used l.building c ≡ o
          → option_map_or (unmatched_keys anew c) (option_map (renamed_bypass r) o) []
          ≡ map (renamed_key r) (option_map_or (unmatched_keys l c) o [])
      by None at = refl
      by (Some y) at = unmatched_of_anew c y (used_member c y at)

  walked_keys_anew : (c : Crate) → walked_keys anew c ≡ map (renamed_key r) (walked_keys l c)
  unfolding walked_keys
  walked_keys_anew c =
      let folders = map (folder_key c.place) (package_of l c).unlisted in
      let files = flat_map (file_keys l c) (package_of l c).files in
      let files_then = flat_map (file_keys anew c) (package_of l c).files in
      let unmatched = option_map_or (unmatched_keys l c) (used l.building c) [] in
      let unmatched_then = option_map_or (unmatched_keys anew c) (used anew.building c) [] in
      ap (λ (ks : List Key). ks ++ (files_then ++ unmatched_then)) (folder_keys_anew r l c)
      ∙ (ap (λ (ks : List Key). map (renamed_key r) folders ++ (ks ++ unmatched_then))
      (flat_map_alike (file_keys anew c) (file_keys l c) (renamed_key r) (package_of l c).files
      (λ file is. file_keys_anew r l c file))
      ∙ (ap (λ (ks : List Key). map (renamed_key r) folders ++ (map (renamed_key r) files ++ ks)) (unmatched_anew c)
      ∙ (ap (λ (ks : List Key). map (renamed_key r) folders ++ ks) (sym (map-append (renamed_key r) files unmatched))
      ∙ sym (map-append (renamed_key r) folders (files ++ unmatched)))))

  package_keys_anew : (c : Crate) → package_keys anew c ≡ map (renamed_key r) (package_keys l c)
  unfolding package_keys
  package_keys_anew c =
      let script = script_keys l c in
      let denied = denied_script_keys l c in
      let denied_then = denied_script_keys anew c in
      let walked = if walks l c then walked_keys l c else [] in
      let walked_then = if walks anew c then walked_keys anew c else [] in
      ap (λ (ks : List Key). ks ++ (denied_then ++ walked_then)) (script_keys_anew r l c)
      ∙ (ap (λ (ks : List Key). map (renamed_key r) script ++ (ks ++ walked_then))
      (denied_keys_anew r l c)
      ∙ (ap (λ (ks : List Key). map (renamed_key r) script ++ (map (renamed_key r) denied ++ ks))
      (ap (λ b. if b then walked_keys anew c else []) (walked_same r l (package_of l c) c)
      ∙ when_anew (renamed_key r) (walks l c) (walked_keys anew c) (walked_keys l c) (walked_keys_anew c))
      ∙ (ap (λ (ks : List Key). map (renamed_key r) script ++ ks) (sym (map-append (renamed_key r) denied walked))
      ∙ sym (map-append (renamed_key r) script (denied ++ walked)))))

  used_where_same : (y : Bypass) → Contains l.building.bypass y → (c : Crate)
      → (checks anew c && uses anew.building (renamed_bypass r y) c) ≡ (checks l c && uses l.building y c)
  used_where_same y written c =
      ap (λ b. b && uses anew.building (renamed_bypass r y) c) (checks_same r l c)
      ∙ ap (λ b. checks l c && b) (uses_same y written c)

  is_used_same : (y : Bypass) → Contains l.building.bypass y → is_used anew (renamed_bypass r y) ≡ is_used l y
  unfolding is_used
  is_used_same y written = list_any_on (λ c. checks anew c && uses anew.building (renamed_bypass r y) c)
      (λ c. checks l c && uses l.building y c) l.graph.crates (λ c known. used_where_same y written c)

  unmatched_bypasses_anew : unmatched_bypass_keys anew ≡ map (renamed_key r) (unmatched_bypass_keys l)
  unfolding unmatched_bypass_keys key_of
  unmatched_bypasses_anew = reported_anew (λ y. not (is_used anew y)) (λ y. not (is_used l y)) (renamed_bypass r)
      (λ y. unused_key code.UnmatchedBypass (bypass_span y)) (λ y. unused_key code.UnmatchedBypass (bypass_span y))
      (renamed_key r) l.building.bypass (λ y written. ap (λ b. not b) (is_used_same y written)) (λ y. refl)

  build_keys_anew : build_keys anew ≡ map (renamed_key r) (build_keys l)
  build_keys_anew =
      let packages = flat_map (package_keys l) l.graph.crates in
      ap (λ (ks : List Key). ks ++ unmatched_bypass_keys anew)
      (flat_map_alike (package_keys anew) (package_keys l) (renamed_key r) l.graph.crates
      (λ c known. package_keys_anew c))
      ∙ (ap (λ (ks : List Key). map (renamed_key r) packages ++ ks) unmatched_bypasses_anew
      ∙ sym (map-append (renamed_key r) packages (unmatched_bypass_keys l)))

  -- ---- hits

  bypass_hit_anew : (y : Bypass) → Contains l.building.bypass y
      → bypass_hit anew (renamed_bypass r y) ≡ option_map (renamed_hit r) (bypass_hit l y)
  unfolding bypass_hit
  bypass_hit_anew y written =
      ap (option_map (λ (c : Crate). hit_of kind.Bypass (r.span (bypass_span y)) (Krate (kid_of c))))
      (find_on (λ c. checks anew c && uses anew.building (renamed_bypass r y) c)
      (λ c. checks l c && uses l.building y c) l.graph.crates (λ c known. used_where_same y written c))
      ∙ crate_hit_anew r kind.Bypass (bypass_span y) (find (λ c. checks l c && uses l.building y c) l.graph.crates)

  meets_same : (y : Bypass) → Contains l.building.bypass y → (test old : PackageFile → Bool)
      → ((file : PackageFile) → test file ≡ old file) → (c : Crate)
      → meets_file anew (renamed_bypass r y) test c ≡ meets_file l y old c
  unfolding meets_file
  meets_same y written test old agree c =
      ap (λ b. (b && uses anew.building (renamed_bypass r y) c) && list_any test (package_of l c).files)
      (walked_same r l (package_of l c) c)
      ∙ (ap (λ b. (walks l c && b) && list_any test (package_of l c).files) (uses_same y written c)
      ∙ ap (λ b. (walks l c && uses l.building y c) && b)
      (list_any_on test old (package_of l c).files (λ file is. agree file)))

  file_hit_anew : (y : Bypass) → Contains l.building.bypass y → (test old : PackageFile → Bool)
      → ((file : PackageFile) → test file ≡ old file) → (kind : EntryKind) (span : Span)
      → file_hit anew (renamed_bypass r y) test (λ path c. hit_of kind (r.span span) (File (kid_of c) path))
      ≡ option_map (renamed_hit r) (file_hit l y old (λ path c. hit_of kind span (File (kid_of c) path)))
  unfolding file_hit file_hit_at
  file_hit_anew y written test old agree kind span =
      ap (option_and_then
      (file_hit_at anew test (λ path c. hit_of kind (r.span span) (File (kid_of c) path))))
      (find_on (meets_file anew (renamed_bypass r y) test) (meets_file l y old) l.graph.crates
      (λ c known. meets_same y written test old agree c))
      ∙ by (find (meets_file l y old) l.graph.crates)
    where
      by_file : (c : Crate) (o : Option PackageFile)
          → option_map (λ file. hit_of kind (r.span span) (File (kid_of c) file.path)) o
          ≡ option_map (renamed_hit r) (option_map (λ file. hit_of kind span (File (kid_of c) file.path)) o)
      by_file c None = refl
      by_file c (Some file) = refl

      by : (o : Option Crate)
          → option_and_then (file_hit_at anew test (λ path c. hit_of kind (r.span span) (File (kid_of c) path))) o
          ≡ option_map (renamed_hit r)
          (option_and_then (file_hit_at l old (λ path c. hit_of kind span (File (kid_of c) path))) o)
      by None = refl
      by (Some c) =
          ap (option_map (λ (file : PackageFile). hit_of kind (r.span span) (File (kid_of c) file.path)))
          (find_on test old (package_of l c).files (λ file is. agree file))
          ∙ by_file c (find old (package_of l c).files)

  path_hit_anew : (y : Bypass) → Contains l.building.bypass y → (a : AllowedPath) → Contains y.allow a
      → path_hit anew (renamed_bypass r y) (renamed_path r a) ≡ option_map (renamed_hit r) (path_hit l y a)
  unfolding path_hit
  path_hit_anew y written a within = file_hit_anew y written (hits_path (renamed_bypass r y) (renamed_path r a))
      (hits_path y a) (λ file. hits_path_same r y (paths_apart y written) a file within) kind.BypassPath (path_span a)

  glob_hit_anew : (y : Bypass) → Contains l.building.bypass y → (w : policy.SpannedText)
      → glob_hit anew (renamed_bypass r y) (renamed_text r w) ≡ option_map (renamed_hit r) (glob_hit l y w)
  unfolding glob_hit
  glob_hit_anew y written w = file_hit_anew y written (hits_glob (renamed_bypass r y) (renamed_text r w))
      (hits_glob y w) (λ file. hits_glob_same r y w file) kind.BypassGlob w.span

  if_hit_anew : (o : Option Hit) → if_hit (option_map (renamed_hit r) o) ≡ map (renamed_hit r) (if_hit o)
  if_hit_anew None = refl
  if_hit_anew (Some h) = refl

  hits_of_anew : (y : Bypass) → Contains l.building.bypass y
      → bypass_hits_of anew (renamed_bypass r y) ≡ map (renamed_hit r) (bypass_hits_of l y)
  unfolding bypass_hits_of
  hits_of_anew y written =
      let of_it = if_hit (bypass_hit l y) in
      let of_paths = filter_map (path_hit l y) y.allow in
      let of_globs = filter_map (glob_hit l y) y.globs in
      let of_paths_then = filter_map (path_hit anew (renamed_bypass r y)) (map (renamed_path r) y.allow) in
      let of_globs_then = filter_map (glob_hit anew (renamed_bypass r y)) (map (renamed_text r) y.globs) in
      ap (λ (o : Option Hit). if_hit o ++ (of_paths_then ++ of_globs_then)) (bypass_hit_anew y written)
      ∙ (ap (λ (hits : List Hit). hits ++ (of_paths_then ++ of_globs_then)) (if_hit_anew (bypass_hit l y))
      ∙ (ap (λ (hits : List Hit). map (renamed_hit r) of_it ++ (hits ++ of_globs_then))
      (filter_map_anew (path_hit anew (renamed_bypass r y)) (path_hit l y) (renamed_path r) (renamed_hit r) y.allow
      (λ a within. path_hit_anew y written a within))
      ∙ (ap (λ (hits : List Hit). map (renamed_hit r) of_it ++ (map (renamed_hit r) of_paths ++ hits))
      (filter_map_anew (glob_hit anew (renamed_bypass r y)) (glob_hit l y) (renamed_text r) (renamed_hit r) y.globs
      (λ w within. glob_hit_anew y written w))
      ∙ (ap (λ (hits : List Hit). map (renamed_hit r) of_it ++ hits)
      (sym (map-append (renamed_hit r) of_paths of_globs))
      ∙ sym (map-append (renamed_hit r) of_it (of_paths ++ of_globs))))))

  hits_anew : bypass_hits anew ≡ map (renamed_hit r) (bypass_hits l)
  hits_anew = flat_map_anew (bypass_hits_of anew) (bypass_hits_of l) (renamed_bypass r) (renamed_hit r)
      l.building.bypass hits_of_anew

-- ---- keys and hits of a policy that may say nothing of builds

module _ (r : Renaming) (c : Circumstances) (these those : Facts) (are : AreFacts c these)
    (are_new : AreFacts (renamed_in r c) those) (apart : KeepsBypassesApart r c.building) where
  pub build_in_anew : build_keys_in (renamed_in r c) those ≡ map (renamed_key r) (build_keys_in c these)
  build_in_anew = keys_of_builds_alike (renamed_in r c) those these are_new.reached are.reached ∙ by c.building apart
    where
      by : (o : Option Building) → KeepsBypassesApart r o
          → option_map_or (λ b. build_keys (scanning (renamed_in r c) these b)) (option_map (renamed_building r) o) []
          ≡ map (renamed_key r) (option_map_or (λ b. build_keys (scanning c these b)) o [])
      by None keeps = refl
      by (Some b) keeps = build_keys_anew r (scanning c these b) (keeps.bypasses b refl) (keeps.paths b refl)

  pub bypass_hits_anew : bypass_hits_in (renamed_in r c) those ≡ map (renamed_hit r) (bypass_hits_in c these)
  bypass_hits_anew = hits_of_builds_alike (renamed_in r c) those these are_new.reached are.reached
      ∙ by c.building apart
    where
      by : (o : Option Building) → KeepsBypassesApart r o
          → option_map_or (λ b. bypass_hits (scanning (renamed_in r c) these b)) (option_map (renamed_building r) o) []
          ≡ map (renamed_hit r) (option_map_or (λ b. bypass_hits (scanning c these b)) o [])
      by None keeps = refl
      by (Some b) keeps = hits_anew r (scanning c these b) (keeps.bypasses b refl) (keeps.paths b refl)

pub deprecated_anew : (r : Renaming) (c : Circumstances)
    → deprecated_keys_in (renamed_in r c) ≡ map (spanned r) (deprecated_keys_in c)
unfolding deprecated_keys deprecated_key
deprecated_anew r c = by c.building
  where
    by_key : (o : Option Span) → option_map_or (λ span. deprecated_key span ∷ []) (option_map r.span o) []
        ≡ map (spanned r) (option_map_or (λ span. deprecated_key span ∷ []) o [])
    by_key None = refl
    by_key (Some span) = refl

    by : (o : Option Building) → option_map_or deprecated_keys (option_map (renamed_building r) o) []
        ≡ map (spanned r) (option_map_or deprecated_keys o [])
    by None = refl
    by (Some b) = by_key b.older_key
