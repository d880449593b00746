-- The keys of a crate, by what the code finds.
use Rattle.std.proofs.Common.{◌≡◌, ◌∙◌, ◌++◌, ◌∷◌, [], ℕ, suc, append_assoc, Bool, true, false, Bor, List, Option, Some}
use Rattle.std.proofs.Common.{None, filter, is_some, length, map, not, refl, sym, ap, arith}
use Rattle.std.specs.Prelude.{nat_lt}
use Rattle.std.specs.BTreeMap.{BTreeMap}
use Rattle.std.specs.FinMap as finite
use Rattle.std.specs.List.{flat_map, list_any}
use Rattle.std.specs.Option.{option_map_or}
use Rattle.std.proofs.lemmas.Bool.{lt-ltb}
use Rattle.std.proofs.lemmas.List.Folds.{flat_map-map}
use Rattle.std.proofs.lemmas.Simd.{map-map}
use Rattle.deny_base.specs.declared.code.Code.TheVariants as code
use Rattle.deny_base.specs.declared.span.Kid.{Kid}
use Rattle.deny_base.specs.declared.span.Span.{Span}
use Rattle.deny_spec.specs.Building.{AllowedPath, Bypass, ScriptGlob}
use Rattle.deny_spec.specs.declared.package.Package.{Package}
use Rattle.deny_spec.specs.declared.package.PackageFile.{PackageFile}
use Rattle.deny_spec.specs.declared.package.Seen.{Seen}
use Rattle.deny_spec_report.specs.BuildScripts.{bypass_span, required_unknown, used}
use Rattle.deny_spec_report.specs.PackageFiles.{Class, ChecksumMatch, ChecksumMismatch, DeniedByExtension}
use Rattle.deny_spec_report.specs.PackageFiles.{DetectedExecutable}
use Rattle.deny_spec_report.specs.PackageFiles.{DetectedExecutableScript, Harmless, PathBypassed, PathBypassedByGlob}
use Rattle.deny_spec_report.specs.PackageFiles.{UnableToCheckPath, class_by, class_of, globs_of, hits_glob, hits_path}
use Rattle.deny_spec_report.specs.PackageFiles.{is_decided_by, path_of_used, path_span, step_by, step_of}
use Rattle.deny_spec_report.specs.Packages.{Scanning, class_keys}
use Rattle.deny_spec_report.specs.Packages.{features_enabled_keys}
use Rattle.deny_spec_report.specs.Packages.{file_keys, folder_key, package_of, path_key, right_script_keys}
use Rattle.deny_spec_report.specs.Packages.{script_shown}
use Rattle.deny_spec_report.specs.Packages.{unmatched_glob_keys, unmatched_keys, unmatched_path_keys, walked_keys}
use Rattle.deny_base_lists.proofs.Agreement.{filter_on, flat_map_on, list_any_on}
use Rattle.deny_base_lists.proofs.Filters.{find-any}
use Rattle.deny_base_lists.specs.TextMap.{TextFinMap}
use Rattle.deny_spec.specs.Graph.{Crate}
use Rattle.deny_spec.specs.Keys.{crate_key}
use Rattle.deny_spec.specs.Policy.{SpannedText}
use Rattle.deny_build.specs.private.Files.{matched_keys, finding_by, finding_keys}
use Rattle.deny_build.specs.private.Globs.{IsSetOf, decides, own_texts, script_texts}
use Rattle.deny_build.specs.private.FileMatch.{IsFirstAt, MatchedFile, all_matched, matches_glob, matches_path}
use Rattle.deny_build.specs.private.FileMatch.{matched_by, number_at}
use Rattle.deny_build.specs.private.Unmatched.{is_path_matched, missed_glob_keys, missed_keys, missed_path_keys}
use Rattle.deny_build.proofs.MatchLemmas.{matches_glob_as, matches_path_as, none_found}
use Rattle.deny_build.proofs.SetLemmas.{any-map, decides_by}

-- ---- build scripts

pub right_are : (l : Scanning) (c : Crate) (span : Span) (shown : List ℕ) (contents : Package)
    (features : List (Bor SpannedText))
    → shown ≡ script_shown contents → contents ≡ package_of l c
    → map (λ (w : Bor SpannedText). w.now) features ≡ required_unknown l.building c
    → path_key code.ChecksumMatch c.place span shown ∷ map
    (λ (w : Bor SpannedText). crate_key code.UnknownFeature c.place w.now.span) features
    ≡ right_script_keys l c span
unfolding right_script_keys
right_are l c span shown contents features is same are =
    ap (λ s. path_key code.ChecksumMatch c.place span s
    ∷ map (λ (w : Bor SpannedText). crate_key code.UnknownFeature c.place w.now.span) features) (is
    ∙ ap script_shown same)
    ∙ ap (λ keys. path_key code.ChecksumMatch c.place span (script_shown (package_of l c)) ∷ keys)
    (sym (map-map (λ (w : SpannedText). crate_key code.UnknownFeature c.place w.span)
    (λ (w : Bor SpannedText). w.now) features)
    ∙ ap (map (λ (w : SpannedText). crate_key code.UnknownFeature c.place w.span)) are)

pub none_enabled : (place : ℕ) (first : Option Bypass) (y : Bypass) (enabled : List SpannedText) → first ≡ Some y
    → nat_lt 0 (length enabled) ≡ false → [] ≡ features_enabled_keys place first enabled
none_enabled place first y enabled is none =
    by_features enabled none ∙ ap (λ o. features_enabled_keys place o enabled) (sym is)
  where
    by_features : (ws : List SpannedText) → nat_lt 0 (length ws) ≡ false → [] ≡ features_enabled_keys place (Some y) ws
    by_features [] none = refl
    by_features (w ∷ ws) none = absurd (differ (sym (lt-ltb 0 (suc (length ws)) (omega arith)) ∙ none))
      where
        differ : true ≡ false → ⊥
        differ e = (cc)

pub some_enabled : (place : ℕ) (first : Option Bypass) (y : Bypass) (enabled : List SpannedText) → first ≡ Some y
    → nat_lt 0 (length enabled) ≡ true
    → crate_key code.FeaturesEnabled place (bypass_span y) ∷ [] ≡ features_enabled_keys place first enabled
some_enabled place first y enabled is some =
    by_features enabled some ∙ ap (λ o. features_enabled_keys place o enabled) (sym is)
  where
    by_features : (ws : List SpannedText) → nat_lt 0 (length ws) ≡ true
        → crate_key code.FeaturesEnabled place (bypass_span y) ∷ [] ≡ features_enabled_keys place (Some y) ws
    by_features [] some = absurd (differ some)
      where
        differ : nat_lt 0 0 ≡ true → ⊥
        differ e = (cc)
    by_features (w ∷ ws) some = refl

-- ---- files

finding_as : (place : ℕ) (shown : List ℕ) (class : Class)
    → finding_keys place shown (finding_by class) ≡ class_keys place shown class
finding_as place shown (PathBypassed span) = refl
finding_as place shown PathBypassedByGlob = refl
finding_as place shown (ChecksumMatch span) = refl
finding_as place shown (ChecksumMismatch span) = refl
finding_as place shown DeniedByExtension = refl
finding_as place shown UnableToCheckPath = refl
finding_as place shown DetectedExecutable = refl
finding_as place shown DetectedExecutableScript = refl
finding_as place shown Harmless = refl

module _ (l : Scanning) (c : Crate) (first : Option Bypass) (is : first ≡ used l.building c)
    (own scripts : TextFinMap Bool)
    (owned : IsSetOf (own_texts first) own) (scripted : IsSetOf (script_texts l.building) scripts) where
  matched_as : (kid : Kid) (file : PackageFile) → matched_keys own scripts c.place (matched_by first kid file)
      ≡ file_keys l c file
  unfolding matched_keys matched_by file_keys class_of step_of
  matched_as kid file =
      ap (λ b. finding_keys c.place file.seen.shown (finding_by (class_by
      (step_by (path_of_used first file.path) b (decides scripts file)) file.seen.found)))
      (decides_by (λ (w : SpannedText). w.value) (globs_of first) own file owned)
      ∙ (ap (λ b. finding_keys c.place file.seen.shown (finding_by (class_by (step_by (path_of_used first file.path)
      (list_any (λ (w : SpannedText). is_decided_by file w.value) (globs_of first)) b) file.seen.found)))
      (decides_by (λ (e : ScriptGlob). e.text) l.building.extensions scripts file scripted)
      ∙ (finding_as c.place file.seen.shown (class_of l.building first file)
      ∙ ap (λ o. class_keys c.place file.seen.shown (class_of l.building o file)) is))

  files_as : (kid : Kid) (files : List PackageFile)
      → flat_map (matched_keys own scripts c.place) (all_matched first kid files) ≡ flat_map (file_keys l c) files
  files_as kid files = flat_map-map (matched_keys own scripts c.place) (matched_by first kid) files
      ∙ flat_map_on (λ file. matched_keys own scripts c.place (matched_by first kid file)) (file_keys l c) files
      (λ file _. matched_as kid file)

-- ---- what matches no file

missed_paths_as : (contents : Package) (place : ℕ) (y : Bypass) (kid : Kid)
    → missed_path_keys place (all_matched (Some y) kid contents.files) y.allow ≡ unmatched_path_keys contents place y
unfolding missed_path_keys unmatched_path_keys
missed_paths_as contents place y kid =
    ap (map (λ (a : AllowedPath). crate_key code.UnmatchedPathBypass place (path_span a)))
    (filter_on (λ a. not (list_any (matches_path (path_span a)) (all_matched (Some y) kid contents.files)))
    (λ a. not (list_any (hits_path y a) contents.files)) y.allow
    (λ a _. ap not (any-map (matches_path (path_span a)) (matched_by (Some y) kid) contents.files
    ∙ list_any_on (λ file. matches_path (path_span a) (matched_by (Some y) kid file)) (hits_path y a) contents.files
    (λ file _. matches_path_as y kid a file))))

missed_globs_as : (contents : Package) (place : ℕ) (y : Bypass) (kid : Kid)
    → missed_glob_keys place (all_matched (Some y) kid contents.files) y.globs ≡ unmatched_glob_keys contents place y
unfolding missed_glob_keys unmatched_glob_keys
missed_globs_as contents place y kid = ap (map (λ (w : SpannedText). crate_key code.UnmatchedGlob place w.span))
    (filter_on (λ w. not (list_any (matches_glob w.value) (all_matched (Some y) kid contents.files)))
    (λ w. not (list_any (hits_glob y w) contents.files)) y.globs
    (λ w _. ap not (any-map (matches_glob w.value) (matched_by (Some y) kid) contents.files
    ∙ list_any_on (λ file. matches_glob w.value (matched_by (Some y) kid file)) (hits_glob y w) contents.files
    (λ file _. matches_glob_as y kid w file))))

-- the globs without an index in the map are those that match no file
pub missed_globs_by : (place : ℕ) (all : List MatchedFile) (firsts : TextFinMap ℕ) (globs : List SpannedText)
    → ((text : List ℕ) → IsFirstAt (matches_glob text) all (finite.get firsts text))
    → map (λ (w : SpannedText). crate_key code.UnmatchedGlob place w.span)
    (filter (λ w. not (is_some (finite.get firsts w.value))) globs)
    ≡ missed_glob_keys place all globs
unfolding missed_glob_keys
missed_globs_by place all firsts globs first = ap (map (λ (w : SpannedText). crate_key code.UnmatchedGlob place w.span))
    (filter_on (λ w. not (is_some (finite.get firsts w.value))) (λ w. not (list_any (matches_glob w.value) all)) globs
    (λ w _. ap not (none_found (matches_glob w.value) all (finite.get firsts w.value) (first w.value)
    ∙ sym (find-any (matches_glob w.value) all))))

-- the paths without an index in the map are those that match no file
pub missed_paths_by : (place : ℕ) (all : List MatchedFile) (firsts : BTreeMap Span ℕ) (paths : List AllowedPath)
    → ((span : Span) → IsFirstAt (matches_path span) all (number_at firsts span))
    → map (λ (a : AllowedPath). crate_key code.UnmatchedPathBypass place (path_span a))
    (filter (λ a. not (is_path_matched firsts a)) paths) ≡ missed_path_keys place all paths
unfolding missed_path_keys is_path_matched
missed_paths_by place all firsts paths first =
    ap (map (λ (a : AllowedPath). crate_key code.UnmatchedPathBypass place (path_span a)))
    (filter_on (λ a. not (is_some (number_at firsts (path_span a))))
    (λ a. not (list_any (matches_path (path_span a)) all)) paths
    (λ a _. ap not (none_found (matches_path (path_span a)) all (number_at firsts (path_span a)) (first (path_span a))
    ∙ sym (find-any (matches_path (path_span a)) all))))

missed_as : (contents : Package) (place : ℕ) (kid : Kid) (first : Option Bypass)
    → option_map_or (missed_keys place (all_matched first kid contents.files)) first []
    ≡ option_map_or (λ y. unmatched_path_keys contents place y ++ unmatched_glob_keys contents place y) first []
missed_as contents place kid None = refl
missed_as contents place kid (Some y) =
    ap (λ keys. keys ++ missed_glob_keys place (all_matched (Some y) kid contents.files) y.globs)
    (missed_paths_as contents place y kid)
    ∙ ap (λ keys. unmatched_path_keys contents place y ++ keys) (missed_globs_as contents place y kid)

-- ---- a walked crate

walked_by : (l : Scanning) (c : Crate) (first : Option Bypass) (own scripts : TextFinMap Bool) (kid : Kid)
    → first ≡ used l.building c → IsSetOf (own_texts first) own → IsSetOf (script_texts l.building) scripts
    → map (folder_key c.place) (package_of l c).unlisted
    ++ (flat_map (matched_keys own scripts c.place) (all_matched first kid (package_of l c).files)
    ++ option_map_or (missed_keys c.place (all_matched first kid (package_of l c).files)) first []) ≡ walked_keys l c
unfolding walked_keys unmatched_keys
walked_by l c first own scripts kid is owned scripted =
    ap (λ keys. map (folder_key c.place) (package_of l c).unlisted
    ++ (keys ++ option_map_or (missed_keys c.place (all_matched first kid (package_of l c).files)) first []))
    (files_as l c first is own scripts owned scripted kid (package_of l c).files)
    ∙ ap (λ keys. map (folder_key c.place) (package_of l c).unlisted
    ++ (flat_map (file_keys l c) (package_of l c).files ++ keys))
    (missed_as (package_of l c) c.place kid first
    ∙ ap (λ o. option_map_or
    (λ y. unmatched_path_keys (package_of l c) c.place y ++ unmatched_glob_keys (package_of l c) c.place y) o [])
    is)

pub walked_are : (l : Scanning) (c : Crate) (first : Option Bypass) (own scripts : TextFinMap Bool) (kid : Kid)
    (contents : Package)
    (unlisted : List Seen) (files : List MatchedFile) → first ≡ used l.building c → IsSetOf (own_texts first) own
    → IsSetOf (script_texts l.building) scripts → contents ≡ package_of l c → unlisted ≡ contents.unlisted
    → files ≡ all_matched first kid contents.files
    → map (folder_key c.place) unlisted ++ (flat_map (matched_keys own scripts c.place) files
    ++ option_map_or (missed_keys c.place files) first []) ≡ walked_keys l c
walked_are l c first own scripts kid contents unlisted files is owned scripted same folders matched =
    ap (λ (us : List Seen). map (folder_key c.place) us ++ (flat_map (matched_keys own scripts c.place) files
    ++ option_map_or (missed_keys c.place files) first [])) (folders ∙ ap (λ (p : Package). p.unlisted) same)
    ∙ (ap (λ (ms : List MatchedFile). map (folder_key c.place) (package_of l c).unlisted
    ++ (flat_map (matched_keys own scripts c.place) ms
    ++ option_map_or (missed_keys c.place ms) first [])) (matched
    ∙ ap (λ (p : Package). all_matched first kid p.files) same)
    ∙ walked_by l c first own scripts kid is owned scripted)

pub joined : {T : Type 0} (a b d : List T) (all new mid last : List T) → mid ≡ all ++ a → last ≡ mid ++ b
    → new ≡ last ++ d
    → new ≡ all ++ (a ++ (b ++ d))
joined a b d all new mid last first second third =
    third ∙ (ap (λ ts. ts ++ d) (second ∙ ap (λ ts. ts ++ b) first)
    ∙ (append_assoc (all ++ a) b d ∙ append_assoc all a (b ++ d)))
