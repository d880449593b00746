-- The keys of build scripts and packaged files without some bypasses, paths and globs that nothing hits.
use Rattle.std.proofs.Common.{◌≡◌, ◌&&◌, ◌∙◌, ◌++◌, ◌∷◌, ℕ, Bool, List, None, Option, Some, [], ap, false, map, not}
use Rattle.std.proofs.Common.{refl, sym, true}
use Rattle.std.specs.Prelude.{Contains, filter, if◌then◌else◌, option_map}
use Rattle.std.specs.List.{flat_map, list_any}
use Rattle.std.specs.Option.{option_map_or}
use Rattle.std.proofs.lemmas.List.Elements.{filter-append}
use Rattle.std.proofs.lemmas.Simd.{map-map}
use Rattle.deny_base_lists.proofs.Agreement.{filter_on, flat_map_on, list_any_on}
use Rattle.deny_base_lists.proofs.Filters.{filter-map}
use Rattle.deny_base.specs.declared.code.Code.TheVariants as code
use Rattle.deny_base.specs.declared.entry.EntryId.{EntryId}
use Rattle.deny_base.specs.declared.key.Key.{Key}
use Rattle.deny_base.specs.declared.span.Span.{Span}
use Rattle.deny_base.specs.declared.span.Spanned.{Spanned}
use Rattle.deny_spec.specs.Building.{AllowedPath, Bypass}
use Rattle.deny_spec.specs.declared.package.PackageFile.{PackageFile}
use Rattle.deny_spec.specs.Graph.{Crate}
use Rattle.deny_spec.specs.Keys.{crate_key, key_of, no_span, unused_key}
use Rattle.deny_spec.specs.Policy as policy
use Rattle.deny_spec_report.specs.BuildScripts.{bypass_span, is_script_right, required_enabled, required_unknown, used}
use Rattle.deny_spec_report.specs.BuildScripts.{uses}
use Rattle.deny_spec_report.specs.BuildScripts.{wanted_sum}
use Rattle.deny_spec_report.specs.PackageFiles.{ChecksumMatch, ChecksumMismatch, Class, DeniedByExtension}
use Rattle.deny_spec_report.specs.PackageFiles.{DetectedExecutable}
use Rattle.deny_spec_report.specs.PackageFiles.{DetectedExecutableScript, Harmless, PathBypassed, PathBypassedByGlob}
use Rattle.deny_spec_report.specs.PackageFiles.{Step}
use Rattle.deny_spec_report.specs.PackageFiles.{UnableToCheckPath, class_by, class_of, hits_glob, hits_path}
use Rattle.deny_spec_report.specs.PackageFiles.{path_span}
use Rattle.deny_spec_report.specs.Packages.{Scanning, build_keys, checks, class_keys, denied_script_keys}
use Rattle.deny_spec_report.specs.Packages.{features_enabled_keys, file_keys, folder_key}
use Rattle.deny_spec_report.specs.Packages.{is_used, package_keys, package_of, path_key}
use Rattle.deny_spec_report.specs.Packages.{right_script_keys, script_keys, script_shown, sum_keys}
use Rattle.deny_spec_report.specs.Packages.{unmatched_bypass_keys}
use Rattle.deny_spec_report.specs.Packages.{unmatched_glob_keys, unmatched_keys, unmatched_path_keys, walked_keys}
use Rattle.deny_spec_report.specs.Packages.{walks}
use Rattle.deny_spec_report.proofs.Kept.{filter-flat_map, reported_kept}
use Rattle.deny_spec_removal.specs.BypassRemoval.{BypassesStay}
use Rattle.deny_spec_removal.specs.Removal.{cut_bypass, names, stays_bypass, stays_glob, stays_path, unnaming}
use Rattle.deny_spec_removal.proofs.Asking.{checks_same, denied_same, enabled_same, hits_glob_same, hits_path_same}
use Rattle.deny_spec_removal.proofs.Asking.{rest}
use Rattle.deny_spec_removal.proofs.Asking.{right_same, steps_same, sum_same, unknown_same, used_is_used, used_member}
use Rattle.deny_spec_removal.proofs.Asking.{used_same, uses_where_same, walked_scanned, walked_same}
use Rattle.deny_spec_removal.proofs.KeyParts.{AllStay, all_made_stay, both_stay, stay_when, when_guarded}

-- ---- keys that name no entry that is taken out

-- the keys of a script name no entry as unused
features_enabled_stay : (taken : List EntryId) (place : ℕ) (o : Option Bypass) (ws : List policy.SpannedText)
    → AllStay taken (features_enabled_keys place o ws)
unfolding key_of
features_enabled_stay taken place None ws = refl
features_enabled_stay taken place (Some y) [] = refl
features_enabled_stay taken place (Some y) (w ∷ ws) = refl

right_script_stay : (l : Scanning) (taken : List EntryId) (c : Crate) (span : Span)
    → AllStay taken (right_script_keys l c span)
unfolding right_script_keys path_key key_of
right_script_stay l taken c span =
    both_stay taken (path_key code.ChecksumMatch c.place span (script_shown (package_of l c)) ∷ [])
    (map (λ w. crate_key code.UnknownFeature c.place w.span) (required_unknown l.building c)) refl
    (all_made_stay taken (λ w. crate_key code.UnknownFeature c.place w.span) (required_unknown l.building c)
    (λ w. refl))

sum_stay : (l : Scanning) (taken : List EntryId) (c : Crate) (sum : Spanned (List ℕ)) → AllStay taken (sum_keys l c sum)
unfolding sum_keys path_key key_of
sum_stay l taken c sum = by (is_script_right l.building (package_of l c) c)
  where
    by : (right : Bool) → AllStay taken (if right
        then right_script_keys l c sum.span
        ++ features_enabled_keys c.place (used l.building c) (required_enabled l.building c)
        else path_key code.ChecksumMismatch c.place sum.span (script_shown (package_of l c)) ∷ [])
    by true = both_stay taken (right_script_keys l c sum.span)
        (features_enabled_keys c.place (used l.building c) (required_enabled l.building c))
        (right_script_stay l taken c sum.span)
        (features_enabled_stay taken c.place (used l.building c) (required_enabled l.building c))
    by false = refl

script_stay : (l : Scanning) (taken : List EntryId) (c : Crate) → AllStay taken (script_keys l c)
unfolding script_keys
script_stay l taken c = stay_when taken (checks l c) (option_map_or (sum_keys l c) (wanted_sum l.building c) [])
    (by (wanted_sum l.building c))
  where
    by : (o : Option (Spanned (List ℕ))) → AllStay taken (option_map_or (sum_keys l c) o [])
    by None = refl
    by (Some sum) = sum_stay l taken c sum

denied_stay : (l : Scanning) (taken : List EntryId) (c : Crate) → AllStay taken (denied_script_keys l c)
unfolding denied_script_keys key_of
denied_stay l taken c = stay_when taken _ (crate_key code.BuildScriptNotAllowed c.place no_span ∷ []) refl

-- the keys of a file or a folder name no entry as unused
class_stay : (taken : List EntryId) (place : ℕ) (shown : List ℕ) (class : Class)
    → AllStay taken (class_keys place shown class)
unfolding path_key key_of
class_stay taken place shown (PathBypassed span) = refl
class_stay taken place shown PathBypassedByGlob = refl
class_stay taken place shown (ChecksumMatch span) = refl
class_stay taken place shown (ChecksumMismatch span) = refl
class_stay taken place shown DeniedByExtension = refl
class_stay taken place shown UnableToCheckPath = refl
class_stay taken place shown DetectedExecutable = refl
class_stay taken place shown DetectedExecutableScript = refl
class_stay taken place shown Harmless = refl

file_stay : (l : Scanning) (taken : List EntryId) (c : Crate) (file : PackageFile) → AllStay taken (file_keys l c file)
unfolding file_keys
file_stay l taken c file = class_stay taken c.place file.seen.shown (class_of l.building (used l.building c) file)

files_stay : (l : Scanning) (taken : List EntryId) (c : Crate)
    → AllStay taken (flat_map (file_keys l c) (package_of l c).files)
files_stay l taken c =
    filter-flat_map (λ key. not (names taken key)) (file_keys l c) (package_of l c).files
    ∙ flat_map_on (λ file. unnaming taken (file_keys l c file)) (file_keys l c) (package_of l c).files
    (λ file is. file_stay l taken c file)

folders_stay : (l : Scanning) (taken : List EntryId) (c : Crate)
    → AllStay taken (map (folder_key c.place) (package_of l c).unlisted)
unfolding path_key key_of
folders_stay l taken c = all_made_stay taken (folder_key c.place) (package_of l c).unlisted (λ seen. refl)

-- ---- keys of crates

module _ (l : Scanning) (taken : List EntryId) (stay : BypassesStay l taken) where
  abbrev new : Scanning
  new = rest l taken stay

  -- ---- keys of scripts

  right_keys_same : (c : Crate) (span : Span) → Contains l.graph.crates c → checks l c ≡ true
      → right_script_keys new c span ≡ right_script_keys l c span
  unfolding right_script_keys
  right_keys_same c span known scan = ap (λ (ws : List policy.SpannedText).
      path_key code.ChecksumMatch c.place span (script_shown (package_of l c))
      ∷ map (λ w. crate_key code.UnknownFeature c.place w.span) ws) (unknown_same l taken stay c known scan)

  enabled_keys_same : (c : Crate) → Contains l.graph.crates c → checks l c ≡ true
      → features_enabled_keys c.place (used new.building c) (required_enabled new.building c)
      ≡ features_enabled_keys c.place (used l.building c) (required_enabled l.building c)
  enabled_keys_same c known scan =
      ap (λ (o : Option Bypass). features_enabled_keys c.place o (required_enabled new.building c))
      (used_same l taken stay c known scan)
      ∙ (ap (λ (ws : List policy.SpannedText).
      features_enabled_keys c.place (option_map (cut_bypass taken) (used l.building c)) ws)
      (enabled_same l taken stay c known scan)
      ∙ by (used l.building c) (required_enabled l.building c))
    where
      by : (o : Option Bypass) (ws : List policy.SpannedText)
          → features_enabled_keys c.place (option_map (cut_bypass taken) o) ws ≡ features_enabled_keys c.place o ws
      by None ws = refl
      by (Some y) [] = refl
      by (Some y) (w ∷ ws) = refl

  sum_keys_same : (c : Crate) (sum : Spanned (List ℕ)) → Contains l.graph.crates c → checks l c ≡ true
      → sum_keys new c sum ≡ sum_keys l c sum
  unfolding sum_keys
  sum_keys_same c sum known scan =
      let enabled_then = features_enabled_keys c.place (used new.building c) (required_enabled new.building c) in
      let mismatch = path_key code.ChecksumMismatch c.place sum.span (script_shown (package_of l c)) ∷ [] in
      ap (λ b. if b then right_script_keys new c sum.span ++ enabled_then else mismatch)
      (right_same l taken stay (package_of l c) c known scan)
      ∙ (ap (λ (ks : List Key). if is_script_right l.building (package_of l c) c then ks ++ enabled_then else mismatch)
      (right_keys_same c sum.span known scan)
      ∙ ap (λ (ks : List Key). if is_script_right l.building (package_of l c) c
      then right_script_keys l c sum.span ++ ks else mismatch) (enabled_keys_same c known scan))

  script_keys_same : (c : Crate) → Contains l.graph.crates c → script_keys new c ≡ script_keys l c
  unfolding script_keys
  script_keys_same c known =
      ap (λ b. if b then option_map_or (sum_keys new c) (wanted_sum new.building c) [] else [])
      (checks_same l taken stay c)
      ∙ when_guarded (checks l c) (option_map_or (sum_keys new c) (wanted_sum new.building c) [])
      (option_map_or (sum_keys l c) (wanted_sum l.building c) [])
      (λ scan. ap (λ (o : Option (Spanned (List ℕ))). option_map_or (sum_keys new c) o [])
      (sum_same l taken stay c known scan) ∙ by scan (wanted_sum l.building c))
    where
      by : checks l c ≡ true → (o : Option (Spanned (List ℕ)))
          → option_map_or (sum_keys new c) o [] ≡ option_map_or (sum_keys l c) o []
      by scan None = refl
      by scan (Some sum) = sum_keys_same c sum known scan

  denied_keys_same : (c : Crate) → Contains l.graph.crates c → denied_script_keys new c ≡ denied_script_keys l c
  unfolding denied_script_keys
  denied_keys_same c known = ap (λ b. if b then crate_key code.BuildScriptNotAllowed c.place no_span ∷ [] else [])
      (denied_same l taken stay (package_of l c) c known)

  module _ (y : Bypass) (written : Contains l.building.bypass y) (c : Crate) (known : Contains l.graph.crates c)
      (walked : walks l c ≡ true) (does_match : uses l.building y c ≡ true) where
    unmatched_paths_part : unmatched_path_keys (package_of l c) c.place (cut_bypass taken y)
        ≡ unnaming taken (unmatched_path_keys (package_of l c) c.place y)
    unfolding unmatched_path_keys key_of
    unmatched_paths_part =
        let files = (package_of l c).files in
        ap (map (λ (a : AllowedPath). crate_key code.UnmatchedPathBypass c.place (path_span a)))
        (filter_on (λ a. not (list_any (hits_path (cut_bypass taken y) a) files))
        (λ a. not (list_any (hits_path y a) files)) (filter (stays_path taken) y.allow)
        (λ a among. ap (λ b. not b) (list_any_on (hits_path (cut_bypass taken y) a) (hits_path y a) files
        (λ file is. hits_path_same l taken stay y written c known walked does_match a file is))))
        ∙ reported_kept (stays_path taken) (λ a. not (list_any (hits_path y a) files))
        (λ a. crate_key code.UnmatchedPathBypass c.place (path_span a)) (λ key. not (names taken key)) y.allow
        (λ a. refl)

    unmatched_globs_part : unmatched_glob_keys (package_of l c) c.place (cut_bypass taken y)
        ≡ unnaming taken (unmatched_glob_keys (package_of l c) c.place y)
    unfolding unmatched_glob_keys key_of
    unmatched_globs_part =
        let files = (package_of l c).files in
        ap (map (λ (w : policy.SpannedText). crate_key code.UnmatchedGlob c.place w.span))
        (filter_on (λ w. not (list_any (hits_glob (cut_bypass taken y) w) files))
        (λ w. not (list_any (hits_glob y w) files)) (filter (stays_glob taken) y.globs)
        (λ w among. ap (λ b. not b) (list_any_on (hits_glob (cut_bypass taken y) w) (hits_glob y w) files
        (λ file is. hits_glob_same l taken stay y written c known walked does_match w file is))))
        ∙ reported_kept (stays_glob taken) (λ w. not (list_any (hits_glob y w) files))
        (λ w. crate_key code.UnmatchedGlob c.place w.span) (λ key. not (names taken key)) y.globs (λ w. refl)

    unmatched_part : unmatched_keys new c (cut_bypass taken y) ≡ unnaming taken (unmatched_keys l c y)
    unfolding unmatched_keys
    unmatched_part =
        let paths = unmatched_path_keys (package_of l c) c.place y in
        let globs = unmatched_glob_keys (package_of l c) c.place y in
        ap (λ (ks : List Key). ks ++ unmatched_glob_keys (package_of l c) c.place (cut_bypass taken y))
        unmatched_paths_part
        ∙ (ap (λ (ks : List Key). unnaming taken paths ++ ks) unmatched_globs_part
        ∙ sym (filter-append (λ key. not (names taken key)) paths globs))

  -- ---- files

  class_same : (c : Crate) → Contains l.graph.crates c → walks l c ≡ true → (file : PackageFile)
      → Contains (package_of l c).files file
      → class_of new.building (used new.building c) file ≡ class_of l.building (used l.building c) file
  unfolding class_of
  class_same c known walked file is = ap (λ (step : Step). class_by step file.seen.found)
      (steps_same l taken stay c known walked file is)

  file_keys_same : (c : Crate) → Contains l.graph.crates c → walks l c ≡ true → (file : PackageFile)
      → Contains (package_of l c).files file → file_keys new c file ≡ file_keys l c file
  unfolding file_keys
  file_keys_same c known walked file is = ap (class_keys c.place file.seen.shown) (class_same c known walked file is)

  -- ---- all keys of a crate

  unmatched_in_part : (c : Crate) → Contains l.graph.crates c → walks l c ≡ true
      → option_map_or (unmatched_keys new c) (used new.building c) []
      ≡ unnaming taken (option_map_or (unmatched_keys l c) (used l.building c) [])
  unmatched_in_part c known walked =
      ap (λ (o : Option Bypass). option_map_or (unmatched_keys new c) o [])
      (used_same l taken stay c known (walked_scanned l c walked))
      ∙ by (used l.building c) refl
    where
      by : (o : Option Bypass) → used l.building c ≡ o
          → option_map_or (unmatched_keys new c) (option_map (cut_bypass taken) o) []
          ≡ unnaming taken (option_map_or (unmatched_keys l c) o [])
      by None at = refl
      by (Some y) at = unmatched_part y (used_member l.building c y at) c known walked
          (used_is_used l.building c y at)

  walked_part : (c : Crate) → Contains l.graph.crates c → walks l c ≡ true
      → walked_keys new c ≡ unnaming taken (walked_keys l c)
  unfolding walked_keys
  walked_part c known walked =
      let folders = map (folder_key c.place) (package_of l c).unlisted in
      let files = flat_map (file_keys l c) (package_of l c).files in
      let unmatched = option_map_or (unmatched_keys l c) (used l.building c) [] in
      ap (λ (ks : List Key). folders ++ (ks ++ option_map_or (unmatched_keys new c) (used new.building c) []))
      (flat_map_on (file_keys new c) (file_keys l c) (package_of l c).files
      (λ file is. file_keys_same c known walked file is))
      ∙ (ap (λ (ks : List Key). folders ++ (files ++ ks)) (unmatched_in_part c known walked)
      ∙ sym (filter-append (λ key. not (names taken key)) folders (files ++ unmatched)
      ∙ (ap (λ (ks : List Key). ks ++ unnaming taken (files ++ unmatched)) (folders_stay l taken c)
      ∙ (ap (λ (ks : List Key). folders ++ ks) (filter-append (λ key. not (names taken key)) files unmatched)
      ∙ ap (λ (ks : List Key). folders ++ (ks ++ unnaming taken unmatched)) (files_stay l taken c)))))

  when_walked : (guard : Bool) (xs ys : List Key) → (guard ≡ true → xs ≡ unnaming taken ys)
      → (if guard then xs else []) ≡ unnaming taken (if guard then ys else [])
  when_walked true xs ys same = same refl
  when_walked false xs ys same = refl

  walked_where_part : (c : Crate) → Contains l.graph.crates c
      → (if walks new c then walked_keys new c else []) ≡ unnaming taken (if walks l c then walked_keys l c else [])
  walked_where_part c known =
      ap (λ b. if b then walked_keys new c else []) (walked_same l taken stay (package_of l c) c known)
      ∙ when_walked (walks l c) (walked_keys new c) (walked_keys l c) (λ walked. walked_part c known walked)

  package_part : (c : Crate) → Contains l.graph.crates c → package_keys new c ≡ unnaming taken (package_keys l c)
  unfolding package_keys
  package_part c known =
      let script = script_keys l c in
      let denied = denied_script_keys l c in
      let walked = if walks l c then walked_keys l c else [] in
      let walked_then = if walks new c then walked_keys new c else [] in
      ap (λ (ks : List Key). ks ++ (denied_script_keys new c ++ walked_then)) (script_keys_same c known)
      ∙ (ap (λ (ks : List Key). script ++ (ks ++ walked_then)) (denied_keys_same c known)
      ∙ (ap (λ (ks : List Key). script ++ (denied ++ ks)) (walked_where_part c known)
      ∙ sym (filter-append (λ key. not (names taken key)) script (denied ++ walked)
      ∙ (ap (λ (ks : List Key). ks ++ unnaming taken (denied ++ walked)) (script_stay l taken c)
      ∙ (ap (λ (ks : List Key). script ++ ks) (filter-append (λ key. not (names taken key)) denied walked)
      ∙ ap (λ (ks : List Key). script ++ (ks ++ unnaming taken walked)) (denied_stay l taken c))))))

  -- ---- bypasses that no crate uses

  is_used_same : (y : Bypass) → is_used new (cut_bypass taken y) ≡ is_used l y
  unfolding is_used
  is_used_same y = list_any_on (λ c. checks new c && uses new.building (cut_bypass taken y) c)
      (λ c. checks l c && uses l.building y c) l.graph.crates
      (λ c known. uses_where_same l taken stay y c known)

  unmatched_bypasses_part : unmatched_bypass_keys new ≡ unnaming taken (unmatched_bypass_keys l)
  unfolding unmatched_bypass_keys key_of
  unmatched_bypasses_part =
      let kept = filter (stays_bypass taken) l.building.bypass in
      ap (map (λ (y : Bypass). unused_key code.UnmatchedBypass (bypass_span y)))
      (filter-map (λ y. not (is_used new y)) (cut_bypass taken) kept)
      ∙ (map-map (λ (y : Bypass). unused_key code.UnmatchedBypass (bypass_span y)) (cut_bypass taken)
      (filter (λ y. not (is_used new (cut_bypass taken y))) kept)
      ∙ (ap (map (λ (y : Bypass). unused_key code.UnmatchedBypass (bypass_span y)))
      (filter_on (λ y. not (is_used new (cut_bypass taken y))) (λ y. not (is_used l y)) kept
      (λ y among. ap (λ b. not b) (is_used_same y)))
      ∙ reported_kept (stays_bypass taken) (λ y. not (is_used l y))
      (λ y. unused_key code.UnmatchedBypass (bypass_span y)) (λ key. not (names taken key)) l.building.bypass
      (λ y. refl)))

  -- ---- all keys

  pub build_part : build_keys new ≡ unnaming taken (build_keys l)
  build_part =
      let packages = flat_map (package_keys l) l.graph.crates in
      ap (λ (ks : List Key). ks ++ unmatched_bypass_keys new)
      (flat_map_on (package_keys new) (λ c. unnaming taken (package_keys l c)) l.graph.crates
      (λ c known. package_part c known)
      ∙ sym (filter-flat_map (λ key. not (names taken key)) (package_keys l) l.graph.crates))
      ∙ (ap (λ (ks : List Key). unnaming taken packages ++ ks) unmatched_bypasses_part
      ∙ sym (filter-append (λ key. not (names taken key)) packages (unmatched_bypass_keys l)))
