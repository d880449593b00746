-- Build scripts and the files of packages: the keys of their findings, and the hits of bypasses.
use Rattle.std.specs.Prelude.{ℕ, ◌&&◌, ◌++◌, ◌∷◌, Bool, not, List, [], Option, None, Some, filter, filter_map, find}
use Rattle.std.specs.Prelude.{map, option_and_then, option_map, if◌then◌else◌}
use Rattle.std.specs.List.{flat_map, list_any}
use Rattle.std.specs.Option.{option_map_or}
use Rattle.deny_base.specs.declared.code.Code.{Code}
use Rattle.deny_base.specs.declared.code.Code.TheVariants as code
use Rattle.deny_base.specs.declared.code.DiagnosticCode.TheVariants.{Deprecated}
use Rattle.deny_base.specs.declared.entry.EntryKind.TheVariants as kind
use Rattle.deny_base.specs.declared.entry.Hit.{Hit}
use Rattle.deny_base.specs.declared.entry.Witness.TheVariants.{File, Krate}
use Rattle.deny_base.specs.declared.key.Key.{Key}
use Rattle.deny_base.specs.declared.key.Section.TheVariants as section
use Rattle.deny_base.specs.declared.span.Span.{Span}
use Rattle.deny_base.specs.declared.span.Spanned.{Spanned}
use Rattle.deny_spec.specs.Building.{AllowedPath, Building, Bypass}
use Rattle.deny_spec.specs.Unseen.{package_at}
use Rattle.deny_spec.specs.declared.package.Package.{Package}
use Rattle.deny_spec.specs.declared.package.PackageFile.{PackageFile}
use Rattle.deny_spec.specs.declared.package.Seen.{Seen}
use Rattle.deny_spec.specs.Graph.{Crate, Graph, kid_of}
use Rattle.deny_spec.specs.Hits.{hit_of}
use Rattle.deny_spec.specs.Keys.{crate_key, no_span, plain_key, unused_key}
use Rattle.deny_spec.specs.Policy as policy
use Rattle.deny_spec_report.specs.BuildScripts.{bypass_span, is_checked, is_script_denied, is_script_right, is_walked}
use Rattle.deny_spec_report.specs.BuildScripts.{required_enabled, required_unknown, used, uses, wanted_sum}
use Rattle.deny_spec_report.specs.Circumstances.{Circumstances}
use Rattle.deny_spec_report.specs.Facts.{Facts}
use Rattle.deny_spec_report.specs.PackageFiles.{Class, ChecksumMatch, ChecksumMismatch, DeniedByExtension}
use Rattle.deny_spec_report.specs.PackageFiles.{DetectedExecutable}
use Rattle.deny_spec_report.specs.PackageFiles.{DetectedExecutableScript, Harmless, PathBypassed, PathBypassedByGlob}
use Rattle.deny_spec_report.specs.PackageFiles.{UnableToCheckPath, class_of, hits_glob, hits_path, path_span}

-- what the rules on builds read: what a policy says of builds, the graph, what was scanned of packages, and the test of
-- which crates are reached from one that is executed at build time
pub record Scanning : Type 0 where
  pub building : Building
  pub graph : Graph
  pub packages : List Package
  pub reached : Crate → Bool

abbrev pub package_of : Scanning → Crate → Package
package_of l c = package_at l.packages c.place

abbrev pub checks : Scanning → Crate → Bool
checks l c = is_checked l.building l.graph l.reached c

abbrev pub walks : Scanning → Crate → Bool
walks l c = is_walked l.building l.graph l.reached (package_of l c) c

-- ---- keys

-- the key of a crate, an entry and a path
unfoldable pub path_key : Code → ℕ → Span → List ℕ → Key
path_key code place entry shown = record (crate_key code place entry) { text = shown }

abbrev pub script_shown : Package → List ℕ
script_shown contents = option_map_or (λ seen. seen.shown) contents.script []

-- the keys of a script with the checksum that is wanted of it
unfoldable pub right_script_keys : Scanning → Crate → Span → List Key
right_script_keys l c span =
    path_key code.ChecksumMatch c.place span (script_shown (package_of l c))
    ∷ map (λ w. crate_key code.UnknownFeature c.place w.span) (required_unknown l.building c)

abbrev pub features_enabled_keys : ℕ → Option Bypass → List policy.SpannedText → List Key
features_enabled_keys place None enabled = []
features_enabled_keys place (Some y) [] = []
features_enabled_keys place (Some y) (w ∷ ws) = crate_key code.FeaturesEnabled place (bypass_span y) ∷ []

unfoldable pub sum_keys : Scanning → Crate → Spanned (List ℕ) → List Key
sum_keys l c sum = if is_script_right l.building (package_of l c) c
    then right_script_keys l c sum.span
    ++ features_enabled_keys c.place (used l.building c) (required_enabled l.building c)
    else path_key code.ChecksumMismatch c.place sum.span (script_shown (package_of l c)) ∷ []

unfoldable pub script_keys : Scanning → Crate → List Key
script_keys l c = if checks l c then option_map_or (sum_keys l c) (wanted_sum l.building c) [] else []

unfoldable pub denied_script_keys : Scanning → Crate → List Key
denied_script_keys l c = if is_script_denied l.building l.graph l.reached (package_of l c) c
    then crate_key code.BuildScriptNotAllowed c.place no_span ∷ [] else []

-- the keys of a file, by its class
abbrev pub class_keys : ℕ → List ℕ → Class → List Key
class_keys place shown (PathBypassed span) = path_key code.PathBypassed place span shown ∷ []
class_keys place shown PathBypassedByGlob = path_key code.PathBypassedByGlob place no_span shown ∷ []
class_keys place shown (ChecksumMatch span) = path_key code.ChecksumMatch place span shown ∷ []
class_keys place shown (ChecksumMismatch span) = path_key code.ChecksumMismatch place span shown ∷ []
class_keys place shown DeniedByExtension = path_key code.DeniedByExtension place no_span shown ∷ []
class_keys place shown UnableToCheckPath = path_key code.UnableToCheckPath place no_span shown ∷ []
class_keys place shown DetectedExecutable = path_key code.DetectedExecutable place no_span shown ∷ []
class_keys place shown DetectedExecutableScript = path_key code.DetectedExecutableScript place no_span shown ∷ []
class_keys place shown Harmless = []

unfoldable pub file_keys : Scanning → Crate → PackageFile → List Key
file_keys l c file = class_keys c.place file.seen.shown (class_of l.building (used l.building c) file)

-- the key of a folder that could not be listed
abbrev pub folder_key : ℕ → Seen → Key
folder_key place seen = path_key code.UnableToCheckPath place no_span seen.shown

-- the keys of allowed paths that no file of the package hits; and below, of globs
unfoldable pub unmatched_path_keys : Package → ℕ → Bypass → List Key
unmatched_path_keys contents place y = map (λ a. crate_key code.UnmatchedPathBypass place (path_span a))
    (filter (λ a. not (list_any (hits_path y a) contents.files)) y.allow)

unfoldable pub unmatched_glob_keys : Package → ℕ → Bypass → List Key
unmatched_glob_keys contents place y = map (λ w. crate_key code.UnmatchedGlob place w.span)
    (filter (λ w. not (list_any (hits_glob y w) contents.files)) y.globs)

unfoldable pub unmatched_keys : Scanning → Crate → Bypass → List Key
unmatched_keys l c y = unmatched_path_keys (package_of l c) c.place y
    ++ unmatched_glob_keys (package_of l c) c.place y

unfoldable pub walked_keys : Scanning → Crate → List Key
walked_keys l c = map (folder_key c.place) (package_of l c).unlisted
    ++ (flat_map (file_keys l c) (package_of l c).files
    ++ option_map_or (unmatched_keys l c) (used l.building c) [])

-- the keys of a crate
unfoldable pub package_keys : Scanning → Crate → List Key
package_keys l c = script_keys l c ++ (denied_script_keys l c ++ (if walks l c then walked_keys l c else []))

-- a bypass is used by a crate that is checked
unfoldable pub is_used : Scanning → Bypass → Bool
is_used l y = list_any (λ c. checks l c && uses l.building y c) l.graph.crates

unfoldable pub unmatched_bypass_keys : Scanning → List Key
unmatched_bypass_keys l = map (λ y. unused_key code.UnmatchedBypass (bypass_span y))
    (filter (λ y. not (is_used l y)) l.building.bypass)

abbrev pub build_keys : Scanning → List Key
build_keys l = flat_map (package_keys l) l.graph.crates ++ unmatched_bypass_keys l

-- ---- hits

-- a bypass is hit by the first crate that is checked and uses it
unfoldable pub bypass_hit : Scanning → Bypass → Option Hit
bypass_hit l y = option_map (λ c. hit_of kind.Bypass (bypass_span y) (Krate (kid_of c)))
    (find (λ c. checks l c && uses l.building y c) l.graph.crates)

-- a crate is walked and uses the bypass, and one of its files passes a test
unfoldable pub meets_file : Scanning → Bypass → (PackageFile → Bool) → Crate → Bool
meets_file l y test c = (walks l c && uses l.building y c) && list_any test (package_of l c).files

-- the hit by the first file of a crate that passes a test
unfoldable pub file_hit_at : Scanning → (PackageFile → Bool) → (List ℕ → Crate → Hit) → Crate → Option Hit
file_hit_at l test hit c = option_map (λ file. hit file.path c) (find test (package_of l c).files)

unfoldable pub file_hit : Scanning → Bypass → (PackageFile → Bool) → (List ℕ → Crate → Hit) → Option Hit
file_hit l y test hit = option_and_then (file_hit_at l test hit) (find (meets_file l y test) l.graph.crates)

unfoldable pub path_hit : Scanning → Bypass → AllowedPath → Option Hit
path_hit l y a = file_hit l y (hits_path y a) (λ path c. hit_of kind.BypassPath (path_span a) (File (kid_of c) path))

unfoldable pub glob_hit : Scanning → Bypass → policy.SpannedText → Option Hit
glob_hit l y w = file_hit l y (hits_glob y w) (λ path c. hit_of kind.BypassGlob w.span (File (kid_of c) path))

abbrev pub if_hit : Option Hit → List Hit
if_hit None = []
if_hit (Some hit) = hit ∷ []

-- one hit for each bypass, path and glob that is hit
unfoldable pub bypass_hits_of : Scanning → Bypass → List Hit
bypass_hits_of l y = if_hit (bypass_hit l y)
    ++ (filter_map (path_hit l y) y.allow ++ filter_map (glob_hit l y) y.globs)

abbrev pub bypass_hits : Scanning → List Hit
bypass_hits l = flat_map (bypass_hits_of l) l.building.bypass

-- ---- the older key of the list of crates that may have a build script

unfoldable pub deprecated_key : Span → Key
deprecated_key span = plain_key section.Deprecated Deprecated 0 span

unfoldable pub deprecated_keys : Building → List Key
deprecated_keys b = option_map_or (λ span. deprecated_key span ∷ []) b.older_key []

-- ---- keys and hits of a policy that may say nothing of builds

abbrev pub scanning : Circumstances → Facts → Building → Scanning
scanning c facts building = record {
  building = building;
  graph = c.graph;
  packages = c.packages;
  reached = facts.reached;
}

abbrev pub build_keys_in : Circumstances → Facts → List Key
build_keys_in c facts = option_map_or (λ b. build_keys (scanning c facts b)) c.building []

abbrev pub deprecated_keys_in : Circumstances → List Key
deprecated_keys_in c = option_map_or deprecated_keys c.building []

abbrev pub bypass_hits_in : Circumstances → Facts → List Hit
bypass_hits_in c facts = option_map_or (λ b. bypass_hits (scanning c facts b)) c.building []
