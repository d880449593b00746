-- The keys of packages are in the section of crates.
use Rattle.std.proofs.Common.{◌≡◌, ◌++◌, ◌∷◌, ℕ, Bool, true, false, List, [], None, Option, Some, refl}
use Rattle.std.specs.List.{AllByRecursion, flat_map}
use Rattle.std.specs.Option.{option_map_or}
use Rattle.std.specs.Prelude.{Contains, map, if◌then◌else◌}
use Rattle.deny_base.specs.declared.code.Code.{Code}
use Rattle.deny_base.specs.declared.code.Code.TheVariants as code
use Rattle.deny_base.specs.declared.key.Key.{Key}
use Rattle.deny_base.specs.declared.key.Section.TheVariants as section
use Rattle.deny_base.specs.declared.span.Span.{Span}
use Rattle.deny_base.specs.declared.span.Spanned.{Spanned}
use Rattle.deny_spec.specs.Building.{AllowedPath, Bypass}
use Rattle.deny_spec.specs.declared.package.Package.{Package}
use Rattle.deny_spec.specs.declared.package.PackageFile.{PackageFile}
use Rattle.deny_spec.specs.declared.package.Seen.{Seen}
use Rattle.deny_base_lists.proofs.Each.{all_append, all_flat, all_mapped, all_from_members}
use Rattle.deny_base_lists.proofs.Members.{at_member}
use Rattle.deny_spec.specs.Graph.{Crate}
use Rattle.deny_spec.specs.Keys.{crate_key, key_of, no_span}
use Rattle.deny_spec.specs.Policy as policy
use Rattle.deny_spec_report.specs.BuildScripts.{bypass_span, is_script_denied, is_script_right, required_enabled}
use Rattle.deny_spec_report.specs.BuildScripts.{required_unknown, used, wanted_sum}
use Rattle.deny_spec_report.specs.PackageFiles.{ChecksumMatch, ChecksumMismatch, Class, DeniedByExtension}
use Rattle.deny_spec_report.specs.PackageFiles.{DetectedExecutable, DetectedExecutableScript, Harmless, PathBypassed}
use Rattle.deny_spec_report.specs.PackageFiles.{PathBypassedByGlob, UnableToCheckPath, class_of, path_span}
use Rattle.deny_spec_report.specs.Packages.{Scanning, checks, class_keys, denied_script_keys, features_enabled_keys}
use Rattle.deny_spec_report.specs.Packages.{file_keys, folder_key, package_keys, package_of, path_key}
use Rattle.deny_spec_report.specs.Packages.{right_script_keys, script_keys, script_shown, sum_keys, unmatched_glob_keys}
use Rattle.deny_spec_report.specs.Packages.{unmatched_keys, unmatched_path_keys, walked_keys, walks}

abbrev IsOfCrates : Key → Type 0
IsOfCrates key = key.section ≡ section.Crates

abbrev Are : List Key → Type 0
Are keys = AllByRecursion IsOfCrates keys

crate_is : (d : Code) (place : ℕ) (entry : Span) → IsOfCrates (crate_key d place entry)
unfolding key_of
crate_is d place entry = refl

path_is : (d : Code) (place : ℕ) (entry : Span) (shown : List ℕ) → IsOfCrates (path_key d place entry shown)
unfolding path_key key_of
path_is d place entry shown = refl

-- ---- lists of keys

of_map : {X : Type 0} (f : X → Key) (xs : List X) → ((x : X) → IsOfCrates (f x)) → Are (map f xs)
of_map f xs each = all_mapped IsOfCrates f xs (all_from_members (λ x. IsOfCrates (f x)) xs (λ x is. each x))

of_flat : {X : Type 0} (f : X → List Key) (xs : List X) → ((x : X) → Are (f x)) → Are (flat_map f xs)
of_flat f xs each = all_flat (λ x. Are (f x)) IsOfCrates f (λ x all. all) xs
    (all_from_members (λ x. Are (f x)) xs (λ x is. each x))

of_if : (b : Bool) (these those : List Key) → Are these → Are those → Are (if b then these else those)
of_if true these those one other = one
of_if false these those one other = other

of_option : {X : Type 0} (f : X → List Key) (o : Option X) → ((x : X) → Are (f x)) → Are (option_map_or f o [])
of_option f None each = tt
of_option f (Some x) each = each x

-- ---- the keys of a crate

module _ (l : Scanning) (c : Crate) where
  right_are : (span : Span) → Are (right_script_keys l c span)
  unfolding right_script_keys
  right_are span = (
    path_is code.ChecksumMatch c.place span (script_shown (package_of l c)),
    of_map (λ (w : policy.SpannedText). crate_key code.UnknownFeature c.place w.span) (required_unknown l.building c)
        (λ w. crate_is code.UnknownFeature c.place w.span),
  )

  enabled_are : (o : Option Bypass) (enabled : List policy.SpannedText) → Are (features_enabled_keys c.place o enabled)
  enabled_are None enabled = tt
  enabled_are (Some y) [] = tt
  enabled_are (Some y) (w ∷ ws) = (crate_is code.FeaturesEnabled c.place (bypass_span y), tt)

  sum_are : (sum : Spanned (List ℕ)) → Are (sum_keys l c sum)
  unfolding sum_keys
  sum_are sum =
      let enabled = features_enabled_keys c.place (used l.building c) (required_enabled l.building c) in
      of_if (is_script_right l.building (package_of l c) c) (right_script_keys l c sum.span ++ enabled)
      (path_key code.ChecksumMismatch c.place sum.span (script_shown (package_of l c)) ∷ [])
      (all_append IsOfCrates (right_script_keys l c sum.span) enabled (right_are sum.span)
      (enabled_are (used l.building c) (required_enabled l.building c)))
      (path_is code.ChecksumMismatch c.place sum.span (script_shown (package_of l c)), tt)

  script_are : Are (script_keys l c)
  unfolding script_keys
  script_are = of_if (checks l c) (option_map_or (sum_keys l c) (wanted_sum l.building c) []) []
      (of_option (sum_keys l c) (wanted_sum l.building c) sum_are) tt

  denied_are : Are (denied_script_keys l c)
  unfolding denied_script_keys
  denied_are = of_if (is_script_denied l.building l.graph l.reached (package_of l c) c)
      (crate_key code.BuildScriptNotAllowed c.place no_span ∷ []) []
      (crate_is code.BuildScriptNotAllowed c.place no_span, tt) tt

  class_are : (shown : List ℕ) (class : Class) → Are (class_keys c.place shown class)
  class_are shown (PathBypassed span) = (path_is code.PathBypassed c.place span shown, tt)
  class_are shown PathBypassedByGlob = (path_is code.PathBypassedByGlob c.place no_span shown, tt)
  class_are shown (ChecksumMatch span) = (path_is code.ChecksumMatch c.place span shown, tt)
  class_are shown (ChecksumMismatch span) = (path_is code.ChecksumMismatch c.place span shown, tt)
  class_are shown DeniedByExtension = (path_is code.DeniedByExtension c.place no_span shown, tt)
  class_are shown UnableToCheckPath = (path_is code.UnableToCheckPath c.place no_span shown, tt)
  class_are shown DetectedExecutable = (path_is code.DetectedExecutable c.place no_span shown, tt)
  class_are shown DetectedExecutableScript = (path_is code.DetectedExecutableScript c.place no_span shown, tt)
  class_are shown Harmless = tt

  file_are : (file : PackageFile) → Are (file_keys l c file)
  unfolding file_keys
  file_are file = class_are file.seen.shown (class_of l.building (used l.building c) file)

  folder_is : (seen : Seen) → IsOfCrates (folder_key c.place seen)
  folder_is seen = path_is code.UnableToCheckPath c.place no_span seen.shown

  paths_are : (contents : Package) (y : Bypass) → Are (unmatched_path_keys contents c.place y)
  unfolding unmatched_path_keys
  paths_are contents y = of_map (λ (a : AllowedPath). crate_key code.UnmatchedPathBypass c.place (path_span a)) _
      (λ a. crate_is code.UnmatchedPathBypass c.place (path_span a))

  globs_are : (contents : Package) (y : Bypass) → Are (unmatched_glob_keys contents c.place y)
  unfolding unmatched_glob_keys
  globs_are contents y = of_map (λ (w : policy.SpannedText). crate_key code.UnmatchedGlob c.place w.span) _
      (λ w. crate_is code.UnmatchedGlob c.place w.span)

  unmatched_are : (y : Bypass) → Are (unmatched_keys l c y)
  unfolding unmatched_keys
  unmatched_are y = all_append IsOfCrates (unmatched_path_keys (package_of l c) c.place y)
      (unmatched_glob_keys (package_of l c) c.place y) (paths_are (package_of l c) y) (globs_are (package_of l c) y)

  walked_are : Are (walked_keys l c)
  unfolding walked_keys
  walked_are = all_append IsOfCrates (map (folder_key c.place) (package_of l c).unlisted) _
      (of_map (folder_key c.place) (package_of l c).unlisted folder_is)
      (all_append IsOfCrates (flat_map (file_keys l c) (package_of l c).files) _
      (of_flat (file_keys l c) (package_of l c).files file_are)
      (of_option (unmatched_keys l c) (used l.building c) unmatched_are))

  package_are : Are (package_keys l c)
  unfolding package_keys
  package_are = all_append IsOfCrates (script_keys l c) _ script_are
      (all_append IsOfCrates (denied_script_keys l c) _ denied_are
      (of_if (walks l c) (walked_keys l c) [] walked_are tt))

pub key_of_crates : (l : Scanning) (key : Key) → Contains (flat_map (package_keys l) l.graph.crates) key
    → key.section ≡ section.Crates
key_of_crates l key at = at_member IsOfCrates (flat_map (package_keys l) l.graph.crates) key
    (of_flat (package_keys l) l.graph.crates (package_are l)) at
