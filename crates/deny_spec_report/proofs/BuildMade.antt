-- Keys of build scripts and of the files of packages have a code of builds, and are in a section of the bans check.
use Rattle.std.proofs.Common.{◌≡◌, ◌++◌, ◌∷◌, ◌⊎◌, ℕ, Bool, true, false, List, [], None, Option, Some, inl, inr, refl}
use Rattle.std.specs.List.{AllByRecursion, flat_map}
use Rattle.std.specs.Option.{option_map_or}
use Rattle.std.specs.Prelude.{Contains, IsTrue, map, if◌then◌else◌}
use Rattle.deny_base.specs.Code.{is_of_builds}
use Rattle.deny_base.specs.declared.code.Code.{Code}
use Rattle.deny_base.specs.declared.code.Code.TheVariants as code
use Rattle.deny_base.specs.declared.code.DiagnosticCode.TheVariants.{Deprecated}
use Rattle.deny_base.specs.declared.key.Key.{Key}
use Rattle.deny_base.specs.declared.key.Section.{Section}
use Rattle.deny_base.specs.declared.key.Section.TheVariants as section
use Rattle.deny_base.specs.declared.span.Span.{Span}
use Rattle.deny_base.specs.declared.span.Spanned.{Spanned}
use Rattle.deny_spec.specs.Building.{AllowedPath, Building, Bypass}
use Rattle.deny_spec.specs.declared.package.Package.{Package}
use Rattle.deny_spec.specs.declared.package.PackageFile.{PackageFile}
use Rattle.deny_spec.specs.declared.package.Seen.{Seen}
use Rattle.deny_base_lists.proofs.Each.{all_append, all_flat, all_mapped, all_from_members}
use Rattle.deny_base_lists.proofs.Members.{at_member, no_member}
use Rattle.deny_spec.specs.Graph.{Crate}
use Rattle.deny_spec.specs.Keys.{crate_key, key_of, no_span, unused_key}
use Rattle.deny_spec.specs.Policy as policy
use Rattle.deny_spec_report.specs.BuildScripts.{bypass_span, is_script_denied, is_script_right, required_enabled}
use Rattle.deny_spec_report.specs.BuildScripts.{required_unknown, used, wanted_sum}
use Rattle.deny_spec_report.specs.Circumstances.{Circumstances}
use Rattle.deny_spec_report.specs.Codes.{is_of_bans}
use Rattle.deny_spec_report.specs.EachCode.{HoldsAs}
use Rattle.deny_spec_report.specs.Facts.{Facts}
use Rattle.deny_spec_report.specs.PackageFiles.{ChecksumMatch, ChecksumMismatch, Class, DeniedByExtension}
use Rattle.deny_spec_report.specs.PackageFiles.{DetectedExecutable}
use Rattle.deny_spec_report.specs.PackageFiles.{DetectedExecutableScript, Harmless, PathBypassed, PathBypassedByGlob}
use Rattle.deny_spec_report.specs.PackageFiles.{UnableToCheckPath, class_of, path_span}
use Rattle.deny_spec_report.specs.Packages.{Scanning, build_keys, build_keys_in, checks, class_keys, denied_script_keys}
use Rattle.deny_spec_report.specs.Packages.{deprecated_key, deprecated_keys, deprecated_keys_in, features_enabled_keys}
use Rattle.deny_spec_report.specs.Packages.{file_keys, folder_key, scanning, package_keys, package_of, path_key}
use Rattle.deny_spec_report.specs.Packages.{right_script_keys, script_keys, script_shown, sum_keys}
use Rattle.deny_spec_report.specs.Packages.{unmatched_bypass_keys}
use Rattle.deny_spec_report.specs.Packages.{unmatched_glob_keys, unmatched_keys, unmatched_path_keys, walked_keys}
use Rattle.deny_spec_report.specs.Packages.{walks}
use Rattle.deny_spec_report.proofs.Made.{Made}

-- the sections of keys of builds: of a crate, or of an unused bypass
abbrev pub ArePlaced : Section → Code → Type 0
ArePlaced s d = (s ≡ section.Crates) ⊎ ((s ≡ section.Unused) × (d ≡ code.UnmatchedBypass))

-- a key of builds has a code of builds and is in a section of the bans check, and keys of builds hold by this code
pub record MadeOfBuilds (key : Key) : Type 0 where
  pub section : Section
  pub code : Code
  pub made : Made section code key
  pub of_bans : IsTrue (is_of_bans section)
  pub of_builds : IsTrue (is_of_builds code)
  pub placed : ArePlaced section code
  pub holds : (c : Circumstances) (facts : Facts) (k : Key) → Contains (build_keys_in c facts) k
      → HoldsAs code c facts k

abbrev Holding : Code → Type 0
Holding d = (c : Circumstances) (facts : Facts) (k : Key) → Contains (build_keys_in c facts) k → HoldsAs d c facts k

abbrev AreMade : List Key → Type 0
AreMade keys = AllByRecursion MadeOfBuilds keys

of_crate : (d : Code) (place : ℕ) (entry : Span) → IsTrue (is_of_builds d) → Holding d
    → MadeOfBuilds (crate_key d place entry)
unfolding key_of
of_crate d place entry of holds = record {
  section = section.Crates;
  code = d;
  made = record { code_is = refl; section_is = refl };
  of_bans = refl;
  of_builds = of;
  placed = inl refl;
  holds = holds;
}

of_path : (d : Code) (place : ℕ) (entry : Span) (shown : List ℕ) → IsTrue (is_of_builds d) → Holding d
    → MadeOfBuilds (path_key d place entry shown)
unfolding path_key key_of
of_path d place entry shown of holds = record {
  section = section.Crates;
  code = d;
  made = record { code_is = refl; section_is = refl };
  of_bans = refl;
  of_builds = of;
  placed = inl refl;
  holds = holds;
}

of_bypass : (entry : Span) → MadeOfBuilds (unused_key code.UnmatchedBypass entry)
unfolding key_of
of_bypass entry = record {
  section = section.Unused;
  code = code.UnmatchedBypass;
  made = record { code_is = refl; section_is = refl };
  of_bans = refl;
  of_builds = refl;
  placed = inr (refl, refl);
  holds = λ c facts k is. is;
}

-- ---- lists of them

all_of_map : {X : Type 0} (f : X → Key) (xs : List X) → ((x : X) → MadeOfBuilds (f x)) → AreMade (map f xs)
all_of_map f xs each = all_mapped MadeOfBuilds f xs (all_from_members (λ x. MadeOfBuilds (f x)) xs (λ x is. each x))

all_of_flat : {X : Type 0} (f : X → List Key) (xs : List X) → ((x : X) → AreMade (f x)) → AreMade (flat_map f xs)
all_of_flat f xs each = all_flat (λ x. AreMade (f x)) MadeOfBuilds f (λ x all. all) xs
    (all_from_members (λ x. AreMade (f x)) xs (λ x is. each x))

all_of_if : (b : Bool) (these those : List Key) → AreMade these → AreMade those
    → AreMade (if b then these else those)
all_of_if true these those one other = one
all_of_if false these those one other = other

all_of_option : {X : Type 0} (f : X → List Key) (o : Option X) → ((x : X) → AreMade (f x))
    → AreMade (option_map_or f o [])
all_of_option f None each = tt
all_of_option f (Some x) each = each x

-- ---- scripts

module _ (l : Scanning) (c : Crate) where
  right_made : (span : Span) → AreMade (right_script_keys l c span)
  unfolding right_script_keys
  right_made span = (
    of_path code.ChecksumMatch c.place span (script_shown (package_of l c)) refl (λ d facts k is. is),
    all_of_map (λ (w : policy.SpannedText). crate_key code.UnknownFeature c.place w.span)
        (required_unknown l.building c)
        (λ w. of_crate code.UnknownFeature c.place w.span refl (λ d facts k is. inr is)),
  )

  enabled_made : (o : Option Bypass) (enabled : List policy.SpannedText)
      → AreMade (features_enabled_keys c.place o enabled)
  enabled_made None enabled = tt
  enabled_made (Some y) [] = tt
  enabled_made (Some y) (w ∷ ws) =
      (of_crate code.FeaturesEnabled c.place (bypass_span y) refl (λ d facts k is. is), tt)

  sum_made : (sum : Spanned (List ℕ)) → AreMade (sum_keys l c sum)
  unfolding sum_keys
  sum_made sum = all_of_if (is_script_right l.building (package_of l c) c)
      (right_script_keys l c sum.span
      ++ features_enabled_keys c.place (used l.building c) (required_enabled l.building c))
      (path_key code.ChecksumMismatch c.place sum.span (script_shown (package_of l c)) ∷ [])
      (all_append MadeOfBuilds (right_script_keys l c sum.span)
      (features_enabled_keys c.place (used l.building c) (required_enabled l.building c)) (right_made sum.span)
      (enabled_made (used l.building c) (required_enabled l.building c)))
      (of_path code.ChecksumMismatch c.place sum.span (script_shown (package_of l c)) refl (λ d facts k is. is), tt)

  script_made : AreMade (script_keys l c)
  unfolding script_keys
  script_made = all_of_if (checks l c) (option_map_or (sum_keys l c) (wanted_sum l.building c) []) []
      (all_of_option (sum_keys l c) (wanted_sum l.building c) sum_made) tt

  denied_made : AreMade (denied_script_keys l c)
  unfolding denied_script_keys
  denied_made = all_of_if (is_script_denied l.building l.graph l.reached (package_of l c) c)
      (crate_key code.BuildScriptNotAllowed c.place no_span ∷ []) []
      (of_crate code.BuildScriptNotAllowed c.place no_span refl (λ d facts k is. is), tt) tt

  -- ---- files

  class_made : (shown : List ℕ) (class : Class) → AreMade (class_keys c.place shown class)
  class_made shown (PathBypassed span) =
      (of_path code.PathBypassed c.place span shown refl (λ d facts k is. is), tt)
  class_made shown PathBypassedByGlob =
      (of_path code.PathBypassedByGlob c.place no_span shown refl (λ d facts k is. is), tt)
  class_made shown (ChecksumMatch span) =
      (of_path code.ChecksumMatch c.place span shown refl (λ d facts k is. is), tt)
  class_made shown (ChecksumMismatch span) =
      (of_path code.ChecksumMismatch c.place span shown refl (λ d facts k is. is), tt)
  class_made shown DeniedByExtension =
      (of_path code.DeniedByExtension c.place no_span shown refl (λ d facts k is. is), tt)
  class_made shown UnableToCheckPath =
      (of_path code.UnableToCheckPath c.place no_span shown refl (λ d facts k is. is), tt)
  class_made shown DetectedExecutable =
      (of_path code.DetectedExecutable c.place no_span shown refl (λ d facts k is. is), tt)
  class_made shown DetectedExecutableScript =
      (of_path code.DetectedExecutableScript c.place no_span shown refl (λ d facts k is. is), tt)
  class_made shown Harmless = tt

  file_made : (file : PackageFile) → AreMade (file_keys l c file)
  unfolding file_keys
  file_made file = class_made file.seen.shown (class_of l.building (used l.building c) file)

  folder_made : (seen : Seen) → MadeOfBuilds (folder_key c.place seen)
  folder_made seen = of_path code.UnableToCheckPath c.place no_span seen.shown refl (λ d facts k is. is)

  unmatched_paths_made : (contents : Package) (y : Bypass) → AreMade (unmatched_path_keys contents c.place y)
  unfolding unmatched_path_keys
  unmatched_paths_made contents y = all_of_map
      (λ (a : AllowedPath). crate_key code.UnmatchedPathBypass c.place (path_span a)) _
      (λ a. of_crate code.UnmatchedPathBypass c.place (path_span a) refl (λ d facts k is. is))

  unmatched_globs_made : (contents : Package) (y : Bypass) → AreMade (unmatched_glob_keys contents c.place y)
  unfolding unmatched_glob_keys
  unmatched_globs_made contents y = all_of_map
      (λ (w : policy.SpannedText). crate_key code.UnmatchedGlob c.place w.span) _
      (λ w. of_crate code.UnmatchedGlob c.place w.span refl (λ d facts k is. is))

  unmatched_made : (y : Bypass) → AreMade (unmatched_keys l c y)
  unfolding unmatched_keys
  unmatched_made y = all_append MadeOfBuilds (unmatched_path_keys (package_of l c) c.place y)
      (unmatched_glob_keys (package_of l c) c.place y) (unmatched_paths_made (package_of l c) y)
      (unmatched_globs_made (package_of l c) y)

  walked_made : AreMade (walked_keys l c)
  unfolding walked_keys
  walked_made = all_append MadeOfBuilds (map (folder_key c.place) (package_of l c).unlisted) _
      (all_of_map (folder_key c.place) (package_of l c).unlisted folder_made)
      (all_append MadeOfBuilds (flat_map (file_keys l c) (package_of l c).files) _
      (all_of_flat (file_keys l c) (package_of l c).files file_made)
      (all_of_option (unmatched_keys l c) (used l.building c) unmatched_made))

  package_made : AreMade (package_keys l c)
  unfolding package_keys
  package_made = all_append MadeOfBuilds (script_keys l c) _ script_made
      (all_append MadeOfBuilds (denied_script_keys l c) _ denied_made
      (all_of_if (walks l c) (walked_keys l c) [] walked_made tt))

-- ---- all

unmatched_bypasses_made : (l : Scanning) → AreMade (unmatched_bypass_keys l)
unfolding unmatched_bypass_keys
unmatched_bypasses_made l = all_of_map (λ (y : Bypass). unused_key code.UnmatchedBypass (bypass_span y)) _
    (λ y. of_bypass (bypass_span y))

all_made : (l : Scanning) → AreMade (build_keys l)
all_made l = all_append MadeOfBuilds (flat_map (package_keys l) l.graph.crates) (unmatched_bypass_keys l)
    (all_of_flat (package_keys l) l.graph.crates (package_made l)) (unmatched_bypasses_made l)

pub build_made : (c : Circumstances) (facts : Facts) (key : Key) → Contains (build_keys_in c facts) key
    → MadeOfBuilds key
build_made c facts key is = by_building c.building is
  where
    by_building : (o : Option Building)
        → Contains (option_map_or (λ b. build_keys (scanning c facts b)) o []) key → MadeOfBuilds key
    by_building None is = absurd (no_member key is)
    by_building (Some b) is =
        at_member MadeOfBuilds (build_keys (scanning c facts b)) key (all_made (scanning c facts b)) is

-- ---- the older key

pub record MadeDeprecated (key : Key) : Type 0 where
  pub code_is : key.code ≡ Deprecated
  pub section_is : key.section ≡ section.Deprecated

deprecated_key_made : (span : Span) → MadeDeprecated (deprecated_key span)
unfolding deprecated_key
deprecated_key_made span = record { code_is = refl; section_is = refl }

pub deprecated_made : (c : Circumstances) (key : Key) → Contains (deprecated_keys_in c) key → MadeDeprecated key
unfolding deprecated_keys
deprecated_made c key is = by_building c.building is
  where
    by_span : (o : Option Span) → Contains (option_map_or (λ span. deprecated_key span ∷ []) o []) key
        → MadeDeprecated key
    by_span None is = absurd (no_member key is)
    by_span (Some span) is =
        at_member MadeDeprecated (deprecated_key span ∷ []) key (deprecated_key_made span, tt) is

    by_building : (o : Option Building) → Contains (option_map_or deprecated_keys o []) key → MadeDeprecated key
    by_building None is = absurd (no_member key is)
    by_building (Some b) is = by_span b.older_key is
