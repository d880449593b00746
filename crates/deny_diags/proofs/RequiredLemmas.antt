-- A feature that a key of builds reports as unknown is one that a bypass requires.
use Rattle.std.proofs.Common.{◌≡◌, ◌++◌, ◌∷◌, ◌⊎◌, ℕ, Bool, true, false, List, [], None, Option, Some, inl, inr, map}
use Rattle.std.proofs.Common.{not, refl}
use Rattle.std.specs.List.{AllByRecursion, flat_map}
use Rattle.std.specs.Option.{option_map_or}
use Rattle.std.specs.Prelude.{Contains, IsTrue, find, is_some, if◌then◌else◌}
use Rattle.deny_base.specs.declared.code.Code.{Code}
use Rattle.deny_base.specs.declared.code.Code.TheVariants as code
use Rattle.deny_base.specs.declared.code.DiagnosticCode.TheVariants.{Bans}
use Rattle.deny_base.specs.declared.key.Key.{Key}
use Rattle.deny_base.specs.declared.span.Span.{Span}
use Rattle.deny_base.specs.declared.span.Spanned.{Spanned}
use Rattle.deny_spec.specs.Building.{AllowedPath, Building, Bypass}
use Rattle.deny_spec.specs.declared.package.PackageFile.{PackageFile}
use Rattle.deny_spec.specs.declared.package.Seen.{Seen}
use Rattle.deny_base_lists.proofs.Each.{all_append, all_flat, all_from_members, all_mapped}
use Rattle.deny_base_lists.proofs.Finding.{found_member}
use Rattle.deny_base_lists.proofs.Members.{Contains-flat_map, at_member, filtered, no_member}
use Rattle.deny_spec.specs.Graph.{Crate}
use Rattle.deny_spec.specs.Keys.{crate_key, key_of, no_span, unused_key}
use Rattle.deny_spec.specs.Policy as policy
use Rattle.deny_spec.specs.Wrappers.{same_span}
use Rattle.deny_spec_report.specs.BuildScripts.{bypass_span, bypasses, is_script_denied, is_script_right}
use Rattle.deny_spec_report.specs.BuildScripts.{required_enabled, required_of, required_unknown, used, wanted_sum}
use Rattle.deny_spec_report.specs.Circumstances.{Circumstances}
use Rattle.deny_spec_report.specs.Facts.{Facts}
use Rattle.deny_spec_report.specs.Features.{features_of, has_feature, unknown_feature_keys}
use Rattle.deny_spec_report.specs.PackageFiles.{ChecksumMatch, ChecksumMismatch, Class, DeniedByExtension}
use Rattle.deny_spec_report.specs.PackageFiles.{DetectedExecutable, DetectedExecutableScript, Harmless, PathBypassed}
use Rattle.deny_spec_report.specs.PackageFiles.{PathBypassedByGlob, UnableToCheckPath, class_of, path_span}
use Rattle.deny_spec_report.specs.Packages.{Scanning, build_keys, build_keys_in, checks, class_keys, denied_script_keys}
use Rattle.deny_spec_report.specs.Packages.{features_enabled_keys, file_keys, folder_key, scanning, package_keys}
use Rattle.deny_spec_report.specs.Packages.{package_of, path_key, right_script_keys, script_keys, script_shown}
use Rattle.deny_spec_report.specs.Packages.{sum_keys, unmatched_bypass_keys, unmatched_glob_keys, unmatched_keys}
use Rattle.deny_spec_report.specs.Packages.{unmatched_path_keys, walked_keys, walks}
use Rattle.deny_spec_report.specs.PackageDiags.{required_features}
use Rattle.deny_diags.proofs.NamedLemmas.{named_by, unknown_feature_named}
use Rattle.deny_diags.proofs.ReportedLemmas.{found_behind, found_in_first}

module _ (l : Scanning) where
  abbrev required : List policy.SpannedText
  required = flat_map (λ y. y.required) l.building.bypass

  -- where a key reports a feature as unknown, a bypass requires one at its span
  IsRequired : Key → Type 0
  IsRequired key = key.code ≡ Bans code.UnknownFeature
      → IsTrue (is_some (find (λ w. same_span w.span key.entry) required))

  abbrev AreRequired : List Key → Type 0
  AreRequired keys = AllByRecursion IsRequired keys

  -- keys of other codes report no unknown feature
  other_crate : (d : Code) (place : ℕ) (entry : Span) → (Bans d ≡ Bans code.UnknownFeature → ⊥)
      → IsRequired (crate_key d place entry)
  unfolding IsRequired key_of
  other_crate d place entry other same = absurd (other same)

  other_path : (d : Code) (place : ℕ) (entry : Span) (shown : List ℕ) → (Bans d ≡ Bans code.UnknownFeature → ⊥)
      → IsRequired (path_key d place entry shown)
  unfolding IsRequired path_key key_of
  other_path d place entry shown other same = absurd (other same)

  other_unused : (entry : Span) → IsRequired (unused_key code.UnmatchedBypass entry)
  unfolding IsRequired key_of
  other_unused entry same = absurd (cc same)

  -- ---- lists of keys

  all_of_map : {X : Type 0} (f : X → Key) (xs : List X) → ((x : X) → Contains xs x → IsRequired (f x))
      → AreRequired (map f xs)
  all_of_map f xs each = all_mapped IsRequired f xs (all_from_members (λ x. IsRequired (f x)) xs each)

  all_of_flat : {X : Type 0} (f : X → List Key) (xs : List X) → ((x : X) → AreRequired (f x))
      → AreRequired (flat_map f xs)
  all_of_flat f xs each = all_flat (λ x. AreRequired (f x)) IsRequired f (λ x all. all) xs
      (all_from_members (λ x. AreRequired (f x)) xs (λ x is. each x))

  all_of_if : (b : Bool) (these those : List Key) → AreRequired these → AreRequired those
      → AreRequired (if b then these else those)
  all_of_if true these those one other = one
  all_of_if false these those one other = other

  all_of_option : {X : Type 0} (f : X → List Key) (o : Option X) → ((x : X) → AreRequired (f x))
      → AreRequired (option_map_or f o [])
  all_of_option f None each = tt
  all_of_option f (Some x) each = each x

  -- ---- keys of scripts

  module _ (c : Crate) where
    -- what the bypass of the crate requires
    used_required : (o : Option Bypass) → used l.building c ≡ o → (w : policy.SpannedText) → Contains (required_of o) w
        → Contains required w
    unfolding used
    used_required None is w of = absurd (no_member w of)
    used_required (Some y) is w of = Contains-flat_map (λ (y : Bypass). y.required) l.building.bypass y w
        (found_member (λ y. bypasses y c) l.building.bypass y is) of

    unknown_required : (w : policy.SpannedText) → Contains (required_unknown l.building c) w
        → IsRequired (crate_key code.UnknownFeature c.place w.span)
    unfolding IsRequired required_unknown key_of
    unknown_required w is same =
        named_by (λ (w : policy.SpannedText). w.span) required w (crate_key code.UnknownFeature c.place w.span)
        (used_required (used l.building c) refl w
        (filtered (λ w. not (has_feature c w.value)) (required_of (used l.building c)) w is)) refl

    right_required : (span : Span) → AreRequired (right_script_keys l c span)
    unfolding right_script_keys
    right_required span = (
      other_path code.ChecksumMatch c.place span (script_shown (package_of l c)) (λ same. cc same),
      all_of_map (λ (w : policy.SpannedText). crate_key code.UnknownFeature c.place w.span)
          (required_unknown l.building c)
          unknown_required,
    )

    enabled_required : (o : Option Bypass) (enabled : List policy.SpannedText)
        → AreRequired (features_enabled_keys c.place o enabled)
    enabled_required None enabled = tt
    enabled_required (Some y) [] = tt
    enabled_required (Some y) (w ∷ ws) =
        (other_crate code.FeaturesEnabled c.place (bypass_span y) (λ same. cc same), tt)

    sum_required : (sum : Spanned (List ℕ)) → AreRequired (sum_keys l c sum)
    unfolding sum_keys
    sum_required sum = all_of_if (is_script_right l.building (package_of l c) c)
        (right_script_keys l c sum.span
        ++ features_enabled_keys c.place (used l.building c) (required_enabled l.building c))
        (path_key code.ChecksumMismatch c.place sum.span (script_shown (package_of l c)) ∷ [])
        (all_append IsRequired (right_script_keys l c sum.span)
        (features_enabled_keys c.place (used l.building c) (required_enabled l.building c)) (right_required sum.span)
        (enabled_required (used l.building c) (required_enabled l.building c)))
        (other_path code.ChecksumMismatch c.place sum.span (script_shown (package_of l c)) (λ same. cc same), tt)

    script_required : AreRequired (script_keys l c)
    unfolding script_keys
    script_required = all_of_if (checks l c) (option_map_or (sum_keys l c) (wanted_sum l.building c) []) []
        (all_of_option (sum_keys l c) (wanted_sum l.building c) sum_required) tt

    denied_required : AreRequired (denied_script_keys l c)
    unfolding denied_script_keys
    denied_required = all_of_if (is_script_denied l.building l.graph l.reached (package_of l c) c)
        (crate_key code.BuildScriptNotAllowed c.place no_span ∷ []) []
        (other_crate code.BuildScriptNotAllowed c.place no_span (λ same. cc same), tt) tt

    -- ---- keys of files

    class_required : (shown : List ℕ) (class : Class) → AreRequired (class_keys c.place shown class)
    class_required shown (PathBypassed span) =
        (other_path code.PathBypassed c.place span shown (λ same. cc same), tt)
    class_required shown PathBypassedByGlob =
        (other_path code.PathBypassedByGlob c.place no_span shown (λ same. cc same), tt)
    class_required shown (ChecksumMatch span) =
        (other_path code.ChecksumMatch c.place span shown (λ same. cc same), tt)
    class_required shown (ChecksumMismatch span) =
        (other_path code.ChecksumMismatch c.place span shown (λ same. cc same), tt)
    class_required shown DeniedByExtension =
        (other_path code.DeniedByExtension c.place no_span shown (λ same. cc same), tt)
    class_required shown UnableToCheckPath =
        (other_path code.UnableToCheckPath c.place no_span shown (λ same. cc same), tt)
    class_required shown DetectedExecutable =
        (other_path code.DetectedExecutable c.place no_span shown (λ same. cc same), tt)
    class_required shown DetectedExecutableScript =
        (other_path code.DetectedExecutableScript c.place no_span shown (λ same. cc same), tt)
    class_required shown Harmless = tt

    file_required : (file : PackageFile) → AreRequired (file_keys l c file)
    unfolding file_keys
    file_required file = class_required file.seen.shown (class_of l.building (used l.building c) file)

    folder_required : (seen : Seen) → IsRequired (folder_key c.place seen)
    folder_required seen = other_path code.UnableToCheckPath c.place no_span seen.shown (λ same. cc same)

    unmatched_required : (y : Bypass) → AreRequired (unmatched_keys l c y)
    unfolding unmatched_keys unmatched_path_keys unmatched_glob_keys
    unmatched_required y = all_append IsRequired (unmatched_path_keys (package_of l c) c.place y)
        (unmatched_glob_keys (package_of l c) c.place y)
        (all_of_map (λ (a : AllowedPath). crate_key code.UnmatchedPathBypass c.place (path_span a)) _
        (λ a is. other_crate code.UnmatchedPathBypass c.place (path_span a) (λ same. cc same)))
        (all_of_map (λ (w : policy.SpannedText). crate_key code.UnmatchedGlob c.place w.span) _
        (λ w is. other_crate code.UnmatchedGlob c.place w.span (λ same. cc same)))

    walked_required : AreRequired (walked_keys l c)
    unfolding walked_keys
    walked_required = all_append IsRequired (map (folder_key c.place) (package_of l c).unlisted) _
        (all_of_map (folder_key c.place) (package_of l c).unlisted (λ seen is. folder_required seen))
        (all_append IsRequired (flat_map (file_keys l c) (package_of l c).files) _
        (all_of_flat (file_keys l c) (package_of l c).files file_required)
        (all_of_option (unmatched_keys l c) (used l.building c) unmatched_required))

    package_required : AreRequired (package_keys l c)
    unfolding package_keys
    package_required = all_append IsRequired (script_keys l c) _ script_required
        (all_append IsRequired (denied_script_keys l c) _ denied_required
        (all_of_if (walks l c) (walked_keys l c) [] walked_required tt))

  -- ---- all keys of builds

  unmatched_bypasses_required : AreRequired (unmatched_bypass_keys l)
  unfolding unmatched_bypass_keys
  unmatched_bypasses_required = all_of_map (λ (y : Bypass). unused_key code.UnmatchedBypass (bypass_span y)) _
      (λ y is. other_unused (bypass_span y))

  all_required : AreRequired (build_keys l)
  all_required = all_append IsRequired (flat_map (package_keys l) l.graph.crates) (unmatched_bypass_keys l)
      (all_of_flat (package_keys l) l.graph.crates package_required) unmatched_bypasses_required

  there_required : (key : Key) → Contains (build_keys l) key → IsRequired key
  there_required key is = at_member IsRequired (build_keys l) key all_required is

  unknown_there : (key : Key) → Contains (build_keys l) key → key.code ≡ Bans code.UnknownFeature
      → IsTrue (is_some (find (λ w. same_span w.span key.entry) required))
  unfolding IsRequired
  unknown_there key is same = there_required key is same

required_named : (c : Circumstances) (facts : Facts) (key : Key) → Contains (build_keys_in c facts) key
    → key.code ≡ Bans code.UnknownFeature
    → IsTrue (is_some (find (λ w. same_span w.span key.entry) (required_features c.building)))
required_named c facts key is same = by_building c.building is
  where
    by_building : (o : Option Building) → Contains (option_map_or (λ b. build_keys (scanning c facts b)) o []) key
        → IsTrue (is_some (find (λ w. same_span w.span key.entry) (required_features o)))
    by_building None is = absurd (no_member key is)
    by_building (Some b) is = unknown_there (scanning c facts b) key is same

-- a key that reports an unknown feature shows one that an entry lists or a bypass requires
pub feature_named : (c : Circumstances) (facts : Facts) (key : Key) → key.code ≡ Bans code.UnknownFeature
    → Contains (unknown_feature_keys c.policy c.graph) key ⊎ Contains (build_keys_in c facts) key
    → IsTrue (is_some (find (λ w. same_span w.span key.entry)
    (flat_map features_of c.policy.features ++ required_features c.building)))
feature_named c facts key same (inl is) = found_in_first (λ (w : policy.SpannedText). same_span w.span key.entry)
    (flat_map features_of c.policy.features) (required_features c.building)
    (unknown_feature_named c.policy c.graph key is)
feature_named c facts key same (inr is) = found_behind (λ (w : policy.SpannedText). same_span w.span key.entry)
    (flat_map features_of c.policy.features) (required_features c.building) (required_named c facts key is same)
