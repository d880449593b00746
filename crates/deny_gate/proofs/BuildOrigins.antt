-- The origins of keys of builds that can be errors: a script that is not allowed, a script with another checksum, or a
-- file of a package that is walked; those of another checksum come from the checksum that a policy writes.
use Rattle.std.proofs.Common.{◌≡◌, ◌∙◌, ◌++◌, ◌∷◌, ℕ, Bool, true, false, List, [], Option, None, Some, ap, inl, inr}
use Rattle.std.proofs.Common.{refl}
use Rattle.std.specs.Prelude.{◌&&◌, Contains, is_none, map, not, if◌then◌else◌}
use Rattle.std.specs.List.{AllByRecursion, flat_map}
use Rattle.std.specs.Option.{option_map_or}
use Rattle.std.proofs.lemmas.List.Elements.{Contains-append_cases}
use Rattle.deny_base_lists.proofs.Each.{all_append, all_flat, all_mapped, all_from_members}
use Rattle.deny_base_lists.proofs.Members.{Contains-from_flat_map, at_member, no_member}
use Rattle.deny_base_lists.proofs.Finding.{found_member}
use Rattle.deny_base.specs.Code.{bans_have_entry, bans_rule}
use Rattle.deny_base.specs.Rule.{Rule, OnCrates, OnWildcards, OnFeatures, OnDefaultFeatures, OnWorkspaceDependencies}
use Rattle.deny_base.specs.Rule.{OnStdReplacements, OnBuildScripts, OnPackageFiles, OnLicenses}
use Rattle.deny_base.specs.declared.code.Code.{Code}
use Rattle.deny_base.specs.declared.code.Code.TheVariants as code
use Rattle.deny_base.specs.declared.code.DiagnosticCode.TheVariants.{Bans}
use Rattle.deny_base.specs.declared.key.Key.{Key}
use Rattle.deny_base.specs.declared.span.Span.{Span}
use Rattle.deny_base.specs.declared.span.Spanned.{Spanned}
use Rattle.deny_spec.specs.Building.{AllowedPath, Building, Bypass}
use Rattle.deny_spec.specs.declared.package.ExecutableKind.{ExecutableKind}
use Rattle.deny_spec.specs.declared.package.ExecutableKind.TheVariants.{Interpreted, Native}
use Rattle.deny_spec.specs.declared.package.Found.{Found}
use Rattle.deny_spec.specs.declared.package.Found.TheVariants.{Failed, Kind, Sum, Unasked}
use Rattle.deny_spec.specs.declared.package.PackageFile.{PackageFile}
use Rattle.deny_spec.specs.declared.package.Seen.{Seen}
use Rattle.deny_spec.specs.Graph.{Crate}
use Rattle.deny_spec.specs.Keys.{crate_key, key_of, no_span, unused_key}
use Rattle.deny_spec.specs.Policy as policy
use Rattle.deny_spec_report.specs.BuildScripts.{bypass_span, has_sum, is_script_denied, is_script_right}
use Rattle.deny_spec_report.specs.BuildScripts.{required_enabled}
use Rattle.deny_spec_report.specs.BuildScripts.{required_unknown, used, wanted_sum}
use Rattle.deny_spec_report.specs.Circumstances.{Circumstances}
use Rattle.deny_spec_report.specs.Facts.{Facts}
use Rattle.deny_spec_report.specs.PackageFiles.{ByExtension, ByGlob, ByHeader, ByPath, BySum, Step, allows, class_by}
use Rattle.deny_spec_report.specs.PackageFiles.{class_of, ChecksumMatch, ChecksumMismatch, class_by_header}
use Rattle.deny_spec_report.specs.PackageFiles.{class_of_kind}
use Rattle.deny_spec_report.specs.PackageFiles.{fits_own, fits_script, is_decided_by, path_of, path_of_used, path_span}
use Rattle.deny_spec_report.specs.PackageFiles.{step_allowed, step_by, step_of}
use Rattle.deny_spec_report.specs.Packages.{Scanning, build_keys, build_keys_in, checks, class_keys, denied_script_keys}
use Rattle.deny_spec_report.specs.Packages.{features_enabled_keys, file_keys, folder_key, scanning, package_keys}
use Rattle.deny_spec_report.specs.Packages.{package_of}
use Rattle.deny_spec_report.specs.Packages.{path_key, right_script_keys, script_keys, script_shown, sum_keys}
use Rattle.deny_spec_report.specs.Packages.{unmatched_bypass_keys, unmatched_glob_keys, unmatched_keys}
use Rattle.deny_spec_report.specs.Packages.{unmatched_path_keys}
use Rattle.deny_spec_report.specs.Packages.{walked_keys, walks}

-- codes that are never errors
abbrev pub is_mild : Code → Bool
is_mild d = is_none (bans_rule d)

abbrev pub is_on_files : Rule → Bool
is_on_files OnCrates = false
is_on_files OnWildcards = false
is_on_files OnFeatures = false
is_on_files OnDefaultFeatures = false
is_on_files OnWorkspaceDependencies = false
is_on_files OnStdReplacements = false
is_on_files OnBuildScripts = false
is_on_files OnPackageFiles = true
is_on_files OnLicenses = false

-- codes of files that can be errors and that no entry of the policy decides; none of checksums
abbrev pub is_of_files : Code → Bool
is_of_files d = option_map_or is_on_files (bans_rule d) false && not (bans_have_entry d)

-- a checksum is that of a path that the bypass of a crate allows
pub record IsPathSum (l : Scanning) (c : Crate) (sum : Spanned (List ℕ)) : Type 0 where
  pub bypass : Bypass
  pub is_used : used l.building c ≡ Some bypass
  pub allowed : AllowedPath
  pub written : Contains bypass.allow allowed
  pub is : allowed.checksum ≡ Some sum

pub data Origin (l : Scanning) (key : Key) : Type 0 where
  mild : (d : Code) → key.code ≡ Bans d → is_mild d ≡ true → Origin l key
  denied : (c : Crate) → key.code ≡ Bans code.BuildScriptNotAllowed
      → is_script_denied l.building l.graph l.reached (package_of l c) c ≡ true → Origin l key
  of_script : (c : Crate) (sum : Spanned (List ℕ)) → Contains l.graph.crates c
      → key.code ≡ Bans code.ChecksumMismatch → checks l c ≡ true → wanted_sum l.building c ≡ Some sum
      → key.entry ≡ sum.span → Origin l key
  of_file : (c : Crate) (d : Code) → key.code ≡ Bans d → is_of_files d ≡ true → walks l c ≡ true → Origin l key
  of_sum : (c : Crate) (sum : Spanned (List ℕ)) → key.code ≡ Bans code.ChecksumMismatch → walks l c ≡ true
      → IsPathSum l c sum → key.entry ≡ sum.span → Origin l key

pub path_written : (y : Bypass) (path : List ℕ) (a : AllowedPath) → path_of y path ≡ Some a → Contains y.allow a
unfolding path_of
path_written y path a found = found_member (λ x. allows x path) y.allow a found

same_sum : (one other : Spanned (List ℕ)) → BySum one ≡ BySum other → one ≡ other
same_sum one other same = cc same

-- ---- lists of keys

module _ (l : Scanning) where
  abbrev Come : List Key → Type 0
  Come keys = AllByRecursion (Origin l) keys

  mild_crate : (d : Code) (place : ℕ) (entry : Span) → is_mild d ≡ true → Origin l (crate_key d place entry)
  unfolding key_of
  mild_crate d place entry is = mild d refl is

  mild_path : (d : Code) (place : ℕ) (entry : Span) (shown : List ℕ) → is_mild d ≡ true
      → Origin l (path_key d place entry shown)
  unfolding path_key key_of
  mild_path d place entry shown is = mild d refl is

  mild_unused : (entry : Span) → Origin l (unused_key code.UnmatchedBypass entry)
  unfolding key_of
  mild_unused entry = mild code.UnmatchedBypass refl refl

  all_of_map : {X : Type 0} (f : X → Key) (xs : List X) → ((x : X) → Origin l (f x)) → Come (map f xs)
  all_of_map f xs each = all_mapped (Origin l) f xs (all_from_members (λ x. Origin l (f x)) xs (λ x is. each x))

  all_of_flat : {X : Type 0} (f : X → List Key) (xs : List X) → ((x : X) → Come (f x)) → Come (flat_map f xs)
  all_of_flat f xs each = all_flat (λ x. Come (f x)) (Origin l) f (λ x all. all) xs
      (all_from_members (λ x. Come (f x)) xs (λ x is. each x))

  all_where : (b : Bool) (these those : List Key) → (b ≡ true → Come these) → Come those
      → Come (if b then these else those)
  all_where true these those one other = one refl
  all_where false these those one other = other

  all_option : {X : Type 0} (f : X → List Key) (o : Option X) → ((x : X) → o ≡ Some x → Come (f x))
      → Come (option_map_or f o [])
  all_option f None each = tt
  all_option f (Some x) each = each x refl

  -- ---- scripts

  module _ (c : Crate) (known : Contains l.graph.crates c) where
    right_come : (span : Span) → Come (right_script_keys l c span)
    unfolding right_script_keys
    right_come span = (
      mild_path code.ChecksumMatch c.place span (script_shown (package_of l c)) refl,
      all_of_map (λ (w : policy.SpannedText). crate_key code.UnknownFeature c.place w.span)
          (required_unknown l.building c)
          (λ w. mild_crate code.UnknownFeature c.place w.span refl),
    )

    enabled_come : (o : Option Bypass) (enabled : List policy.SpannedText)
        → Come (features_enabled_keys c.place o enabled)
    enabled_come None enabled = tt
    enabled_come (Some y) [] = tt
    enabled_come (Some y) (w ∷ ws) = (mild_crate code.FeaturesEnabled c.place (bypass_span y) refl, tt)

    mismatch_comes : checks l c ≡ true → (sum : Spanned (List ℕ)) → wanted_sum l.building c ≡ Some sum
        → Origin l (path_key code.ChecksumMismatch c.place sum.span (script_shown (package_of l c)))
    unfolding path_key key_of
    mismatch_comes checked sum wanted = of_script c sum known refl checked wanted refl

    sum_come : checks l c ≡ true → (sum : Spanned (List ℕ)) → wanted_sum l.building c ≡ Some sum
        → Come (sum_keys l c sum)
    unfolding sum_keys
    sum_come checked sum wanted = all_where (is_script_right l.building (package_of l c) c)
        (right_script_keys l c sum.span
        ++ features_enabled_keys c.place (used l.building c) (required_enabled l.building c))
        (path_key code.ChecksumMismatch c.place sum.span (script_shown (package_of l c)) ∷ [])
        (λ right. all_append (Origin l) (right_script_keys l c sum.span)
        (features_enabled_keys c.place (used l.building c) (required_enabled l.building c)) (right_come sum.span)
        (enabled_come (used l.building c) (required_enabled l.building c)))
        (mismatch_comes checked sum wanted, tt)

    script_come : Come (script_keys l c)
    unfolding script_keys
    script_come = all_where (checks l c) (option_map_or (sum_keys l c) (wanted_sum l.building c) []) []
        (λ checked. all_option (sum_keys l c) (wanted_sum l.building c) (sum_come checked)) tt

    denied_comes : is_script_denied l.building l.graph l.reached (package_of l c) c ≡ true
        → Origin l (crate_key code.BuildScriptNotAllowed c.place no_span)
    unfolding key_of
    denied_comes is = denied c refl is

    denied_come : Come (denied_script_keys l c)
    unfolding denied_script_keys
    denied_come = all_where (is_script_denied l.building l.graph l.reached (package_of l c) c)
        (crate_key code.BuildScriptNotAllowed c.place no_span ∷ []) [] (λ is. (denied_comes is, tt)) tt

    -- ---- files

    module _ (walked : walks l c ≡ true) where
      file_comes : (d : Code) (entry : Span) (shown : List ℕ) → is_of_files d ≡ true
          → Origin l (path_key d c.place entry shown)
      unfolding path_key key_of
      file_comes d entry shown mine = of_file c d refl mine walked

      sum_comes : (sum : Spanned (List ℕ)) (shown : List ℕ) → IsPathSum l c sum
          → Origin l (path_key code.ChecksumMismatch c.place sum.span shown)
      unfolding path_key key_of
      sum_comes sum shown is = of_sum c sum refl walked is refl

      kind_come : (shown : List ℕ) (kind : Option ExecutableKind) → Come (class_keys c.place shown (class_of_kind kind))
      kind_come shown None = tt
      kind_come shown (Some (Native kind)) = (file_comes code.DetectedExecutable no_span shown refl, tt)
      kind_come shown (Some (Interpreted name)) = (file_comes code.DetectedExecutableScript no_span shown refl, tt)

      header_come : (shown : List ℕ) (found : Found) → Come (class_keys c.place shown (class_by_header found))
      header_come shown Unasked = tt
      header_come shown (Sum sum) = tt
      header_come shown (Kind kind) = kind_come shown kind
      header_come shown (Failed failure) = (file_comes code.UnableToCheckPath no_span shown refl, tt)

      sums_come : (b : Bool) (sum : Spanned (List ℕ)) (shown : List ℕ) → IsPathSum l c sum
          → Come (class_keys c.place shown (if b then ChecksumMatch sum.span else ChecksumMismatch sum.span))
      sums_come true sum shown is = (mild_path code.ChecksumMatch c.place sum.span shown refl, tt)
      sums_come false sum shown is = (sum_comes sum shown is, tt)

      class_come : (step : Step) (found : Found) (shown : List ℕ)
          → ((sum : Spanned (List ℕ)) → step ≡ BySum sum → IsPathSum l c sum)
          → Come (class_keys c.place shown (class_by step found))
      class_come (ByPath span) found shown sums = (mild_path code.PathBypassed c.place span shown refl, tt)
      class_come ByGlob found shown sums = (mild_path code.PathBypassedByGlob c.place no_span shown refl, tt)
      class_come (BySum sum) found shown sums = sums_come (has_sum sum.value found) sum shown (sums sum refl)
      class_come ByExtension found shown sums = (file_comes code.DeniedByExtension no_span shown refl, tt)
      class_come ByHeader found shown sums = header_come shown found

      -- a checksum decides only where a path has one
      by_allowed : (y : Bypass) (path : List ℕ) (a : AllowedPath) (by_glob : Bool) (sum : Spanned (List ℕ))
          → used l.building c ≡ Some y → path_of y path ≡ Some a → (o : Option (Spanned (List ℕ))) → a.checksum ≡ o
          → step_allowed a by_glob o ≡ BySum sum → IsPathSum l c sum
      by_allowed y path a by_glob sum is_used found None at is = absurd (cc is)
      by_allowed y path a true sum is_used found (Some other) at is = absurd (cc is)
      by_allowed y path a false sum is_used found (Some other) at is = record {
        bypass = y;
        is_used = is_used;
        allowed = a;
        written = path_written y path a found;
        is = at ∙ ap (λ (s : Spanned (List ℕ)). Some s) (same_sum other sum is);
      }

      by_path : (y : Bypass) (path : List ℕ) (o : Option AllowedPath) (by_glob by_extension : Bool)
          (sum : Spanned (List ℕ)) → used l.building c ≡ Some y → path_of y path ≡ o
          → step_by o by_glob by_extension ≡ BySum sum → IsPathSum l c sum
      by_path y path None true by_extension sum is_used found is = absurd (cc is)
      by_path y path None false true sum is_used found is = absurd (cc is)
      by_path y path None false false sum is_used found is = absurd (cc is)
      by_path y path (Some a) by_glob by_extension sum is_used found is =
          by_allowed y path a by_glob sum is_used found a.checksum refl is

      by_used : (o : Option Bypass) (path : List ℕ) (by_glob by_extension : Bool) (sum : Spanned (List ℕ))
          → used l.building c ≡ o → step_by (path_of_used o path) by_glob by_extension ≡ BySum sum → IsPathSum l c sum
      by_used None path true by_extension sum is_used is = absurd (cc is)
      by_used None path false true sum is_used is = absurd (cc is)
      by_used None path false false sum is_used is = absurd (cc is)
      by_used (Some y) path by_glob by_extension sum is_used is =
          by_path y path (path_of y path) by_glob by_extension sum is_used refl is

      step_sum : (path : List ℕ) (fits : List ℕ → Bool) (sum : Spanned (List ℕ))
          → step_of l.building (used l.building c) path fits ≡ BySum sum → IsPathSum l c sum
      unfolding step_of
      step_sum path fits sum is = by_used (used l.building c) path (fits_own fits (used l.building c))
          (fits_script fits l.building) sum refl is

      file_come : (file : PackageFile) → Come (file_keys l c file)
      unfolding file_keys class_of
      file_come file = class_come (step_of l.building (used l.building c) file.path (is_decided_by file))
          file.seen.found file.seen.shown (step_sum file.path (is_decided_by file))

      folder_comes : (seen : Seen) → Origin l (folder_key c.place seen)
      folder_comes seen = file_comes code.UnableToCheckPath no_span seen.shown refl

      unmatched_come : (y : Bypass) → Come (unmatched_keys l c y)
      unfolding unmatched_keys unmatched_path_keys unmatched_glob_keys
      unmatched_come y = all_append (Origin l) (unmatched_path_keys (package_of l c) c.place y)
          (unmatched_glob_keys (package_of l c) c.place y)
          (all_of_map (λ (a : AllowedPath). crate_key code.UnmatchedPathBypass c.place (path_span a)) _
          (λ a. mild_crate code.UnmatchedPathBypass c.place (path_span a) refl))
          (all_of_map (λ (w : policy.SpannedText). crate_key code.UnmatchedGlob c.place w.span) _
          (λ w. mild_crate code.UnmatchedGlob c.place w.span refl))

      walked_come : Come (walked_keys l c)
      unfolding walked_keys
      walked_come = all_append (Origin l) (map (folder_key c.place) (package_of l c).unlisted) _
          (all_of_map (folder_key c.place) (package_of l c).unlisted folder_comes)
          (all_append (Origin l) (flat_map (file_keys l c) (package_of l c).files) _
          (all_of_flat (file_keys l c) (package_of l c).files file_come)
          (all_option (unmatched_keys l c) (used l.building c) (λ y is. unmatched_come y)))

    package_come : Come (package_keys l c)
    unfolding package_keys
    package_come = all_append (Origin l) (script_keys l c) _ script_come
        (all_append (Origin l) (denied_script_keys l c) _ denied_come
        (all_where (walks l c) (walked_keys l c) [] walked_come tt))

  -- ---- all

  bypasses_come : Come (unmatched_bypass_keys l)
  unfolding unmatched_bypass_keys
  bypasses_come = all_of_map (λ (y : Bypass). unused_key code.UnmatchedBypass (bypass_span y)) _
      (λ y. mild_unused (bypass_span y))

  key_comes : (key : Key) → Contains (build_keys l) key → Origin l key
  key_comes key at = elim (Contains-append_cases (flat_map (package_keys l) l.graph.crates) (unmatched_bypass_keys l)
      key at) as (λ _. Origin l key) [
        | inl of_crates ↦
            let from = Contains-from_flat_map (package_keys l) l.graph.crates key of_crates in
            at_member (Origin l) (package_keys l from.from) key (package_come from.from from.member) from.of
        | inr of_bypasses ↦ at_member (Origin l) (unmatched_bypass_keys l) key bypasses_come of_bypasses
      ]

-- the origin of a key in circumstances
pub record OriginIn (c : Circumstances) (facts : Facts) (key : Key) : Type 0 where
  pub building : Building
  pub is_said : c.building ≡ Some building
  pub origin : Origin (scanning c facts building) key

pub origin_of : (c : Circumstances) (facts : Facts) (key : Key) → Contains (build_keys_in c facts) key
    → OriginIn c facts key
origin_of c facts key is = by c.building refl is
  where
    by : (o : Option Building) → c.building ≡ o
        → Contains (option_map_or (λ b. build_keys (scanning c facts b)) o []) key → OriginIn c facts key
    by None is_said is = absurd (no_member key is)
    by (Some b) is_said is =
        record { building = b; is_said = is_said; origin = key_comes (scanning c facts b) key is }
