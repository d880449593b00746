-- The entry that a key of builds shows has a span of what the policy says of builds.
use Rattle.std.proofs.Common.{◌≡◌, ◌∙◌, ◌++◌, ◌∷◌, ℕ, Bool, true, false, List, [], Option, None, Some, ap, inl, inr}
use Rattle.std.proofs.Common.{not, refl, subst, sym}
use Rattle.std.specs.Prelude.{Contains, filter, is_some, map, option_and_then, if◌then◌else◌}
use Rattle.std.specs.List.{AllByRecursion, flat_map, list_any}
use Rattle.std.specs.Option.{option_map_or}
use Rattle.std.proofs.lemmas.Bool.{false≢true}
use Rattle.std.proofs.lemmas.List.Elements.{Contains-append_cases, Contains-append_left, Contains-append_right}
use Rattle.deny_base_lists.proofs.Each.{all_append, all_flat, all_mapped, all_from_members}
use Rattle.deny_base_lists.proofs.Members.{Contains-first, Contains-flat_map, Contains-from_flat_map, Contains-rest}
use Rattle.deny_base_lists.proofs.Members.{at_member, contains_map, filtered, no_member}
use Rattle.deny_base.specs.Code.{bans_have_entry}
use Rattle.deny_base.specs.declared.code.Code.{Code}
use Rattle.deny_base.specs.declared.code.Code.TheVariants as code
use Rattle.deny_base.specs.declared.code.DiagnosticCode.TheVariants.{Bans}
use Rattle.deny_base.specs.declared.key.Key.{Key}
use Rattle.deny_base.specs.declared.span.Span.{Span}
use Rattle.deny_base.specs.declared.span.Spanned.{Spanned}
use Rattle.deny_spec.specs.Building.{AllowedPath, Building, Bypass, ScriptGlob}
use Rattle.deny_spec.specs.declared.package.ExecutableKind.{ExecutableKind}
use Rattle.deny_spec.specs.declared.package.ExecutableKind.TheVariants.{Interpreted, Native}
use Rattle.deny_spec.specs.declared.package.Found.{Found}
use Rattle.deny_spec.specs.declared.package.Found.TheVariants.{Failed, Kind, Sum, Unasked}
use Rattle.deny_spec.specs.declared.package.PackageFile.{PackageFile}
use Rattle.deny_spec.specs.Graph.{Crate}
use Rattle.deny_spec.specs.Keys.{crate_key, key_of, no_span, unused_key}
use Rattle.deny_spec.specs.Policy as policy
use Rattle.deny_spec_report.specs.BuildScripts.{bypass_span, has_sum, is_script_denied, is_script_right}
use Rattle.deny_spec_report.specs.BuildScripts.{required_enabled}
use Rattle.deny_spec_report.specs.BuildScripts.{required_of, required_unknown, script_of, used, wanted_sum}
use Rattle.deny_spec_report.specs.Circumstances.{Circumstances}
use Rattle.deny_spec_report.specs.Facts.{Facts}
use Rattle.deny_spec_report.specs.Features.{has_feature}
use Rattle.deny_spec_report.specs.PackageFiles.{ByExtension, ByGlob, ByHeader, ByPath, BySum, ChecksumMatch}
use Rattle.deny_spec_report.specs.PackageFiles.{ChecksumMismatch}
use Rattle.deny_spec_report.specs.PackageFiles.{Step, class_by, class_by_header, class_of, class_of_kind, fits_own}
use Rattle.deny_spec_report.specs.PackageFiles.{fits_script, hits_glob, hits_path, is_decided_by, path_of, path_of_used}
use Rattle.deny_spec_report.specs.PackageFiles.{path_span, step_allowed, step_by, step_of}
use Rattle.deny_spec_report.specs.Packages.{Scanning, build_keys, build_keys_in, checks, class_keys, denied_script_keys}
use Rattle.deny_spec_report.specs.Packages.{deprecated_key, deprecated_keys, deprecated_keys_in, features_enabled_keys}
use Rattle.deny_spec_report.specs.Packages.{file_keys, folder_key, is_used, scanning, package_keys, package_of}
use Rattle.deny_spec_report.specs.Packages.{path_key}
use Rattle.deny_spec_report.specs.Packages.{right_script_keys, script_keys, script_shown, sum_keys}
use Rattle.deny_spec_report.specs.Packages.{unmatched_bypass_keys}
use Rattle.deny_spec_report.specs.Packages.{unmatched_glob_keys, unmatched_keys, unmatched_path_keys, walked_keys}
use Rattle.deny_spec_report.specs.Packages.{walks}
use Rattle.deny_spec_removal.proofs.Asking.{used_member}
use Rattle.deny_gate.specs.private.Labels.{build_spans, building_spans, bypass_spans, older_span, path_spans}
use Rattle.deny_gate.specs.private.Labels.{sum_span}
use Rattle.deny_gate.specs.private.Labels.{written_globs}
use Rattle.deny_gate.proofs.BuildOrigins.{path_written}

-- ---- the spans of a policy

module _ (b : Building) where
  pub of_bypass : (y : Bypass) (r : Span) → Contains b.bypass y → Contains (bypass_spans y) r
      → Contains (building_spans b) r
  unfolding building_spans
  of_bypass y r written at = Contains-append_left (flat_map bypass_spans b.bypass) _ r
      (Contains-flat_map bypass_spans b.bypass y r written at)

  pub of_extension : (e : ScriptGlob) → Contains (written_globs b) e → Contains (building_spans b) e.span
  unfolding building_spans
  of_extension e at = Contains-append_right (flat_map bypass_spans b.bypass) _ e.span
      (Contains-append_left (map (λ e. e.span) (written_globs b)) (older_span b.older_key) e.span
      (contains_map (λ (e : ScriptGlob). e.span) (written_globs b) e at))

  of_older : (r : Span) → b.older_key ≡ Some r → Contains (building_spans b) r
  unfolding building_spans
  of_older r is = Contains-append_right (flat_map bypass_spans b.bypass) _ r
      (Contains-append_right (map (λ e. e.span) (written_globs b)) (older_span b.older_key) r
      (subst (λ (o : Option Span). Contains (older_span o) r) (sym is) (Contains-first r [])))

module _ (y : Bypass) where
  abbrev features : List Span
  features = map (λ w. w.span) y.required

  abbrev globs : List Span
  globs = map (λ w. w.span) y.globs

  abbrev paths : List Span
  paths = flat_map path_spans y.allow

  name_there : Contains (bypass_spans y) (bypass_span y)
  unfolding bypass_spans
  name_there = Contains-first (bypass_span y) (sum_span y.script ++ (features ++ (globs ++ paths)))

  behind : (r : Span) → Contains (sum_span y.script ++ (features ++ (globs ++ paths))) r → Contains (bypass_spans y) r
  unfolding bypass_spans
  behind r at = Contains-rest (bypass_span y) (sum_span y.script ++ (features ++ (globs ++ paths))) r at

  script_there : (sum : Spanned (List ℕ)) → y.script ≡ Some sum → Contains (bypass_spans y) sum.span
  script_there sum is = behind sum.span (Contains-append_left (sum_span y.script) _ sum.span
      (subst (λ (o : Option (Spanned (List ℕ))). Contains (sum_span o) sum.span) (sym is)
      (Contains-first sum.span [])))

  pub feature_there : (w : policy.SpannedText) → Contains y.required w → Contains (bypass_spans y) w.span
  feature_there w at = behind w.span (Contains-append_right (sum_span y.script) _ w.span
      (Contains-append_left features _ w.span (contains_map (λ (w : policy.SpannedText). w.span) y.required w at)))

  pub glob_there : (w : policy.SpannedText) → Contains y.globs w → Contains (bypass_spans y) w.span
  glob_there w at = behind w.span (Contains-append_right (sum_span y.script) _ w.span
      (Contains-append_right features _ w.span
      (Contains-append_left globs paths w.span (contains_map (λ (w : policy.SpannedText). w.span) y.globs w at))))

  of_path : (a : AllowedPath) (r : Span) → Contains y.allow a → Contains (path_spans a) r
      → Contains (bypass_spans y) r
  of_path a r written at = behind r (Contains-append_right (sum_span y.script) _ r
      (Contains-append_right features _ r (Contains-append_right globs paths r
      (Contains-flat_map path_spans y.allow a r written at))))

  path_there : (a : AllowedPath) → Contains y.allow a → Contains (bypass_spans y) (path_span a)
  unfolding path_spans
  path_there a written = of_path a (path_span a) written (Contains-first (path_span a) (sum_span a.checksum))

  sum_there : (a : AllowedPath) (sum : Spanned (List ℕ)) → Contains y.allow a → a.checksum ≡ Some sum
      → Contains (bypass_spans y) sum.span
  unfolding path_spans
  sum_there a sum written is = of_path a sum.span written (Contains-rest (path_span a) (sum_span a.checksum) sum.span
      (subst (λ (o : Option (Spanned (List ℕ))). Contains (sum_span o) sum.span) (sym is)
      (Contains-first sum.span [])))

-- ---- what a step decides by

-- a span is that of an allowed path in the bypass of a crate, or of its checksum
record IsPathAt (l : Scanning) (c : Crate) (span : Span) : Type 0 where
  bypass : Bypass
  is_used : used l.building c ≡ Some bypass
  within : Contains (bypass_spans bypass) span

abbrev spans_of_step : Step → Option Span
spans_of_step (ByPath span) = Some span
spans_of_step ByGlob = None
spans_of_step (BySum sum) = Some sum.span
spans_of_step ByExtension = None
spans_of_step ByHeader = None

module _ (l : Scanning) (c : Crate) where
  by_allowed : (y : Bypass) (a : AllowedPath) (by_glob : Bool) (span : Span) → used l.building c ≡ Some y
      → Contains y.allow a → (o : Option (Spanned (List ℕ))) → a.checksum ≡ o
      → spans_of_step (step_allowed a by_glob o) ≡ Some span → IsPathAt l c span
  by_allowed y a by_glob span is_used written None at is = record {
    bypass = y;
    is_used = is_used;
    within = subst (Contains (bypass_spans y)) (cc is) (path_there y a written);
  }
  by_allowed y a true span is_used written (Some sum) at is = absurd (cc is)
  by_allowed y a false span is_used written (Some sum) at is = record {
    bypass = y;
    is_used = is_used;
    within = subst (Contains (bypass_spans y)) (cc is) (sum_there y a sum written at);
  }

  by_path : (y : Bypass) (path : List ℕ) (o : Option AllowedPath) (by_glob by_extension : Bool) (span : Span)
      → used l.building c ≡ Some y → path_of y path ≡ o
      → spans_of_step (step_by o by_glob by_extension) ≡ Some span → IsPathAt l c span
  by_path y path None true by_extension span is_used found is = absurd (cc is)
  by_path y path None false true span is_used found is = absurd (cc is)
  by_path y path None false false span is_used found is = absurd (cc is)
  by_path y path (Some a) by_glob by_extension span is_used found is =
      by_allowed y a by_glob span is_used (path_written y path a found) a.checksum refl is

  by_used : (o : Option Bypass) (path : List ℕ) (by_glob by_extension : Bool) (span : Span) → used l.building c ≡ o
      → spans_of_step (step_by (path_of_used o path) by_glob by_extension) ≡ Some span → IsPathAt l c span
  by_used None path true by_extension span is_used is = absurd (cc is)
  by_used None path false true span is_used is = absurd (cc is)
  by_used None path false false span is_used is = absurd (cc is)
  by_used (Some y) path by_glob by_extension span is_used is =
      by_path y path (path_of y path) by_glob by_extension span is_used refl is

  step_path : (path : List ℕ) (fits : List ℕ → Bool) (span : Span)
      → spans_of_step (step_of l.building (used l.building c) path fits) ≡ Some span → IsPathAt l c span
  unfolding step_of
  step_path path fits span is = by_used (used l.building c) path (fits_own fits (used l.building c))
      (fits_script fits l.building) span refl is

-- ---- lists of keys

pub sum_if : (b : Bool) (o : Option Bypass) (sum : Spanned (List ℕ))
    → (if b then option_and_then (λ y. y.script) o else None) ≡ Some sum
    → (y : Bypass) × (o ≡ Some y) × (y.script ≡ Some sum)
sum_if true None sum is = absurd (cc is)
sum_if true (Some y) sum is = (y, refl, is)
sum_if false o sum is = absurd (cc is)

same_code : (d e : Code) → Bans d ≡ Bans e → d ≡ e
same_code d e same = cc same

-- a key whose code shows an entry shows one of the policy's spans
IsShown : (l : Scanning) → Key → Type 0
IsShown l key = (d : Code) → key.code ≡ Bans d → bans_have_entry d ≡ true
    → Contains (building_spans l.building) key.entry

module _ (l : Scanning) where
  abbrev Show : List Key → Type 0
  Show keys = AllByRecursion (IsShown l) keys

  abbrev Known : Span → Type 0
  Known span = Contains (building_spans l.building) span

  crate_shown : (d : Code) (place : ℕ) (entry : Span) → Known entry → IsShown l (crate_key d place entry)
  unfolding IsShown key_of
  crate_shown d place entry known e is has = known

  path_shown : (d : Code) (place : ℕ) (entry : Span) (shown : List ℕ) → Known entry
      → IsShown l (path_key d place entry shown)
  unfolding IsShown path_key key_of
  path_shown d place entry shown known e is has = known

  unused_shown : (entry : Span) → Known entry → IsShown l (unused_key code.UnmatchedBypass entry)
  unfolding IsShown key_of
  unused_shown entry known e is has = known

  crate_bare : (d : Code) (place : ℕ) → bans_have_entry d ≡ false → IsShown l (crate_key d place no_span)
  unfolding IsShown key_of
  crate_bare d place none e is has = absurd (false≢true (sym none ∙ (ap bans_have_entry (same_code d e is) ∙ has)))

  path_bare : (d : Code) (place : ℕ) (shown : List ℕ) → bans_have_entry d ≡ false
      → IsShown l (path_key d place no_span shown)
  unfolding IsShown path_key key_of
  path_bare d place shown none e is has =
      absurd (false≢true (sym none ∙ (ap bans_have_entry (same_code d e is) ∙ has)))

  all_of_map : {X : Type 0} (f : X → Key) (xs : List X) → ((x : X) → Contains xs x → IsShown l (f x)) → Show (map f xs)
  all_of_map f xs each = all_mapped (IsShown l) f xs (all_from_members (λ x. IsShown l (f x)) xs each)

  all_of_flat : {X : Type 0} (f : X → List Key) (xs : List X) → ((x : X) → Show (f x)) → Show (flat_map f xs)
  all_of_flat f xs each = all_flat (λ x. Show (f x)) (IsShown l) f (λ x all. all) xs
      (all_from_members (λ x. Show (f x)) xs (λ x is. each x))

  all_where : (b : Bool) (these those : List Key) → Show these → Show those → Show (if b then these else those)
  all_where true these those one other = one
  all_where false these those one other = other

  all_option : {X : Type 0} (f : X → List Key) (o : Option X) → ((x : X) → o ≡ Some x → Show (f x))
      → Show (option_map_or f o [])
  all_option f None each = tt
  all_option f (Some x) each = each x refl

  module _ (c : Crate) where
    of_used : (y : Bypass) (r : Span) → used l.building c ≡ Some y → Contains (bypass_spans y) r → Known r
    of_used y r is at = of_bypass l.building y r (used_member l.building c y is) at

    -- ---- scripts

    feature_in : (o : Option Bypass) (w : policy.SpannedText) → used l.building c ≡ o → Contains (required_of o) w
        → Known w.span
    feature_in None w is at = absurd (no_member w at)
    feature_in (Some y) w is at = of_used y w.span is (feature_there y w at)

    unknown_known : (w : policy.SpannedText) → Contains (required_unknown l.building c) w → Known w.span
    unfolding required_unknown
    unknown_known w at = feature_in (used l.building c) w refl
        (filtered (λ w. not (has_feature c w.value)) (required_of (used l.building c)) w at)

    right_show : (span : Span) → Known span → Show (right_script_keys l c span)
    unfolding right_script_keys
    right_show span known = (
      path_shown code.ChecksumMatch c.place span (script_shown (package_of l c)) known,
      all_of_map (λ (w : policy.SpannedText). crate_key code.UnknownFeature c.place w.span)
          (required_unknown l.building c)
          (λ w at. crate_shown code.UnknownFeature c.place w.span (unknown_known w at)),
    )

    enabled_show : (o : Option Bypass) (enabled : List policy.SpannedText) → used l.building c ≡ o
        → Show (features_enabled_keys c.place o enabled)
    enabled_show None enabled is = tt
    enabled_show (Some y) [] is = tt
    enabled_show (Some y) (w ∷ ws) is =
        (crate_shown code.FeaturesEnabled c.place (bypass_span y) (of_used y (bypass_span y) is (name_there y)), tt)

    wanted_known : (sum : Spanned (List ℕ)) → wanted_sum l.building c ≡ Some sum → Known sum.span
    unfolding wanted_sum
    wanted_known sum wanted =
        let of = sum_if (is_some (script_of c)) (used l.building c) sum wanted in
        of_used of.0 sum.span of.1 (script_there of.0 sum of.2)

    sum_show : (sum : Spanned (List ℕ)) → wanted_sum l.building c ≡ Some sum → Show (sum_keys l c sum)
    unfolding sum_keys
    sum_show sum wanted = all_where (is_script_right l.building (package_of l c) c)
        (right_script_keys l c sum.span
        ++ features_enabled_keys c.place (used l.building c) (required_enabled l.building c))
        (path_key code.ChecksumMismatch c.place sum.span (script_shown (package_of l c)) ∷ [])
        (all_append (IsShown l) (right_script_keys l c sum.span)
        (features_enabled_keys c.place (used l.building c) (required_enabled l.building c))
        (right_show sum.span (wanted_known sum wanted))
        (enabled_show (used l.building c) (required_enabled l.building c) refl)) (
          path_shown code.ChecksumMismatch c.place sum.span (script_shown (package_of l c)) (wanted_known sum wanted),
          tt,
        )

    script_show : Show (script_keys l c)
    unfolding script_keys
    script_show = all_where (checks l c) (option_map_or (sum_keys l c) (wanted_sum l.building c) []) []
        (all_option (sum_keys l c) (wanted_sum l.building c) sum_show) tt

    denied_show : Show (denied_script_keys l c)
    unfolding denied_script_keys
    denied_show = all_where (is_script_denied l.building l.graph l.reached (package_of l c) c)
        (crate_key code.BuildScriptNotAllowed c.place no_span ∷ []) []
        (crate_bare code.BuildScriptNotAllowed c.place refl, tt) tt

    -- ---- files

    kind_show : (shown : List ℕ) (kind : Option ExecutableKind) → Show (class_keys c.place shown (class_of_kind kind))
    kind_show shown None = tt
    kind_show shown (Some (Native kind)) = (path_bare code.DetectedExecutable c.place shown refl, tt)
    kind_show shown (Some (Interpreted name)) = (path_bare code.DetectedExecutableScript c.place shown refl, tt)

    header_show : (shown : List ℕ) (found : Found) → Show (class_keys c.place shown (class_by_header found))
    header_show shown Unasked = tt
    header_show shown (Sum sum) = tt
    header_show shown (Kind kind) = kind_show shown kind
    header_show shown (Failed failure) = (path_bare code.UnableToCheckPath c.place shown refl, tt)

    sums_show : (b : Bool) (span : Span) (shown : List ℕ) → Known span
        → Show (class_keys c.place shown (if b then ChecksumMatch span else ChecksumMismatch span))
    sums_show true span shown known = (path_shown code.ChecksumMatch c.place span shown known, tt)
    sums_show false span shown known = (path_shown code.ChecksumMismatch c.place span shown known, tt)

    class_show : (step : Step) (found : Found) (shown : List ℕ)
        → ((span : Span) → spans_of_step step ≡ Some span → Known span)
        → Show (class_keys c.place shown (class_by step found))
    class_show (ByPath span) found shown known =
        (path_shown code.PathBypassed c.place span shown (known span refl), tt)
    class_show ByGlob found shown known = (path_bare code.PathBypassedByGlob c.place shown refl, tt)
    class_show (BySum sum) found shown known = sums_show (has_sum sum.value found) sum.span shown (known sum.span refl)
    class_show ByExtension found shown known = (path_bare code.DeniedByExtension c.place shown refl, tt)
    class_show ByHeader found shown known = header_show shown found

    file_show : (file : PackageFile) → Show (file_keys l c file)
    unfolding file_keys class_of
    file_show file = class_show (step_of l.building (used l.building c) file.path (is_decided_by file))
        file.seen.found file.seen.shown (λ span is.
        let of = step_path l c file.path (is_decided_by file) span is in
        of_used of.bypass span of.is_used of.within)

    unmatched_show : (y : Bypass) → used l.building c ≡ Some y → Show (unmatched_keys l c y)
    unfolding unmatched_keys unmatched_path_keys unmatched_glob_keys
    unmatched_show y is = all_append (IsShown l) (unmatched_path_keys (package_of l c) c.place y)
        (unmatched_glob_keys (package_of l c) c.place y)
        (all_of_map (λ (a : AllowedPath). crate_key code.UnmatchedPathBypass c.place (path_span a))
        (filter (λ a. not (list_any (hits_path y a) (package_of l c).files)) y.allow)
        (λ a at. crate_shown code.UnmatchedPathBypass c.place (path_span a) (of_used y (path_span a) is
        (path_there y a (filtered (λ a. not (list_any (hits_path y a) (package_of l c).files)) y.allow a at)))))
        (all_of_map (λ (w : policy.SpannedText). crate_key code.UnmatchedGlob c.place w.span)
        (filter (λ w. not (list_any (hits_glob y w) (package_of l c).files)) y.globs)
        (λ w at. crate_shown code.UnmatchedGlob c.place w.span (of_used y w.span is
        (glob_there y w (filtered (λ w. not (list_any (hits_glob y w) (package_of l c).files)) y.globs w at)))))

    walked_show : Show (walked_keys l c)
    unfolding walked_keys
    walked_show = all_append (IsShown l) (map (folder_key c.place) (package_of l c).unlisted) _
        (all_of_map (folder_key c.place) (package_of l c).unlisted
        (λ seen at. path_bare code.UnableToCheckPath c.place seen.shown refl))
        (all_append (IsShown l) (flat_map (file_keys l c) (package_of l c).files) _
        (all_of_flat (file_keys l c) (package_of l c).files file_show)
        (all_option (unmatched_keys l c) (used l.building c) unmatched_show))

    package_show : Show (package_keys l c)
    unfolding package_keys
    package_show = all_append (IsShown l) (script_keys l c) _ script_show
        (all_append (IsShown l) (denied_script_keys l c) _ denied_show
        (all_where (walks l c) (walked_keys l c) [] walked_show tt))

  bypasses_show : Show (unmatched_bypass_keys l)
  unfolding unmatched_bypass_keys
  bypasses_show = all_of_map (λ (y : Bypass). unused_key code.UnmatchedBypass (bypass_span y))
      (filter (λ y. not (is_used l y)) l.building.bypass)
      (λ y at. unused_shown (bypass_span y) (of_bypass l.building y (bypass_span y)
      (filtered (λ y. not (is_used l y)) l.building.bypass y at) (name_there y)))

  key_shown : (key : Key) → Contains (build_keys l) key → IsShown l key
  key_shown key at = elim (Contains-append_cases (flat_map (package_keys l) l.graph.crates) (unmatched_bypass_keys l)
      key at) as (λ _. IsShown l key) [
        | inl of_crates ↦
            let from = Contains-from_flat_map (package_keys l) l.graph.crates key of_crates in
            at_member (IsShown l) (package_keys l from.from) key (package_show from.from) from.of
        | inr of_bypasses ↦ at_member (IsShown l) (unmatched_bypass_keys l) key bypasses_show of_bypasses
      ]

-- ---- keys of builds in circumstances

pub entry_known : (c : Circumstances) (facts : Facts) (d : Code) (key : Key) → Contains (build_keys_in c facts) key
    → key.code ≡ Bans d → bans_have_entry d ≡ true → Contains (build_spans c.building) key.entry
unfolding IsShown
entry_known c facts d key is coded has = by c.building is
  where
    by : (o : Option Building) → Contains (option_map_or (λ b. build_keys (scanning c facts b)) o []) key
        → Contains (build_spans o) key.entry
    by None is = absurd (no_member key is)
    by (Some b) is = key_shown (scanning c facts b) key is d coded has

deprecated_in : (b : Building) (o : Option Span) (key : Key) → b.older_key ≡ o
    → Contains (option_map_or (λ span. deprecated_key span ∷ []) o []) key → Contains (building_spans b) key.entry
unfolding deprecated_key
deprecated_in b None key is at = absurd (no_member key at)
deprecated_in b (Some span) key is at =
    at_member (λ k. Contains (building_spans b) k.entry) (deprecated_key span ∷ []) key (of_older b span is, tt) at

pub older_known : (c : Circumstances) (key : Key) → Contains (deprecated_keys_in c) key
    → Contains (build_spans c.building) key.entry
unfolding deprecated_keys
older_known c key is = by c.building is
  where
    by : (o : Option Building) → Contains (option_map_or deprecated_keys o []) key → Contains (build_spans o) key.entry
    by None is = absurd (no_member key is)
    by (Some b) is = deprecated_in b b.older_key key refl is
