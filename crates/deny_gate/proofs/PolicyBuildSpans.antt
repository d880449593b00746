-- The spans of what a policy says of builds are those of its table, and so lie in the text where those do; the spans
-- of built-in globs lie in their file.
use Rattle.std.proofs.Common.{◌≡◌, ◌∙◌, ◌++◌, ℕ, true, false, List, [], ◌∷◌, Option, None, Some, ap, map}
use Rattle.std.proofs.Common.{not, refl}
use Rattle.std.specs.Prelude.{Contains, IfSome, filter, option_map}
use Rattle.std.specs.List.{AllByRecursion, AllZip, flat_map}
use Rattle.deny_base_lists.proofs.Each.{all_append}
use Rattle.deny_base_lists.proofs.Members.{Contains-by_cases, Contains-first, Contains-rest, filtered}
use Rattle.deny_base_lists.proofs.Members.{from_contains_map}
use Rattle.deny_base_lists.proofs.Members.{no_member, passes_filter}
use Rattle.deny_base.specs.declared.span.Span.{Span}
use Rattle.deny_base.specs.declared.span.Spanned.{Spanned}
use Rattle.deny_cfg_build.specs.Build.{IsBypassOf, IsReadBuild, listed}
use Rattle.deny_cfg_build.specs.BuildingView.{building_view, builtin_file_in, bypass_view, checksum_view}
use Rattle.deny_cfg_build.specs.BuildingView.{globs_file}
use Rattle.deny_cfg_build.specs.BuildingView.{globs_view, is_built_in, path_view, script_glob_view, words_of}
use Rattle.deny_cfg_build.specs.Builtin.{builtin_file}
use Rattle.deny_cfg_build.specs.declared.glob_set.ValidGlobSet.{ValidGlobSet}
use Rattle.deny_cfg_build.specs.declared.pattern.GlobPattern.{GlobPattern}
use Rattle.deny_cfg_build.specs.declared.pattern.GlobPattern.TheVariants.{Builtin, User}
use Rattle.deny_cfg_build.specs.declared.valid.ValidBuildConfig.{ValidBuildConfig}
use Rattle.deny_cfg_build.specs.declared.valid.ValidBypass.{ValidBypass}
use Rattle.deny_spec.specs.Building.{ScriptGlob}
use Rattle.deny_cfg_tables.specs.declared.bans.cfg.bypass.Bypass as table
use Rattle.deny_cfg_tables.specs.declared.bans.cfg.bypass.BypassPath.{BypassPath}
use Rattle.deny_cfg_tables.specs.declared.bans.cfg.checksum.Checksum.{Checksum}
use Rattle.deny_spec.specs.Policy.{SpannedText}
use Rattle.deny_cfg.specs.LabelSpans.{of_some, own_span, pattern_span, pattern_spans, word_spans}
use Rattle.deny_cfg.specs.LabelSpans as written
use Rattle.deny_cfg.proofs.Among.{lie_prefix, lie_rest}
use Rattle.deny_cfg.proofs.BuiltLaws.{IsLocated, patterns_located}
use Rattle.deny_cfg.proofs.LabelLaws.{Lie}
use Rattle.deny_toml.specs.Spans.{IsSpan}
use Rattle.deny_gate.specs.private.Labels.{build_spans, building_spans, built_in_globs, built_in_spans}
use Rattle.deny_gate.specs.private.Labels.{bypass_spans}
use Rattle.deny_gate.specs.private.Labels.{older_span}
use Rattle.deny_gate.specs.private.Labels.{path_spans, sum_span, written_globs}
use Rattle.deny_gate.proofs.BypassHitsApart.{HasUsers, users_of}

module _ (P : Span → Type 0) where
  sum_lies : (o : Option (Spanned Checksum)) → Lie P (of_some own_span o)
      → Lie P (sum_span (option_map checksum_view o))
  sum_lies None lie = tt
  sum_lies (Some sum) lie = lie

  features_lie : (ws : List SpannedText) → Lie P (word_spans ws) → Lie P (map (λ (w : SpannedText). w.span) ws)
  features_lie [] lie = tt
  features_lie (w ∷ ws) lie = (lie.0, features_lie ws lie.1)

  patterns_lie : (ps : List GlobPattern) → ((p : GlobPattern) → Contains ps p → (w : SpannedText) × (p ≡ User w))
      → Lie P (flat_map pattern_span ps) → Lie P (map (λ (w : SpannedText). w.span) (map words_of ps))
  patterns_lie [] users lie = tt
  patterns_lie (User w ∷ ps) users lie =
      (lie.0, patterns_lie ps (λ p at. users p (Contains-rest (User w) ps p at)) lie.1)
  patterns_lie (Builtin glob ∷ ps) users lie =
      let of = users (Builtin glob) (Contains-first (Builtin glob) ps) in absurd (cc of.1)

  globs_lie : (o : Option ValidGlobSet) → HasUsers o → Lie P (of_some pattern_spans o)
      → Lie P (map (λ (w : SpannedText). w.span) (globs_view o))
  globs_lie None users lie = tt
  globs_lie (Some set) users lie = patterns_lie set.patterns users lie

  path_lies : (file : BypassPath) → Lie P (written.path_spans file) → Lie P (path_spans (path_view file))
  unfolding path_spans
  path_lies file lie = (lie.0, sum_lies file.checksum (lie_prefix P (of_some own_span file.checksum) [] lie.1))

  paths_lie : (files : List BypassPath) → Lie P (flat_map written.path_spans files)
      → Lie P (flat_map path_spans (map path_view files))
  paths_lie [] lie = tt
  paths_lie (file ∷ files) lie =
      let first = written.path_spans file in
      let others = flat_map written.path_spans files in
      all_append P (path_spans (path_view file)) (flat_map path_spans (map path_view files))
      (path_lies file (lie_prefix P first others lie)) (paths_lie files (lie_rest P first others lie))

  bypass_lies : (v : ValidBypass) → HasUsers v.allow_globs → Lie P (written.bypass_spans v)
      → Lie P (bypass_spans (bypass_view v))
  unfolding bypass_spans
  bypass_lies v users lie =
      let sums = of_some own_span v.build_script in
      let features = word_spans v.required_features in
      let globs = of_some pattern_spans v.allow_globs in
      let paths = flat_map written.path_spans v.allow in
      let last = of_some own_span v.expires in
      let from_features = lie_rest P sums (features ++ (globs ++ (paths ++ (last ++ [])))) lie.1 in
      let from_globs = lie_rest P features (globs ++ (paths ++ (last ++ []))) from_features in
      let from_paths = lie_rest P globs (paths ++ (last ++ [])) from_globs in (
        lie.0,
        all_append P (sum_span (option_map checksum_view v.build_script)) _
            (sum_lies v.build_script (lie_prefix P sums (features ++ (globs ++ (paths ++ (last ++ [])))) lie.1))
            (all_append P (map (λ (w : SpannedText). w.span) v.required_features) _
            (features_lie v.required_features (lie_prefix P features (globs ++ (paths ++ (last ++ []))) from_features))
            (all_append P (map (λ (w : SpannedText). w.span) (globs_view v.allow_globs))
            (flat_map path_spans (map path_view v.allow))
            (globs_lie v.allow_globs users (lie_prefix P globs (paths ++ (last ++ [])) from_globs))
            (paths_lie v.allow (lie_prefix P paths (last ++ []) from_paths)))),
      )

  bypasses_lie : (said : List table.Bypass) (vs : List ValidBypass) → AllZip IsBypassOf said vs
      → Lie P (flat_map written.bypass_spans vs) → Lie P (flat_map bypass_spans (map bypass_view vs))
  bypasses_lie [] [] zip lie = tt
  bypasses_lie [] (v ∷ vs) zip lie = absurd zip
  bypasses_lie (s ∷ said) [] zip lie = tt
  bypasses_lie (s ∷ said) (v ∷ vs) zip lie =
      let first = written.bypass_spans v in
      let others = flat_map written.bypass_spans vs in
      all_append P (bypass_spans (bypass_view v)) (flat_map bypass_spans (map bypass_view vs))
      (bypass_lies v (users_of s.allow_globs v.allow_globs zip.0.allow_globs) (lie_prefix P first others lie))
      (bypasses_lie said vs zip.1 (lie_rest P first others lie))

  -- the globs of scripts that the policy writes
  extensions_lie : (ps : List GlobPattern) → Lie P (flat_map pattern_span ps)
      → Lie P (map (λ (e : ScriptGlob). e.span) (filter (λ e. not e.built_in) (map script_glob_view ps)))
  extensions_lie [] lie = tt
  extensions_lie (User w ∷ ps) lie = (lie.0, extensions_lie ps lie.1)
  extensions_lie (Builtin glob ∷ ps) lie = extensions_lie ps lie

  older_lies : (o : Option Span) → Lie P (of_some (λ span. span ∷ []) o) → Lie P (older_span o)
  older_lies None lie = tt
  older_lies (Some span) lie = lie

  building_lies : (valid : ValidBuildConfig) → IsReadBuild valid → Lie P (written.build_spans valid)
      → Lie P (of_some (λ span. span ∷ []) valid.older_key) → Lie P (building_spans (building_view valid))
  unfolding building_spans
  building_lies valid read lie older =
      let extensions = pattern_spans valid.script_extensions in
      let bypasses = flat_map written.bypass_spans valid.bypass in
      all_append P (flat_map bypass_spans (map bypass_view valid.bypass)) _
      (bypasses_lie (listed read.build.bypass) valid.bypass read.made.bypass
      (lie_prefix P bypasses [] (lie_rest P extensions (bypasses ++ []) lie)))
      (all_append P (map (λ (e : ScriptGlob). e.span) (written_globs (building_view valid)))
      (older_span valid.older_key)
      (extensions_lie valid.script_extensions.patterns (lie_prefix P extensions (bypasses ++ []) lie))
      (older_lies valid.older_key older))

  pub builds_lie : (build : Option ValidBuildConfig) → IfSome build IsReadBuild
      → Lie P (of_some written.build_spans build)
      → Lie P (of_some (λ (b : ValidBuildConfig). of_some (λ span. span ∷ []) b.older_key) build)
      → Lie P (build_spans (option_map building_view build))
  builds_lie None read lie older = tt
  builds_lie (Some valid) read lie older = building_lies valid read lie older

-- ---- built-in globs

placed_in : (ps : List GlobPattern) → AllByRecursion IsLocated ps
    → Lie (IsSpan builtin_file.source)
    (map (λ (e : ScriptGlob). e.span) (filter (λ e. e.built_in) (map script_glob_view ps)))
placed_in [] all = tt
placed_in (User w ∷ ps) all = placed_in ps all.1
placed_in (Builtin glob ∷ ps) all = (all.0, placed_in ps all.1)

pub built_in_lie : (build : Option ValidBuildConfig) → IfSome build IsReadBuild
    → Lie (IsSpan builtin_file.source) (built_in_spans (option_map building_view build))
built_in_lie None read = tt
built_in_lie (Some valid) read = placed_in valid.script_extensions.patterns (patterns_located valid read)

-- where there is a built-in glob, their file has a number
has_file : (ps : List GlobPattern) (p : GlobPattern) → Contains ps p → is_built_in p ≡ true
    → (number : ℕ) × (builtin_file_in ps ≡ Some number)
has_file [] p at is = absurd (no_member p at)
has_file (Builtin glob ∷ ps) p at is = (glob.1, refl)
has_file (User w ∷ ps) p at is = Contains-by_cases (User w) ps p at
    (λ same. absurd (never (ap is_built_in same ∙ is)))
    (λ later. has_file ps p later is)
  where
    never : false ≡ true → ⊥
    never e = cc e

pub glob_numbered : (valid : ValidBuildConfig) (e : ScriptGlob) → Contains (built_in_globs (building_view valid)) e
    → (number : ℕ) × (globs_file valid ≡ Some number)
glob_numbered valid e at =
    let all = map script_glob_view valid.script_extensions.patterns in
    let from = from_contains_map script_glob_view valid.script_extensions.patterns e
    (filtered (λ (g : ScriptGlob). g.built_in) all e at) in
    has_file valid.script_extensions.patterns from.0 from.1
    (ap (λ (g : ScriptGlob). g.built_in) from.2 ∙ passes_filter (λ (g : ScriptGlob). g.built_in) all e at)
