-- The spans of the table `build` as the rules take it are among those of the written table.
use Rattle.std.proofs.Common.{◌≡◌, ◌++◌, ℕ, List, [], ◌∷◌, Option, None, Some, map, refl, ap, ◌∙◌}
use Rattle.std.specs.List.{AllZip, flat_map}
use Rattle.deny_base.specs.declared.span.Span.{Span}
use Rattle.deny_base.specs.declared.span.Spanned.{Spanned}
use Rattle.deny_cfg_build.specs.Build.{IsBuildOf, IsBypassOf, build_by, builtin_if, listed, number_of, of_scripts}
use Rattle.deny_cfg_build.specs.Builtin.{builtin_words}
use Rattle.deny_cfg_build.specs.Globs.{AreGlobsOf, IsSetOf, OfBoth, extension_text, own_text}
use Rattle.deny_cfg_build.specs.Globs.AreGlobsOf.{none, one_more, left_out}
use Rattle.deny_cfg_build.specs.declared.glob_set.ValidGlobSet.{ValidGlobSet}
use Rattle.deny_cfg_build.specs.declared.pattern.GlobPattern.{GlobPattern}
use Rattle.deny_cfg_build.specs.declared.pattern.GlobPattern.TheVariants.{Builtin, User}
use Rattle.deny_cfg_build.specs.declared.valid.ValidBuildConfig.{ValidBuildConfig}
use Rattle.deny_cfg_build.specs.declared.valid.ValidBypass.{ValidBypass}
use Rattle.deny_cfg_entries.specs.declared.package_spec.PackageSpec.{PackageSpec}
use Rattle.deny_globs.specs.Patterns.{Pattern}
use Rattle.deny_spec.specs.Policy.{SpannedText}
use Rattle.deny_cfg_tables.specs.declared.bans.cfg.build.BuildConfig.{BuildConfig}
use Rattle.deny_cfg_tables.specs.declared.bans.cfg.bypass.Bypass.{Bypass}
use Rattle.deny_cfg.proofs.Among.{Among, among_both, among_itself, among_joined, among_rest, among_same, among_then}
use Rattle.deny_cfg.proofs.BuildLabels.{besides}
use Rattle.deny_cfg.specs.LabelSpans.{build_spans, bypass_spans, joined, of_some, own_span, path_spans}
use Rattle.deny_cfg.specs.LabelSpans.{pattern_span, pattern_spans, spec_span, word_spans}
use Rattle.deny_cfg.specs.private.LabelSpans.{written_build_spans}
use Rattle.deny_cfg.specs.private.LabelSpans.{written_bypass_spans}

users_same : (words : List SpannedText) → flat_map pattern_span (map User words) ≡ word_spans words
users_same [] = refl
users_same (w ∷ ws) = ap (λ spans. w.span ∷ spans) (users_same ws)

-- the patterns of a set are some of those that it is read from
patterns_among : (text_of : GlobPattern → List ℕ) (wanted patterns : List GlobPattern) (globs : List Pattern)
    → AreGlobsOf text_of wanted patterns globs
    → Among (flat_map pattern_span patterns) (flat_map pattern_span wanted)
patterns_among text_of _ _ _ none = among_itself []
patterns_among text_of _ _ _ (one_more {wanted} {patterns} {globs} pattern glob is rest) =
    among_both (pattern_span pattern) (flat_map pattern_span patterns) (pattern_span pattern)
    (flat_map pattern_span wanted) (among_itself (pattern_span pattern))
    (patterns_among text_of wanted patterns globs rest)
patterns_among text_of _ _ _ (left_out {wanted} {patterns} {globs} pattern byte bad rest) =
    among_then (flat_map pattern_span patterns) (flat_map pattern_span wanted)
    (pattern_span pattern ++ flat_map pattern_span wanted) (patterns_among text_of wanted patterns globs rest)
    (among_rest (pattern_span pattern) (flat_map pattern_span wanted))

set_among : (text_of : GlobPattern → List ℕ) (words : List SpannedText) (valid : ValidGlobSet)
    → IsSetOf text_of (map User words) valid → Among (pattern_spans valid) (word_spans words)
set_among text_of words valid is =
    among_then (pattern_spans valid) (flat_map pattern_span (map User words)) (word_spans words)
    (patterns_among text_of (map User words) valid.patterns valid.set is)
    (among_same (flat_map pattern_span (map User words)) (word_spans words) (users_same words))

globs_among : (globs : Option (List SpannedText)) (valid : Option ValidGlobSet)
    → OfBoth (λ words. IsSetOf own_text (map User words)) globs valid
    → Among (of_some pattern_spans valid) (of_some word_spans globs)
globs_among None None is = among_itself []
globs_among None (Some valid) is = absurd is
globs_among (Some words) None is = absurd is
globs_among (Some words) (Some valid) is = set_among own_text words valid is

bypass_among : (bypass : Bypass) (valid : ValidBypass) → IsBypassOf bypass valid
    → Among (bypass_spans valid) (written_bypass_spans bypass)
bypass_among bypass valid is =
    among_both (spec_span valid.spec)
    (joined (of_some own_span valid.build_script ∷ word_spans valid.required_features
    ∷ of_some pattern_spans valid.allow_globs ∷ flat_map path_spans valid.allow
    ∷ of_some own_span valid.expires ∷ []))
    (spec_span bypass.spec) (besides bypass)
    (among_same (spec_span valid.spec) (spec_span bypass.spec) (ap spec_span is.spec))
    (among_joined
    (of_some own_span valid.build_script ∷ word_spans valid.required_features
    ∷ of_some pattern_spans valid.allow_globs ∷ flat_map path_spans valid.allow
    ∷ of_some own_span valid.expires ∷ [])
    (of_some own_span bypass.build_script ∷ word_spans bypass.required_features
    ∷ of_some word_spans bypass.allow_globs ∷ flat_map path_spans bypass.allow
    ∷ of_some own_span bypass.expires ∷ []) (
      among_same (of_some own_span valid.build_script) (of_some own_span bypass.build_script)
          (ap (of_some own_span) is.build_script),
      (
        among_same (word_spans valid.required_features) (word_spans bypass.required_features)
            (ap word_spans is.required_features),
        (
          globs_among bypass.allow_globs valid.allow_globs is.allow_globs,
          (
            among_same (flat_map path_spans valid.allow) (flat_map path_spans bypass.allow)
                (ap (flat_map path_spans) is.allow),
            (
              among_same (of_some own_span valid.expires) (of_some own_span bypass.expires)
                  (ap (of_some own_span) is.expires),
              tt,
            ),
          ),
        ),
      ),
    ))

bypasses_among : (entries : List Bypass) (valid : List ValidBypass) → AllZip IsBypassOf entries valid
    → Among (flat_map bypass_spans valid) (flat_map written_bypass_spans entries)
bypasses_among [] [] are = among_itself []
bypasses_among [] (v ∷ vs) are = absurd are
bypasses_among (b ∷ bs) [] are = absurd are
bypasses_among (b ∷ bs) (v ∷ vs) are =
    among_both (bypass_spans v) (flat_map bypass_spans vs) (written_bypass_spans b)
    (flat_map written_bypass_spans bs) (bypass_among b v are.0) (bypasses_among bs vs are.1)

listed_words : (words : Option (List SpannedText)) → word_spans (listed words) ≡ of_some word_spans words
listed_words None = refl
listed_words (Some words) = refl

listed_entries : (entries : Option (List Bypass))
    → flat_map written_bypass_spans (listed entries) ≡ of_some (flat_map written_bypass_spans) entries
listed_entries None = refl
listed_entries (Some entries) = refl

-- built-in globs are in another file
spans_none : (words : List SpannedText) (file : ℕ)
    → flat_map pattern_span (map (λ (word : SpannedText). Builtin (word, file)) words) ≡ []
spans_none [] file = refl
spans_none (w ∷ ws) file = spans_none ws file

builtin_none : (file : Option ℕ) → flat_map pattern_span (builtin_if file) ≡ []
builtin_none None = refl
builtin_none (Some file) = spans_none builtin_words file

extensions_same : (words : List SpannedText) (file : Option ℕ)
    → flat_map pattern_span (map User words ++ builtin_if file) ≡ word_spans words
extensions_same [] file = builtin_none file
extensions_same (w ∷ ws) file = ap (λ spans. w.span ∷ spans) (extensions_same ws file)

build_among : (build : BuildConfig) (number : ℕ) (older : Option Span) (valid : ValidBuildConfig)
    → IsBuildOf build number older valid → Among (build_spans valid) (written_build_spans build)
build_among build number older valid is =
    let words = listed build.script_extensions in
    let file = number_of build.enable_builtin_globs number in
    let wanted = map User words ++ builtin_if file in
    among_joined (pattern_spans valid.script_extensions ∷ flat_map bypass_spans valid.bypass ∷ [])
    (of_some word_spans build.script_extensions ∷ of_some (flat_map written_bypass_spans) build.bypass ∷ []) (
      among_then (pattern_spans valid.script_extensions) (flat_map pattern_span wanted)
          (of_some word_spans build.script_extensions)
          (patterns_among extension_text wanted valid.script_extensions.patterns valid.script_extensions.set
          is.script_extensions)
          (among_same (flat_map pattern_span wanted) (of_some word_spans build.script_extensions)
          (extensions_same words file ∙ listed_words build.script_extensions)),
      (
        among_then (flat_map bypass_spans valid.bypass) (flat_map written_bypass_spans (listed build.bypass))
            (of_some (flat_map written_bypass_spans) build.bypass)
            (bypasses_among (listed build.bypass) valid.bypass is.bypass)
            (among_same (flat_map written_bypass_spans (listed build.bypass))
            (of_some (flat_map written_bypass_spans) build.bypass) (listed_entries build.bypass)),
        tt,
      ),
    )

-- the spans of the written table, or of the one that its older key stands for
of_scripts_among : (number : ℕ) (older : Option Span) (scripts : Option (Spanned (List PackageSpec)))
    (valid : Option ValidBuildConfig)
    → OfBoth (λ build. IsBuildOf build number older) (build_by None scripts) valid
    → Among (of_some build_spans valid) []
of_scripts_among number older None None is = among_itself []
of_scripts_among number older None (Some valid) is = absurd is
of_scripts_among number older (Some scripts) None is = absurd is
of_scripts_among number older (Some scripts) (Some valid) is =
    build_among (of_scripts scripts.value) number older valid is

pub built_among : (build : Option BuildConfig) (scripts : Option (Spanned (List PackageSpec))) (number : ℕ)
    (older : Option Span) (valid : Option ValidBuildConfig)
    → OfBoth (λ build. IsBuildOf build number older) (build_by build scripts) valid
    → Among (of_some build_spans valid) (of_some written_build_spans build)
built_among None scripts number older valid is = of_scripts_among number older scripts valid is
built_among (Some build) scripts number older None is = absurd is
built_among (Some build) scripts number older (Some valid) is = build_among build number older valid is
