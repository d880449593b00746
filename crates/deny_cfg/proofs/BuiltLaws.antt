-- The table `build` of each policy that is read from a text: its globs, their file, and its older key.
use Rattle.std.proofs.Common.{◌≡◌, ◌++◌, ◌+◌, ◌&&◌, ℕ, Bool, true, false, List, [], ◌∷◌, length, map, refl, sym, ap}
use Rattle.std.proofs.Common.{subst, ◌∙◌, arith}
use Rattle.std.specs.Prelude.{All, IfSome, Option, None, Some, nat_le, option_and_then}
use Rattle.std.specs.Char.{is_ascii}
use Rattle.std.specs.List.{AllByRecursion, flat_map, list_all}
use Rattle.std.specs.Option.{option_map_or}
use Rattle.std.proofs.lemmas.Bool.{and_parts}
use Rattle.std.proofs.lemmas.List.Elements.{All-from_recursion, recursion_from_All}
use Rattle.std.proofs.lemmas.Str.{IsCharBoundary-from_ascii}
use Rattle.deny_base_lists.proofs.Numbers.{le_from_nat_le}
use Rattle.deny_base.specs.declared.span.Span.{Span}
use Rattle.deny_base.specs.declared.span.Spanned.{Spanned}
use Rattle.deny_cfg_build.proofs.BuiltinLaws.{ascii_from_test, globs_file_of, kept_each}
use Rattle.deny_cfg_build.specs.Build.{IsBuildOf, IsReadBuild, build_by, builtin_if, files_of, listed, number_of}
use Rattle.deny_cfg_build.specs.Build.{older_key_by}
use Rattle.deny_cfg_build.specs.BuildingView.{globs_file}
use Rattle.deny_cfg_build.specs.Builtin.{builtin_file, builtin_texts, builtin_words}
use Rattle.deny_cfg_build.specs.Globs.{OfBoth}
use Rattle.deny_cfg_build.specs.declared.pattern.GlobPattern.{GlobPattern}
use Rattle.deny_cfg_build.specs.declared.pattern.GlobPattern.TheVariants.{Builtin, User}
use Rattle.deny_cfg_build.specs.declared.valid.ValidBuildConfig.{ValidBuildConfig}
use Rattle.deny_cfg_entries.specs.declared.day.Day.{Day}
use Rattle.deny_cfg_entries.specs.declared.package_spec.PackageSpec.{PackageSpec}
use Rattle.deny_spec.specs.Policy.{SpannedText}
use Rattle.deny_cfg_tables.specs.declared.bans.cfg.build.BuildConfig.{BuildConfig}
use Rattle.deny_cfg_tables.specs.declared.bans.cfg.config.Config.{Config}
use Rattle.deny_toml.specs.Spans.{IsSpan}
use Rattle.deny_cfg.proofs.Among.{lie_rest}
use Rattle.deny_cfg.proofs.CurrentLaws.{current_file, current_globs_read}
use Rattle.deny_cfg.proofs.LabelLaws.{Lie}
use Rattle.deny_cfg.specs.LabelSpans.{older_span, of_some, own_span}
use Rattle.deny_cfg.specs.Marks.{IsPolicySpan}
use Rattle.deny_cfg.specs.private.LabelSpans.{list_spans, wrapper_list}
use Rattle.deny_cfg.specs.PolicyText.{IsPolicyOf, globs_files}
use Rattle.deny_cfg.specs.PolicyView.{AreGlobsRead, builtin_file_of}
use Rattle.deny_cfg.specs.Valid.{IsValidOf, build_of, files_asked, older_key_of}
use Rattle.deny_cfg.specs.declared.bans.cfg.valid.ValidConfig.{ValidConfig}
use Rattle.deny_cfg.specs.declared.policy.Policy.{Policy}

-- ---- the file of the built-in globs

asked_by : (asked : Bool) (number : ℕ) → files_of asked ≡ globs_files (number_of asked number)
asked_by true number = refl
asked_by false number = refl

asked_of : (number : ℕ) (older : Option Span) (build : Option BuildConfig) (valid : Option ValidBuildConfig)
    → OfBoth (λ b. IsBuildOf b number older) build valid
    → option_map_or (λ b. files_of b.enable_builtin_globs) build [] ≡ globs_files (option_and_then globs_file valid)
asked_of number older None None is = refl
asked_of number older None (Some valid) is = absurd is
asked_of number older (Some build) None is = absurd is
asked_of number older (Some build) (Some valid) is =
    asked_by build.enable_builtin_globs number ∙ ap globs_files (sym (globs_file_of build number older valid is))

pub globs_asked : (config : Config) (file number : ℕ) (valid : ValidConfig) → IsValidOf config file number valid
    → files_asked config ≡ globs_files (builtin_file_of valid)
globs_asked config file number valid is = asked_of number (older_key_of config) (build_of config) valid.build is.build

next_if : (asked : Bool) (number : ℕ) → IfSome (number_of asked number) (λ n. n ≡ number)
next_if true number = refl
next_if false number = tt

next_of : (number : ℕ) (older : Option Span) (build : Option BuildConfig) (valid : Option ValidBuildConfig)
    → OfBoth (λ b. IsBuildOf b number older) build valid
    → IfSome (option_and_then globs_file valid) (λ n. n ≡ number)
next_of number older None None is = tt
next_of number older None (Some valid) is = absurd is
next_of number older (Some build) None is = absurd is
next_of number older (Some build) (Some valid) is =
    subst (λ o. IfSome o (λ n. n ≡ number)) (sym (globs_file_of build number older valid is))
    (next_if build.enable_builtin_globs number)

-- it is the file behind that of the policy
pub next_file : (today : Option Day) (text : List ℕ) (file : ℕ) (policy : Policy)
    → IsPolicyOf today text file policy → IfSome (builtin_file_of policy.bans) (λ n. n ≡ file + 1)
next_file today text file policy is =
    subst (λ o. IfSome o (λ n. n ≡ file + 1)) (sym (current_file today is.written policy.bans is.current.bans))
    (next_of (file + 1) (older_key_of is.config) (build_of is.config) is.written.build is.valid.build)

-- ---- the globs

read_of : (number : ℕ) (older : Option Span) (build : Option BuildConfig) (valid : Option ValidBuildConfig)
    → OfBoth (λ b. IsBuildOf b number older) build valid → IfSome valid IsReadBuild
read_of number older None None is = tt
read_of number older None (Some valid) is = absurd is
read_of number older (Some build) None is = absurd is
read_of number older (Some build) (Some valid) is = record {
  build = build;
  file = number_of build.enable_builtin_globs number;
  older_key = older;
  made = is;
}

pub globs_read : (today : Option Day) (text : List ℕ) (file : ℕ) (policy : Policy)
    → IsPolicyOf today text file policy → AreGlobsRead policy.bans
globs_read today text file policy is =
    current_globs_read today is.written policy.bans is.current.bans
    (read_of (file + 1) (older_key_of is.config) (build_of is.config) is.written.build is.valid.build)

-- the built-in globs are in their file
abbrev pub IsLocated : GlobPattern → Type 0
IsLocated (Builtin glob) = IsSpan builtin_file.source glob.0.span
IsLocated (User word) = Unit {0}

abbrev lies_within : Span → Bool
lies_within span = nat_le span.start span.end && nat_le span.end (length builtin_file.source)

source_ascii : list_all is_ascii builtin_file.source ≡ true
unfolding builtin_file
source_ascii = refl

span_by : (span : Span) → lies_within span ≡ true → IsSpan builtin_file.source span
span_by span e =
    let parts = and_parts (nat_le span.start span.end) (nat_le span.end (length builtin_file.source)) e in
    let ordered = le_from_nat_le span.start span.end parts.0 in
    let within = le_from_nat_le span.end (length builtin_file.source) parts.1 in
    let ascii = ascii_from_test builtin_file.source source_ascii in
    record {
      ordered = ordered;
      within = within;
      starts = IsCharBoundary-from_ascii builtin_file.source span.start ascii (omega (arith, ordered, within));
      ends = IsCharBoundary-from_ascii builtin_file.source span.end ascii within;
    }

words_located : (file : ℕ) (words : List SpannedText) → list_all (λ w. lies_within w.span) words ≡ true
    → AllByRecursion IsLocated (map (λ (w : SpannedText). Builtin (w, file)) words)
words_located file [] e = tt
words_located file (w ∷ ws) e =
    let parts = and_parts (lies_within w.span) (list_all (λ (v : SpannedText). lies_within v.span) ws) e in
    (span_by w.span parts.0, words_located file ws parts.1)

all_within : list_all (λ (w : SpannedText). lies_within w.span) builtin_words ≡ true
unfolding builtin_file builtin_words builtin_texts
all_within = refl

builtin_located : (file : Option ℕ) → AllByRecursion IsLocated (builtin_if file)
builtin_located None = tt
builtin_located (Some file) = words_located file builtin_words all_within

wanted_located : (words : List SpannedText) (file : Option ℕ)
    → AllByRecursion IsLocated (map User words ++ builtin_if file)
wanted_located [] file = builtin_located file
wanted_located (w ∷ ws) file = (tt, wanted_located ws file)

pub patterns_located : (valid : ValidBuildConfig) → IsReadBuild valid
    → AllByRecursion IsLocated valid.script_extensions.patterns
patterns_located valid read =
    kept_each IsLocated read.made.script_extensions
    (wanted_located (listed read.build.script_extensions) read.file)

-- ---- the older key

older_lies : (P : Span → Type 0) (number : ℕ) (build : Option BuildConfig)
    (scripts : Option (Spanned (List PackageSpec))) (valid : Option ValidBuildConfig)
    → OfBoth (λ b. IsBuildOf b number (older_key_by build scripts)) (build_by build scripts) valid
    → Lie P (of_some own_span scripts)
    → Lie P (of_some (λ b. of_some (λ span. span ∷ []) b.older_key) valid)
older_lies P number None None None is lie = tt
older_lies P number None None (Some valid) is lie = absurd is
older_lies P number None (Some scripts) None is lie = absurd is
older_lies P number None (Some scripts) (Some valid) is lie =
    subst (λ o. Lie P (of_some (λ span. span ∷ []) o)) (sym is.older_key) lie
older_lies P number (Some build) scripts None is lie = absurd is
older_lies P number (Some build) scripts (Some valid) is lie =
    subst (λ o. Lie P (of_some (λ span. span ∷ []) o)) (sym is.older_key) tt

pub older_key_lies : (text : List ℕ) (config : Config) (file number : ℕ) (valid : ValidConfig)
    → IsValidOf config file number valid → All (IsPolicySpan text) (list_spans config)
    → All (IsPolicySpan text) (older_span valid)
unfolding list_spans
older_key_lies text config file number valid is lists =
    let wrappers = flat_map wrapper_list config.deny in
    All-from_recursion (IsPolicySpan text) (older_span valid)
    (older_lies (IsPolicySpan text) number config.build config.allow_build_scripts valid.build is.build
    (lie_rest (IsPolicySpan text) wrappers (of_some own_span config.allow_build_scripts)
    (recursion_from_All (IsPolicySpan text) (wrappers ++ of_some own_span config.allow_build_scripts) lists)))
