-- Tables that are alike have the same view, once their globs are read.
use Rattle.std.proofs.Common.{◌≡◌, ◌++◌, ◌∙◌, ℕ, List, [], ◌∷◌, Option, None, Some, map, refl, sym, ap, subst}
use Rattle.std.specs.Prelude.{filter, option_and_then, option_map}
use Rattle.std.specs.List.{AllZip}
use Rattle.deny_base.specs.declared.span.Span.{Span}
use Rattle.deny_cfg_build.proofs.BuildLaws.{one_patterns}
use Rattle.deny_cfg_build.proofs.BuiltinLaws.{globs_file_of}
use Rattle.deny_cfg_build.specs.Build.{IsBuildOf, IsBypassOf, builtin_if, listed, number_of}
use Rattle.deny_cfg_build.specs.BuildingView.{building_view, bypass_view, globs_file, globs_view, path_view}
use Rattle.deny_cfg_build.specs.BuildingView.{script_glob_view, words_of}
use Rattle.deny_cfg_build.specs.BuildingView as view
use Rattle.deny_cfg_build.specs.Globs.{AreGlobsOf, IsSetOf, OfBoth, extension_text, own_text}
use Rattle.deny_cfg_build.specs.declared.glob_set.ValidGlobSet.{ValidGlobSet}
use Rattle.deny_cfg_build.specs.declared.pattern.GlobPattern.TheVariants.{User}
use Rattle.deny_cfg_build.specs.declared.valid.ValidBuildConfig.{ValidBuildConfig}
use Rattle.deny_cfg_build.specs.declared.valid.ValidBypass.{ValidBypass}
use Rattle.deny_cfg_entries.proofs.ReadsLaws.{SpecsAlike}
use Rattle.deny_cfg_entries.specs.SpecView.{spec_view}
use Rattle.deny_cfg_entries.specs.declared.day.Day.{Day}
use Rattle.deny_cfg_entries.specs.declared.package_spec.PackageSpec.{PackageSpec}
use Rattle.deny_base_lists.proofs.Alike.{Same, alike_filter, same_map}
use Rattle.deny_spec.specs.Policy.{SpannedText}
use Rattle.deny_cfg_tables.proofs.ConfigLaws.{BothAlike}
use Rattle.deny_cfg_tables.specs.declared.bans.cfg.build.BuildConfig.{BuildConfig}
use Rattle.deny_cfg_tables.specs.declared.bans.cfg.bypass.Bypass.{Bypass}
use Rattle.deny_cfg_tables.specs.declared.bans.cfg.config.Config.{Config}
use Rattle.deny_cfg.proofs.BuildAlike.{BuildsAlike, BuiltAlike, BypassesAlike, builds_by, listed_alike, older_keys_by}
use Rattle.deny_cfg.proofs.ViewLaws.{same_option}
use Rattle.deny_cfg.specs.Current.{counts, current_bans, current_build}
use Rattle.deny_cfg.specs.PolicyView.{building_of, builtin_file_of}
use Rattle.deny_cfg.specs.Valid.{IsValidOf, build_of, older_key_of}
use Rattle.deny_cfg.specs.declared.bans.cfg.valid.ValidConfig.{ValidConfig}

same_globs : (o : Option (List SpannedText)) (p q : Option ValidGlobSet)
    → OfBoth (λ globs. IsSetOf own_text (map User globs)) o p → OfBoth (λ globs. IsSetOf own_text (map User globs)) o q
    → globs_view p ≡ globs_view q
same_globs None None None one two = refl
same_globs None None (Some q) one two = absurd two
same_globs None (Some p) q one two = absurd one
same_globs (Some words) None q one two = absurd one
same_globs (Some words) (Some p) None one two = absurd two
same_globs (Some words) (Some p) (Some q) one two =
    ap (map words_of) (one_patterns (map User words) p.patterns q.patterns p.set q.set one two)

same_bypass : (x y : Bypass) (v w : ValidBypass) → BypassesAlike x y → IsBypassOf x v → IsBypassOf y w
    → bypass_view v ≡ bypass_view w
same_bypass x y v w alike one two =
    let spec = ap spec_view one.spec ∙ alike.0 ∙ sym (ap spec_view two.spec) in
    let script = one.build_script ∙ ap (λ k. k.build_script) alike.1 ∙ sym two.build_script in
    let required = one.required_features ∙ ap (λ k. k.required_features) alike.1 ∙ sym two.required_features in
    let globs =
    same_globs y.allow_globs v.allow_globs w.allow_globs
    (subst (λ o. OfBoth (λ words. IsSetOf own_text (map User words)) o v.allow_globs) (ap (λ k. k.allow_globs) alike.1)
    one.allow_globs) two.allow_globs in
    let allow = one.allow ∙ ap (λ k. k.allow) alike.1 ∙ sym two.allow in
    λ i. record {
      spec = spec i;
      script = option_map view.checksum_view (script i);
      required = required i;
      globs = globs i;
      allow = map path_view (allow i);
    }

-- two bypasses are seen alike: they have the same view and the same last day
abbrev pub BypassesSeen : ValidBypass → ValidBypass → Type 0
BypassesSeen v w = (bypass_view v ≡ bypass_view w) × (v.expires ≡ w.expires)

pub same_bypasses : (xs ys : List Bypass) (vs ws : List ValidBypass) → AllZip BypassesAlike xs ys
    → AllZip IsBypassOf xs vs → AllZip IsBypassOf ys ws → AllZip BypassesSeen vs ws
same_bypasses [] [] [] [] alike one two = tt
same_bypasses [] [] [] (w ∷ ws) alike one two = absurd two
same_bypasses [] [] (v ∷ vs) ws alike one two = absurd one
same_bypasses [] (y ∷ ys) vs ws alike one two = absurd alike
same_bypasses (x ∷ xs) [] vs ws alike one two = absurd alike
same_bypasses (x ∷ xs) (y ∷ ys) [] ws alike one two = absurd one
same_bypasses (x ∷ xs) (y ∷ ys) (v ∷ vs) [] alike one two = absurd two
same_bypasses (x ∷ xs) (y ∷ ys) (v ∷ vs) (w ∷ ws) alike one two =
    let last_day = one.0.expires ∙ ap (λ k. k.expires) alike.0.1 ∙ sym two.0.expires in
    ((same_bypass x y v w alike.0 one.0 two.0, last_day), same_bypasses xs ys vs ws alike.1 one.1 two.1)

same_counting : (today : Option Day) → Same BypassesSeen (λ b. counts today b.expires) (λ b. counts today b.expires)
same_counting today v w seen = ap (counts today) seen.1

-- the bypasses that count on a day
counting_seen : (today : Option Day) (vs ws : List ValidBypass) → AllZip BypassesSeen vs ws
    → map bypass_view (filter (λ b. counts today b.expires) vs)
    ≡ map bypass_view (filter (λ b. counts today b.expires) ws)
counting_seen today vs ws seen =
    same_map BypassesSeen bypass_view bypass_view (λ v w same. same.0) (filter (λ b. counts today b.expires) vs)
    (filter (λ b. counts today b.expires) ws)
    (alike_filter BypassesSeen (λ b. counts today b.expires) (same_counting today) vs ws seen)

specs_seen : (xs ys : List PackageSpec) → AllZip SpecsAlike xs ys → map spec_view xs ≡ map spec_view ys
specs_seen xs ys alike = same_map SpecsAlike spec_view spec_view (λ x y same. same) xs ys alike

same_patterns : (a b : BuildConfig) (number : ℕ) (older key : Option Span) (v w : ValidBuildConfig) → BuildsAlike a b
    → IsBuildOf a number older v → IsBuildOf b number key w
    → v.script_extensions.patterns ≡ w.script_extensions.patterns
same_patterns a b number older key v w alike one two =
    let wanted : map User (listed a.script_extensions) ++ builtin_if (number_of a.enable_builtin_globs number)
    ≡ map User (listed b.script_extensions) ++ builtin_if (number_of b.enable_builtin_globs number) =
    λ i. map User (listed (alike.extensions i)) ++ builtin_if (number_of (alike.builtin i) number) in
    one_patterns (map User (listed b.script_extensions) ++ builtin_if (number_of b.enable_builtin_globs number))
    v.script_extensions.patterns w.script_extensions.patterns v.script_extensions.set w.script_extensions.set
    (subst (λ patterns. AreGlobsOf extension_text patterns v.script_extensions.patterns v.script_extensions.set) wanted
    one.script_extensions) two.script_extensions

same_build : (today : Option Day) (a b : BuildConfig) (number : ℕ) (older key : Option Span)
    (v w : ValidBuildConfig) → BuildsAlike a b
    → older ≡ key → IsBuildOf a number older v → IsBuildOf b number key w
    → building_view (current_build today v) ≡ building_view (current_build today w)
same_build today a b number older key v w alike same one two =
    let scripts =
    ap (option_map (map spec_view)) one.allow_build_scripts
    ∙ same_option (AllZip SpecsAlike) (map spec_view) specs_seen a.allow_build_scripts b.allow_build_scripts
    alike.scripts
    ∙ sym (ap (option_map (map spec_view)) two.allow_build_scripts) in
    let executables = one.executables ∙ alike.executables ∙ sym two.executables in
    let interpreted = one.interpreted ∙ alike.interpreted ∙ sym two.interpreted in
    let patterns = same_patterns a b number older key v w alike one two in
    let bypass =
    counting_seen today v.bypass w.bypass
    (same_bypasses (listed a.bypass) (listed b.bypass) v.bypass w.bypass
    (listed_alike BypassesAlike a.bypass b.bypass alike.bypass) one.bypass two.bypass) in
    let dependencies = one.include_dependencies ∙ alike.with_dependencies ∙ sym two.include_dependencies in
    let workspace = one.include_workspace ∙ alike.with_workspace ∙ sym two.include_workspace in
    let archives = one.include_archives ∙ alike.with_archives ∙ sym two.include_archives in
    let older_key = one.older_key ∙ same ∙ sym two.older_key in
    λ i. record {
      scripts = scripts i;
      executables = executables i;
      interpreted = interpreted i;
      extensions = map script_glob_view (patterns i);
      bypass = bypass i;
      with_dependencies = dependencies i;
      with_workspace = workspace i;
      with_archives = archives i;
      older_key = older_key i;
    }

same_file : (a b : BuildConfig) (number : ℕ) (older key : Option Span) (v w : ValidBuildConfig) → BuildsAlike a b
    → IsBuildOf a number older v → IsBuildOf b number key w → globs_file v ≡ globs_file w
same_file a b number older key v w alike one two =
    globs_file_of a number older v one ∙ ap (λ asked. number_of asked number) alike.builtin
    ∙ sym (globs_file_of b number key w two)

module _ (number : ℕ) (older key : Option Span) where
  same_builds : (today : Option Day) (a b : Option BuildConfig) (v w : Option ValidBuildConfig)
      → BothAlike BuildsAlike a b → older ≡ key
      → OfBoth (λ build. IsBuildOf build number older) a v → OfBoth (λ build. IsBuildOf build number key) b w
      → option_map building_view (option_map (current_build today) v)
      ≡ option_map building_view (option_map (current_build today) w)
  same_builds today None None None None alike same one two = refl
  same_builds today None None None (Some w) alike same one two = absurd two
  same_builds today None None (Some v) w alike same one two = absurd one
  same_builds today None (Some b) v w alike same one two = absurd alike
  same_builds today (Some a) None v w alike same one two = absurd alike
  same_builds today (Some a) (Some b) None w alike same one two = absurd one
  same_builds today (Some a) (Some b) (Some v) None alike same one two = absurd two
  same_builds today (Some a) (Some b) (Some v) (Some w) alike same one two =
      ap Some (same_build today a b number older key v w alike same one two)

  same_files : (a b : Option BuildConfig) (v w : Option ValidBuildConfig) → BothAlike BuildsAlike a b
      → OfBoth (λ build. IsBuildOf build number older) a v → OfBoth (λ build. IsBuildOf build number key) b w
      → option_and_then globs_file v ≡ option_and_then globs_file w
  same_files None None None None alike one two = refl
  same_files None None None (Some w) alike one two = absurd two
  same_files None None (Some v) w alike one two = absurd one
  same_files None (Some b) v w alike one two = absurd alike
  same_files (Some a) None v w alike one two = absurd alike
  same_files (Some a) (Some b) None w alike one two = absurd one
  same_files (Some a) (Some b) (Some v) None alike one two = absurd two
  same_files (Some a) (Some b) (Some v) (Some w) alike one two =
      same_file a b number older key v w alike one two

-- the views of valid configurations
module _ (a b : Config) (alike : BuiltAlike a b) where
  builds : BothAlike BuildsAlike (build_of a) (build_of b)
  builds = builds_by a.build b.build a.allow_build_scripts b.allow_build_scripts alike.build alike.scripts

  pub same_older_key : older_key_of a ≡ older_key_of b
  same_older_key =
      older_keys_by a.build b.build a.allow_build_scripts b.allow_build_scripts alike.build alike.scripts

  pub same_building : (today : Option Day) (file number : ℕ) (these those : ValidConfig)
      → IsValidOf a file number these → IsValidOf b file number those
      → building_of (current_bans today these) ≡ building_of (current_bans today those)
  unfolding current_bans
  same_building today file number these those one two =
      same_builds number (older_key_of a) (older_key_of b) today (build_of a) (build_of b) these.build those.build builds
      same_older_key one.build two.build

  pub same_builtin_file : (file number : ℕ) (these those : ValidConfig) → IsValidOf a file number these
      → IsValidOf b file number those → builtin_file_of these ≡ builtin_file_of those
  same_builtin_file file number these those one two =
      same_files number (older_key_of a) (older_key_of b) (build_of a) (build_of b) these.build those.build builds
      one.build two.build
