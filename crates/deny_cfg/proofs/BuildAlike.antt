-- What is read twice from the table `build`, and from its older key, is the same.
use Rattle.std.proofs.Common.{◌≡◌, ◌∙◌, ℕ, false, List, [], Option, None, Some, refl, sym, ap}
use Rattle.std.specs.List.{AllZip}
use Rattle.deny_base.specs.declared.level.LintLevel.TheVariants as level
use Rattle.deny_base.specs.declared.span.Spanned.{Spanned}
use Rattle.deny_cfg_build.specs.Build.{build_by, listed, of_scripts, older_key_by}
use Rattle.deny_cfg_entries.proofs.ReadsLaws.{ReadsAlike, ReadsOne, SpecsAlike, alike_list, alike_table, keys_alike}
use Rattle.deny_cfg_entries.proofs.ReadsLaws.{one_as, one_bool, one_optional, one_or, one_spanned, one_text, one_texts}
use Rattle.deny_cfg_entries.proofs.ReadsLaws.{text_alike, one_required}
use Rattle.deny_cfg_entries.proofs.KeyLaws.{says_of}
use Rattle.deny_cfg_entries.specs.Entry.{ReadsEntryKeys}
use Rattle.deny_cfg_entries.specs.PolicyKey.{name_of}
use Rattle.deny_cfg_entries.specs.Spec.{ReadsSpec, ReadsSpecKeys, ReadsSpecValue}
use Rattle.deny_cfg_entries.specs.Table.{ReadsTable, at_key}
use Rattle.deny_cfg_entries.specs.Words.{ReadsAs, ReadsBool, ReadsList, ReadsSpanned, ReadsText, ReadsTexts, level_of}
use Rattle.deny_cfg_entries.specs.declared.package_spec.PackageSpec.{PackageSpec}
use Rattle.deny_cfg_entries.specs.declared.policy_key.PolicyKey.TheVariants as key
use Rattle.deny_cfg_entries.specs.Waivers.{ReadsExpiry}
use Rattle.deny_cfg_tables.proofs.ConfigLaws.{BothAlike, alike_optional, one_expiry}
use Rattle.deny_cfg_tables.specs.Build.{ReadsBuild, ReadsBypass, ReadsBypassKeys, ReadsBypassPath, ReadsChecksum}
use Rattle.deny_cfg_tables.specs.Build.{keys_in}
use Rattle.deny_cfg_tables.specs.Checksum.{checksum_of}
use Rattle.deny_cfg_tables.specs.Config.{ReadsConfig}
use Rattle.deny_cfg_tables.specs.declared.bans.cfg.build.BuildConfig.{BuildConfig}
use Rattle.deny_cfg_tables.specs.declared.bans.cfg.bypass.Bypass.{Bypass}
use Rattle.deny_cfg_tables.specs.declared.bans.cfg.config.Config.{Config}
use Rattle.deny_toml.specs.Calls.{text_in}
use Rattle.deny_toml.specs.value.Value.{Value}
use Rattle.deny_cfg.proofs.LicensingLaws.{one_list}
use Rattle.deny_cfg.specs.PolicyText.{ReadsBans}

-- ---- entries of `bypass`

one_checksum : ReadsOne (ReadsSpanned ReadsChecksum)
one_checksum v x y one two =
    let bytes : x.value.0 ≡ y.value.0 = one_as checksum_of v x.value.0 y.value.0 one.1 two.1 in
    let span : x.span ≡ y.span = one.0 ∙ sym two.0 in
    λ i. record { value = record { 0 = bytes i }; span = span i }

one_path : ReadsOne ReadsBypassPath
unfolding name_of
one_path entries x y one two =
    let path =
    one_required (ReadsSpanned ReadsText) (one_spanned ReadsText one_text) (at_key key.Path entries) x.path y.path
    (says_of key.Path one) (says_of key.Path two) in
    let checksum =
    one_optional (ReadsSpanned ReadsChecksum) one_checksum (at_key key.Checksum entries) x.checksum y.checksum
    (says_of key.Checksum one) (says_of key.Checksum two) in
    λ i. record { path = path i; checksum = checksum i }

one_paths : ReadsOne (ReadsList (ReadsTable ReadsBypassPath))
one_paths = one_list (ReadsTable ReadsBypassPath) (alike_table ReadsBypassPath (λ x y. x ≡ y) one_path)

one_bypass : ReadsOne ReadsBypassKeys
unfolding name_of
one_bypass entries x y one two =
    let script =
    one_optional (ReadsSpanned ReadsChecksum) one_checksum (at_key key.BuildScript entries) x.build_script
    y.build_script (says_of key.BuildScript one) (says_of key.BuildScript two) in
    let required =
    one_or [] ReadsTexts one_texts (at_key key.RequiredFeatures entries) x.required_features y.required_features
    (says_of key.RequiredFeatures one) (says_of key.RequiredFeatures two) in
    let globs =
    one_optional ReadsTexts one_texts (at_key key.AllowGlobs entries) x.allow_globs y.allow_globs
    (says_of key.AllowGlobs one) (says_of key.AllowGlobs two) in
    let paths =
    one_or [] (ReadsList (ReadsTable ReadsBypassPath)) one_paths (at_key key.Allow entries) x.allow y.allow
    (says_of key.Allow one) (says_of key.Allow two) in
    let expires =
    one_optional (ReadsSpanned ReadsExpiry) one_expiry (at_key key.Expires entries) x.expires y.expires
    (says_of key.Expires one) (says_of key.Expires two) in
    λ i. record {
      build_script = script i;
      required_features = required i;
      allow_globs = globs i;
      allow = paths i;
      expires = expires i;
    }

-- two entries of `bypass` are alike: their specs are, and they give the same beside them
abbrev pub BypassesAlike : Bypass → Bypass → Type 0
BypassesAlike a b = SpecsAlike a.spec b.spec × (keys_in a ≡ keys_in b)

bypass_keys_alike : ReadsAlike
    (λ entries (read : Bypass). ReadsEntryKeys ReadsBypassKeys entries read.spec (keys_in read)) BypassesAlike
bypass_keys_alike entries a b one two = (
  keys_alike entries a.spec b.spec one.of_spec two.of_spec,
  one_bypass entries (keys_in a) (keys_in b) one.besides two.besides,
)

bypasses_alike : ReadsAlike ReadsBypass BypassesAlike
bypasses_alike v a b one two =
    alike_table (λ entries (read : Bypass). ReadsEntryKeys ReadsBypassKeys entries read.spec (keys_in read))
    BypassesAlike bypass_keys_alike v a b one two

-- ---- lists of specs

spec_by_alike : (text : Option (List ℕ)) (v : Value) (a b : PackageSpec) → ReadsSpecValue text v a
    → ReadsSpecValue text v b → SpecsAlike a b
spec_by_alike None v a b one two = alike_table ReadsSpecKeys SpecsAlike keys_alike v a b one two
spec_by_alike (Some text) v a b one two = text_alike v a b one two

spec_alike : ReadsAlike ReadsSpec SpecsAlike
spec_alike v a b one two = spec_by_alike (text_in v) v a b one two

specs_alike : ReadsAlike (ReadsList ReadsSpec) (AllZip SpecsAlike)
specs_alike v xs ys one two = alike_list ReadsSpec SpecsAlike spec_alike v xs ys one two

-- ---- the table

pub record BuildsAlike (a b : BuildConfig) : Type 0 where
  pub scripts : BothAlike (AllZip SpecsAlike) a.allow_build_scripts b.allow_build_scripts
  pub executables : a.executables ≡ b.executables
  pub interpreted : a.interpreted ≡ b.interpreted
  pub extensions : a.script_extensions ≡ b.script_extensions
  pub bypass : BothAlike (AllZip BypassesAlike) a.bypass b.bypass
  pub builtin : a.enable_builtin_globs ≡ b.enable_builtin_globs
  pub with_dependencies : a.include_dependencies ≡ b.include_dependencies
  pub with_workspace : a.include_workspace ≡ b.include_workspace
  pub with_archives : a.include_archives ≡ b.include_archives

builds_alike : ReadsAlike ReadsBuild BuildsAlike
unfolding name_of
builds_alike entries a b one two = record {
  scripts =
      alike_optional (ReadsList ReadsSpec) (AllZip SpecsAlike) specs_alike (at_key key.AllowBuildScripts entries)
      a.allow_build_scripts b.allow_build_scripts (says_of key.AllowBuildScripts one)
      (says_of key.AllowBuildScripts two);
  executables =
      one_or level.Deny (ReadsAs level_of) (one_as level_of) (at_key key.Executables entries) a.executables
      b.executables (says_of key.Executables one) (says_of key.Executables two);
  interpreted =
      one_or level.Allow (ReadsAs level_of) (one_as level_of) (at_key key.Interpreted entries) a.interpreted
      b.interpreted (says_of key.Interpreted one) (says_of key.Interpreted two);
  extensions =
      one_optional ReadsTexts one_texts (at_key key.ScriptExtensions entries) a.script_extensions
      b.script_extensions (says_of key.ScriptExtensions one) (says_of key.ScriptExtensions two);
  bypass =
      alike_optional (ReadsList ReadsBypass) (AllZip BypassesAlike)
      (λ v xs ys here there. alike_list ReadsBypass BypassesAlike bypasses_alike v xs ys here there)
      (at_key key.Bypass entries) a.bypass b.bypass (says_of key.Bypass one) (says_of key.Bypass two);
  builtin =
      one_or false ReadsBool one_bool (at_key key.EnableBuiltinGlobs entries) a.enable_builtin_globs
      b.enable_builtin_globs (says_of key.EnableBuiltinGlobs one) (says_of key.EnableBuiltinGlobs two);
  with_dependencies =
      one_or false ReadsBool one_bool (at_key key.IncludeDependencies entries) a.include_dependencies
      b.include_dependencies (says_of key.IncludeDependencies one) (says_of key.IncludeDependencies two);
  with_workspace =
      one_or false ReadsBool one_bool (at_key key.IncludeWorkspace entries) a.include_workspace
      b.include_workspace (says_of key.IncludeWorkspace one) (says_of key.IncludeWorkspace two);
  with_archives =
      one_or false ReadsBool one_bool (at_key key.IncludeArchives entries) a.include_archives
      b.include_archives (says_of key.IncludeArchives one) (says_of key.IncludeArchives two);
}

-- ---- the table, and its older key

abbrev pub ScriptsAlike : Spanned (List PackageSpec) → Spanned (List PackageSpec) → Type 0
ScriptsAlike x y = (x.span ≡ y.span) × AllZip SpecsAlike x.value y.value

scripts_alike : ReadsAlike (ReadsSpanned (ReadsList ReadsSpec)) ScriptsAlike
scripts_alike v x y one two = (one.0 ∙ sym two.0, specs_alike v x.value y.value one.1 two.1)

pub record BuiltAlike (a b : Config) : Type 0 where
  pub build : BothAlike BuildsAlike a.build b.build
  pub scripts : BothAlike ScriptsAlike a.allow_build_scripts b.allow_build_scripts

built_in_keys : ReadsAlike ReadsConfig BuiltAlike
unfolding name_of
built_in_keys entries a b one two = record {
  build =
      alike_optional (ReadsTable ReadsBuild) BuildsAlike
      (λ v x y here there. alike_table ReadsBuild BuildsAlike builds_alike v x y here there)
      (at_key key.Build entries) a.build b.build (says_of key.Build one) (says_of key.Build two);
  scripts =
      alike_optional (ReadsSpanned (ReadsList ReadsSpec)) ScriptsAlike scripts_alike
      (at_key key.AllowBuildScripts entries) a.allow_build_scripts b.allow_build_scripts
      (says_of key.AllowBuildScripts one) (says_of key.AllowBuildScripts two);
}

pub built_alike : ReadsAlike ReadsBans BuiltAlike
built_alike None a b one two = built_in_keys [] a b one two
built_alike (Some v) a b one two = alike_table ReadsConfig BuiltAlike built_in_keys v a b one two

-- the tables that apply are alike, and so are the older keys that stand for them
of_scripts_alike : (x y : List PackageSpec) → AllZip SpecsAlike x y → BuildsAlike (of_scripts x) (of_scripts y)
of_scripts_alike x y alike = record {
  scripts = alike;
  executables = refl;
  interpreted = refl;
  extensions = refl;
  bypass = tt;
  builtin = refl;
  with_dependencies = refl;
  with_workspace = refl;
  with_archives = refl;
}

pub builds_by : (a b : Option BuildConfig) (x y : Option (Spanned (List PackageSpec))) → BothAlike BuildsAlike a b
    → BothAlike ScriptsAlike x y → BothAlike BuildsAlike (build_by a x) (build_by b y)
builds_by None (Some b) x y build scripts = absurd build
builds_by (Some a) None x y build scripts = absurd build
builds_by (Some a) (Some b) x y build scripts = build
builds_by None None None None build scripts = tt
builds_by None None None (Some y) build scripts = absurd scripts
builds_by None None (Some x) None build scripts = absurd scripts
builds_by None None (Some x) (Some y) build scripts = of_scripts_alike x.value y.value scripts.1

pub older_keys_by : (a b : Option BuildConfig) (x y : Option (Spanned (List PackageSpec))) → BothAlike BuildsAlike a b
    → BothAlike ScriptsAlike x y → older_key_by a x ≡ older_key_by b y
older_keys_by None (Some b) x y build scripts = absurd build
older_keys_by (Some a) None x y build scripts = absurd build
older_keys_by (Some a) (Some b) x y build scripts = refl
older_keys_by None None None None build scripts = refl
older_keys_by None None None (Some y) build scripts = absurd scripts
older_keys_by None None (Some x) None build scripts = absurd scripts
older_keys_by None None (Some x) (Some y) build scripts = ap Some scripts.0

pub listed_alike : {T : Type 0} (Alike : T → T → Type 0) (xs ys : Option (List T)) → BothAlike (AllZip Alike) xs ys
    → AllZip Alike (listed xs) (listed ys)
listed_alike Alike None None both = tt
listed_alike Alike None (Some ys) both = absurd both
listed_alike Alike (Some xs) None both = absurd both
listed_alike Alike (Some xs) (Some ys) both = both
