-- The table `build`, and its entries of `bypass`, as the rules take them.
use Rattle.std.specs.Prelude.{◌≡◌, ◌++◌, ◌⊎◌, ℕ, Bool, true, false, List, [], ◌∷◌, Option, None, Some, map, option_map}
use Rattle.std.specs.List.{AllZip}
use Rattle.deny_base.specs.declared.files.File.{File}
use Rattle.deny_base.specs.declared.level.LintLevel.TheVariants as level
use Rattle.deny_base.specs.declared.span.Span.{Span}
use Rattle.deny_base.specs.declared.span.Spanned.{Spanned}
use Rattle.deny_cfg_entries.specs.declared.package_spec.PackageSpec.{PackageSpec}
use Rattle.deny_cfg_tables.specs.declared.bans.cfg.build.BuildConfig.{BuildConfig}
use Rattle.deny_cfg_tables.specs.declared.bans.cfg.bypass.Bypass.{Bypass}
use Rattle.deny_cfg_build.specs.Builtin.{builtin_file, builtin_patterns}
use Rattle.deny_cfg_build.specs.Globs.{IsSetOf, OfBoth, extension_text, own_text}
use Rattle.deny_cfg_build.specs.declared.pattern.GlobPattern.{GlobPattern}
use Rattle.deny_cfg_build.specs.declared.pattern.GlobPattern.TheVariants.{User}
use Rattle.deny_cfg_build.specs.declared.valid.ValidBuildConfig.{ValidBuildConfig}
use Rattle.deny_cfg_build.specs.declared.valid.ValidBypass.{ValidBypass}

-- the items of a list that may be left out
abbrev pub listed : {T : Type 0} → Option (List T) → List T
listed None = []
listed (Some xs) = xs

-- an entry of `bypass` as the rules take it: its globs are read, and all else is as it is written
pub record IsBypassOf (bypass : Bypass) (valid : ValidBypass) : Type 0 where
  pub spec : valid.spec ≡ bypass.spec
  pub build_script : valid.build_script ≡ bypass.build_script
  pub required_features : valid.required_features ≡ bypass.required_features
  pub allow_globs : OfBoth (λ globs. IsSetOf own_text (map User globs)) bypass.allow_globs valid.allow_globs
  pub allow : valid.allow ≡ bypass.allow
  pub expires : valid.expires ≡ bypass.expires

-- the patterns of the built-in globs, where their file has a number
abbrev pub builtin_if : Option ℕ → List GlobPattern
builtin_if None = []
builtin_if (Some file) = builtin_patterns file

-- the number of the file of the built-in globs, where the table asks for them and the next file has this number
abbrev pub number_of : Bool → ℕ → Option ℕ
number_of false next = None
number_of true next = Some next

-- the files that are added: that of the built-in globs, exactly where the table asks for them
abbrev pub files_of : Bool → List File
files_of false = []
files_of true = builtin_file ∷ []

-- these files are added behind the others, or none is
abbrev pub HasFiles : List File → List File → List File → Type 0
HasFiles added old new = (new ≡ old) ⊎ (new ≡ old ++ added)

-- A table as the rules take it: its globs are read, with the built-in globs behind its extensions where their file has
-- a number; `older` is the span of the older key, where that stands for the table; all else is as it is written.
pub record IsMadeOf (build : BuildConfig) (file : Option ℕ) (older : Option Span) (valid : ValidBuildConfig)
    : Type 0 where
  pub allow_build_scripts : valid.allow_build_scripts ≡ build.allow_build_scripts
  pub executables : valid.executables ≡ build.executables
  pub interpreted : valid.interpreted ≡ build.interpreted
  pub script_extensions : IsSetOf extension_text (map User (listed build.script_extensions) ++ builtin_if file)
      valid.script_extensions
  pub bypass : AllZip IsBypassOf (listed build.bypass) valid.bypass
  pub include_dependencies : valid.include_dependencies ≡ build.include_dependencies
  pub include_workspace : valid.include_workspace ≡ build.include_workspace
  pub include_archives : valid.include_archives ≡ build.include_archives
  pub older_key : valid.older_key ≡ older

-- a table as the rules take it, where the next file has this number and is that of the built-in globs, if any
abbrev pub IsBuildOf : BuildConfig → ℕ → Option Span → ValidBuildConfig → Type 0
IsBuildOf build next older valid = IsMadeOf build (number_of build.enable_builtin_globs next) older valid

-- the globs of a table are read from texts that a policy writes
pub record IsReadBuild (valid : ValidBuildConfig) : Type 0 where
  pub build : BuildConfig
  pub file : Option ℕ
  pub older_key : Option Span
  pub made : IsMadeOf build file older_key valid

-- the table that a list of crates that may have build scripts stands for: executables are not checked
abbrev pub of_scripts : List PackageSpec → BuildConfig
of_scripts scripts = record {
  allow_build_scripts = Some scripts;
  executables = level.Allow;
  interpreted = level.Warn;
  script_extensions = None;
  bypass = None;
  enable_builtin_globs = false;
  include_dependencies = false;
  include_workspace = false;
  include_archives = false;
}

-- the table `build`; without it, the table that a list of crates that may have build scripts stands for
abbrev pub build_by : Option BuildConfig → Option (Spanned (List PackageSpec)) → Option BuildConfig
build_by (Some build) scripts = Some build
build_by None scripts = option_map (λ list. of_scripts list.value) scripts

-- the span of that list, where it stands for the table
abbrev pub older_key_by : Option BuildConfig → Option (Spanned (List PackageSpec)) → Option Span
older_key_by (Some build) scripts = None
older_key_by None scripts = option_map (λ list. list.span) scripts
