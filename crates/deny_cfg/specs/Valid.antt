-- A valid configuration, as the rules take it.
use Rattle.std.specs.Prelude.{◌≡◌, ℕ, Bool, not, List, [], Option, filter, map, option_map}
use Rattle.std.specs.Option.{option_map_or}
use Rattle.deny_base.specs.declared.files.File.{File}
use Rattle.deny_base.specs.declared.span.Span.{Span}
use Rattle.deny_cfg_build.specs.Build.{IsBuildOf, build_by, files_of, older_key_by}
use Rattle.deny_cfg_build.specs.Globs.{OfBoth}
use Rattle.deny_cfg.specs.Clashes.{is_ban}
use Rattle.deny_cfg_tables.specs.declared.bans.cfg.ban.CrateBanExtended.{CrateBanExtended}
use Rattle.deny_cfg_tables.specs.declared.bans.cfg.build.BuildConfig.{BuildConfig}
use Rattle.deny_cfg_tables.specs.declared.bans.cfg.config.Config.{Config}
use Rattle.deny_cfg_tables.specs.declared.bans.cfg.features.CrateFeatures.{CrateFeatures}
use Rattle.deny_cfg.specs.declared.bans.cfg.valid.KrateBan.{KrateBan}
use Rattle.deny_cfg.specs.declared.bans.cfg.valid.ValidConfig.{ValidConfig}
use Rattle.deny_cfg.specs.declared.bans.cfg.valid.ValidKrateFeatures.{ValidKrateFeatures}
use Rattle.deny_cfg_entries.specs.declared.spec_or_extended.PackageSpecOrExtended.{PackageSpecOrExtended}

-- what an entry that bans gives beside its spec, without its flag
abbrev pub krate_ban : CrateBanExtended → KrateBan
krate_ban said =
    record {
      wrappers = option_map (λ wrappers. wrappers.value)
          said.wrappers;
      reason = said.reason;
      use_instead = said.use_instead;
    }

abbrev pub ban_of : PackageSpecOrExtended CrateBanExtended → PackageSpecOrExtended KrateBan
ban_of e = record { spec = e.spec; inner = option_map krate_ban e.inner }

abbrev pub features_of : CrateFeatures → ValidKrateFeatures
features_of f =
    record { spec = f.spec; features = record { allow = f.allow; deny = f.deny; exact = f.exact }; reason = f.reason }

-- an entry of `deny` denies only several versions
abbrev pub is_multiple : PackageSpecOrExtended CrateBanExtended → Bool
is_multiple e = not (is_ban e)

-- the table `build` that applies: the written one, else the one that the older key stands for
abbrev pub build_of : Config → Option BuildConfig
build_of config = build_by config.build config.allow_build_scripts

-- the span of the older key, where it stands for the table
abbrev pub older_key_of : Config → Option Span
older_key_of config = older_key_by config.build config.allow_build_scripts

-- the files that are added: that of the built-in globs, exactly where the configuration asks for them
abbrev pub files_asked : Config → List File
files_asked config = option_map_or (λ build. files_of build.enable_builtin_globs) (build_of config) []

-- A configuration as the rules take it: the entries of `deny` are divided into bans and those that deny only several
-- versions; the globs of the table `build` are read, with the built-in ones in the next file; all else is as written.
pub record IsValidOf (config : Config) (file next : ℕ) (valid : ValidConfig) : Type 0 where
  pub file_id : valid.file_id ≡ file
  pub multiple_versions : valid.multiple_versions ≡ config.multiple_versions
  pub include_dev : valid.multiple_versions_include_dev ≡ config.multiple_versions_include_dev
  pub highlight : valid.highlight ≡ config.highlight
  pub denied : valid.denied ≡ map ban_of (filter is_ban config.deny)
  pub denied_multiple_versions : valid.denied_multiple_versions ≡ map (λ e. e.spec) (filter is_multiple config.deny)
  pub allowed : valid.allowed ≡ config.allow
  pub allow_workspace : valid.allow_workspace ≡ config.allow_workspace
  pub external_default_features : valid.external_default_features ≡ config.external_default_features
  pub workspace_default_features : valid.workspace_default_features ≡ config.workspace_default_features
  pub features : valid.features ≡ map features_of config.features
  pub skipped : valid.skipped ≡ config.skip
  pub tree_skipped : valid.tree_skipped ≡ config.skip_tree
  pub wildcards : valid.wildcards ≡ config.wildcards
  pub allow_wildcard_paths : valid.allow_wildcard_paths ≡ config.allow_wildcard_paths
  pub workspace_dependencies : valid.workspace_dependencies ≡ config.workspace_dependencies
  pub std_replacements : valid.std_replacements ≡ config.std_replacements
  pub build : OfBoth (λ build. IsBuildOf build next (older_key_of config)) (build_of config) valid.build
