-- A configuration as the rules see it.
use Rattle.std.specs.Prelude.{ℕ, ◌+◌, List, [], ◌∷◌, map, IfSome, Option, None, Some, option_map, option_and_then}
use Rattle.semver.specs.Identifiers.{parts_of}
use Rattle.deny_cfg_build.specs.Build.{IsReadBuild}
use Rattle.deny_cfg_build.specs.BuildingView.{building_view, globs_file}
use Rattle.deny_spec.specs.Building.{Building}
use Rattle.deny_spec.specs.Policy as model
use Rattle.deny_spec.specs.Policy.{AllowEntry, Ban, Entry, FeatureEntry, Policy, Replacing, Root, Sharing, SpannedText}
use Rattle.deny_spec.specs.Expired.{PastWaiver}
use Rattle.deny_cfg_entries.specs.SpecView.{spec_view}
use Rattle.deny_cfg_tables.specs.Highlight.{shows_lowest, shows_simplest}
use Rattle.deny_cfg_tables.specs.declared.bans.cfg.std_replacements.StdReplacementConfig.{StdReplacementConfig}
use Rattle.deny_cfg_tables.specs.declared.bans.cfg.tree_skip.TreeSkipExtended.{TreeSkipExtended}
use Rattle.deny_cfg_tables.specs.declared.bans.cfg.workspace.WorkspaceDepsConfig.{WorkspaceDepsConfig}
use Rattle.deny_cfg.specs.declared.bans.cfg.valid.KrateBan.{KrateBan}
use Rattle.deny_cfg.specs.declared.bans.cfg.valid.ValidConfig.{ValidConfig}
use Rattle.deny_cfg.specs.declared.bans.cfg.valid.ValidKrateFeatures.{ValidKrateFeatures}
use Rattle.deny_cfg.specs.declared.expired.ExpiredWaiver.{ExpiredWaiver}
use Rattle.deny_cfg.specs.declared.policy.Policy as read
use Rattle.deny_cfg_entries.specs.declared.reason.Reason.{Reason}
use Rattle.deny_cfg_entries.specs.declared.scope.Scope.{Scope}
use Rattle.deny_cfg_entries.specs.declared.scope.Scope.TheVariants as scope
use Rattle.deny_cfg_entries.specs.declared.spec_or_extended.PackageSpecOrExtended.{PackageSpecOrExtended}
use Rattle.deny_cfg_entries.specs.declared.waiver.Waiver.{Waiver}

abbrev pub words_or_none : Option (List SpannedText) → List SpannedText
words_or_none None = []
words_or_none (Some words) = words

abbrev pub reason_words : Reason → SpannedText
reason_words reason = reason.0

abbrev pub ban_view : PackageSpecOrExtended KrateBan → Ban
ban_view e = record {
  spec = spec_view e.spec;
  wrappers = words_or_none (option_and_then (λ ban. ban.wrappers) e.inner);
  reason = option_map reason_words (option_and_then (λ ban. ban.reason) e.inner);
  use_instead = option_and_then (λ ban. ban.use_instead) e.inner;
}

abbrev pub allow_view : PackageSpecOrExtended Reason → AllowEntry
allow_view e = record { spec = spec_view e.spec; reason = option_map reason_words e.inner }

abbrev pub entry_view : PackageSpecOrExtended Waiver → Entry
entry_view e = record {
  spec = spec_view e.spec;
  reason = option_map reason_words (option_and_then (λ waiver. waiver.reason) e.inner);
}

abbrev pub root_view : ℕ → PackageSpecOrExtended TreeSkipExtended → Root
root_view number e = record {
  number = number;
  spec = spec_view e.spec;
  depth = option_and_then (λ skip. skip.depth) e.inner;
  reason = option_map reason_words (option_and_then (λ skip. skip.reason) e.inner);
}

abbrev pub roots_from : ℕ → List (PackageSpecOrExtended TreeSkipExtended) → List Root
roots_from number [] = []
roots_from number (e ∷ es) = root_view number e ∷ roots_from (number + 1) es

abbrev pub feature_view : ValidKrateFeatures → FeatureEntry
feature_view f = record {
  spec = spec_view f.spec;
  allow = f.features.allow;
  deny = f.features.deny;
  exact = f.features.exact;
}

abbrev pub scope_view : Scope → model.Scope
scope_view scope.All = model.EachCrate
scope_view scope.Workspace = model.Workspace
scope_view scope.Transitive = model.Transitive
scope_view scope.None = model.NoCrate

abbrev pub replacing_view : StdReplacementConfig → Replacing
replacing_view std = record {
  scope = scope_view std.scope;
  level = std.level;
  rust_version = option_map parts_of std.rust_version;
  ignore = map entry_view std.ignore;
  ignore_rust_version = scope_view std.ignore_rust_version;
}

abbrev pub sharing_view : WorkspaceDepsConfig → Sharing
sharing_view shared = record {
  duplicates = shared.duplicates;
  with_paths = shared.include_path_dependencies;
  unused = shared.unused;
}

abbrev pub policy_view : ValidConfig → Policy
policy_view cfg = record {
  multiple_versions = cfg.multiple_versions;
  include_dev = cfg.multiple_versions_include_dev;
  simplest = shows_simplest cfg.highlight;
  lowest = shows_lowest cfg.highlight;
  deny = map ban_view cfg.denied;
  deny_multiple = map spec_view cfg.denied_multiple_versions;
  allow = map allow_view cfg.allowed;
  allow_workspace = cfg.allow_workspace;
  skip = map entry_view cfg.skipped;
  skip_tree = roots_from 0 cfg.tree_skipped;
  features = map feature_view cfg.features;
  workspace_default = cfg.workspace_default_features;
  external_default = cfg.external_default_features;
  wildcards = cfg.wildcards;
  allow_wildcard_paths = cfg.allow_wildcard_paths;
  sharing = option_map sharing_view cfg.workspace_dependencies;
  replacing = option_map replacing_view cfg.std_replacements;
}

-- how build scripts and the files of packages are checked; none where the configuration does not check them
abbrev pub building_of : ValidConfig → Option Building
building_of cfg = option_map building_view cfg.build

-- the number of the file of the built-in globs, where the configuration has some
abbrev pub builtin_file_of : ValidConfig → Option ℕ
builtin_file_of cfg = option_and_then globs_file cfg.build

-- the globs of the table `build` are read from its texts
abbrev pub AreGlobsRead : ValidConfig → Type 0
AreGlobsRead cfg = IfSome cfg.build IsReadBuild

-- an expired waiver as its warning shows it
abbrev pub past_waiver_view : ExpiredWaiver → PastWaiver
past_waiver_view w = record {
  spec = spec_view w.spec;
  expires = record { value = w.expires.value.written; span = w.expires.span };
  reason = option_map reason_words w.reason;
}

-- the waivers of a policy that expired
abbrev pub past_waivers_of : read.Policy → List PastWaiver
past_waivers_of policy = map past_waiver_view policy.expired_waivers
