-- The policy that skips the names of some numbers, as it is read from a file.
use Rattle.std.specs.Prelude.{◌∷◌, [], ℕ, List, None, false}
use Rattle.deny_base.specs.declared.level.LintLevel.TheVariants as level
use Rattle.deny_cfg.specs.declared.bans.cfg.valid.ValidConfig.{ValidConfig}
use Rattle.deny_cfg.specs.declared.policy.Policy.{Policy}
use Rattle.deny_cfg_tables.specs.declared.bans.cfg.highlight.GraphHighlight.TheVariants as highlight
use Rattle.deny_cli_generator_laws.proofs.PolicyConfig.{denied_spec, skipped_from}

abbrev pub valid_of : ℕ → List ℕ → ValidConfig
valid_of file numbers = record {
  file_id = file;
  multiple_versions = level.Deny;
  multiple_versions_include_dev = false;
  highlight = highlight.All;
  denied = record { spec = denied_spec; inner = None } ∷ [];
  denied_multiple_versions = [];
  allowed = [];
  allow_workspace = false;
  external_default_features = None;
  workspace_default_features = None;
  features = [];
  skipped = skipped_from 56 numbers;
  tree_skipped = [];
  wildcards = level.Allow;
  allow_wildcard_paths = false;
  workspace_dependencies = None;
  std_replacements = None;
  build = None;
}

abbrev pub policy_of : ℕ → List ℕ → Policy
policy_of file numbers = record {
  bans = valid_of file numbers;
  licenses = None;
  expired = [];
  expired_waivers = [];
  warnings = [];
}
