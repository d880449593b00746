-- The configuration that is read from the policy.
use Rattle.std.specs.Prelude.{◌+◌, ◌∷◌, [], ℕ, List, None, Some, codes, false, length, refl}
use Rattle.deny_base.specs.declared.level.LintLevel.TheVariants as level
use Rattle.deny_cfg_entries.specs.Spec.{name_span}
use Rattle.deny_cfg_entries.specs.declared.package_spec.PackageSpec.{PackageSpec}
use Rattle.deny_cfg_entries.specs.declared.waiver.Waiver.{Waiver}
use Rattle.deny_cfg_entries.specs.declared.spec_or_extended.PackageSpecOrExtended.{PackageSpecOrExtended}
use Rattle.deny_cfg_tables.specs.declared.bans.cfg.ban.CrateBanExtended.{CrateBanExtended}
use Rattle.deny_cfg_tables.specs.declared.bans.cfg.config.Config.{Config}
use Rattle.deny_cfg_tables.specs.declared.bans.cfg.highlight.GraphHighlight.TheVariants as highlight
use Rattle.deny_toml.specs.value.Value.{Value}
use Rattle.deny_cli_generator.specs.Made.{name_of}
use Rattle.deny_cli_generator_laws.proofs.PolicyElements.{in_quotes}
use Rattle.deny_cli_generator_laws.proofs.PolicySkipped.{spec_text}
use Rattle.deny_cli_generator_laws.proofs.PolicyValues.{text_value}
use Rattle.deny_cli_generator_laws.proofs.PolicyRequirement.{only_one, read_only_one}

-- the spec of the first version of a name, read from this value
abbrev pub skipped_spec : Value → ℕ → PackageSpec
skipped_spec v number = record {
  name = record { value = name_of number; span = name_span v (name_of number) };
  version_req = Some only_one;
  req_text = Some (codes "=1.0.0");
  read = read_only_one;
}

abbrev pub skipped_entry : Value → ℕ → PackageSpecOrExtended Waiver
skipped_entry v number = record { spec = skipped_spec v number; inner = None }

-- the entries of a list whose first quote is at an offset
abbrev pub skipped_from : ℕ → List ℕ → List (PackageSpecOrExtended Waiver)
skipped_from at [] = []
skipped_from at (number ∷ numbers) =
    skipped_entry (text_value at (spec_text number)) number
    ∷ skipped_from (at + length (in_quotes (spec_text number)) + 2) numbers

-- the spec of the denied crate, which has no requirement
abbrev pub denied_spec : PackageSpec
denied_spec = record {
  name = record { value = codes "c1"; span = name_span (text_value 42 (codes "c1")) (codes "c1") };
  version_req = None;
  req_text = None;
  read = refl;
}

abbrev pub denied_entry : PackageSpecOrExtended CrateBanExtended
denied_entry = record { spec = denied_spec; inner = None }

-- the configuration with these entries of `skip`; all else but the level and the denied crate has its default
abbrev pub config_with : List (PackageSpecOrExtended Waiver) → Config
config_with skipped = record {
  multiple_versions = level.Deny;
  multiple_versions_include_dev = false;
  highlight = highlight.All;
  deny = denied_entry ∷ [];
  allow = [];
  allow_workspace = false;
  external_default_features = None;
  workspace_default_features = None;
  features = [];
  skip = skipped;
  skip_tree = [];
  wildcards = level.Allow;
  allow_wildcard_paths = false;
  allow_build_scripts = None;
  build = None;
  workspace_dependencies = None;
  std_replacements = None;
}

-- the configuration that skips the names of these numbers
abbrev pub config_of : List ℕ → Config
config_of numbers = config_with (skipped_from 56 numbers)
