-- The text of the policy has no faults and no clashes, and this policy is read from it.
use Rattle.std.proofs.Common.{◌≡◌, ◌+◌, ◌∷◌, [], ℕ, Contains, List, None, Option, Some, ap, codes, false, find, inl}
use Rattle.std.proofs.Common.{inr, length, map, refl, subst, sym}
use Rattle.std.specs.Prelude.{filter}
use Rattle.std.proofs.lemmas.Bool.{and_right}
use Rattle.deny_base_lists.proofs.Members.{no_member}
use Rattle.deny_base.specs.declared.span.Span.{Span}
use Rattle.deny_cfg.specs.Clashes.{IsClash, clash_with, clashes_in, banned_specs, is_ban, specs_of, wrappers_clash}
use Rattle.deny_cfg.specs.PolicyText.{IsPolicyOf, ReadsBans, ReadsLicensing, Says, bans_name, faults_of_tree}
use Rattle.deny_cfg.specs.PolicyText.{licenses_name}
use Rattle.deny_cfg.specs.Valid.{IsValidOf}
use Rattle.deny_cfg.specs.Waiting.{no_today}
use Rattle.deny_cfg.specs.declared.clash.Clash.{Clash}
use Rattle.deny_cfg.proofs.OnePolicyLaws.{same_policy}
use Rattle.deny_cfg_entries.specs.SpecView.{same_spec}
use Rattle.deny_cfg_entries.specs.declared.day.Day.{Day}
use Rattle.deny_cli_generator.specs.Made.{below, name_of}
use Rattle.deny_cli_generator.specs.PolicyText.{name_count, policy_text}
use Rattle.deny_spec.specs.Policy as model
use Rattle.deny_spec.specs.Text.{same_text}
use Rattle.deny_cfg_tables.specs.Config.{faults_of_config}
use Rattle.deny_toml.specs.Calls.{below_name}
use Rattle.deny_toml.specs.Faults.{in_order}
use Rattle.deny_toml.specs.Parser.{whole}
use Rattle.deny_toml.specs.value.Value.{Value}
use Rattle.deny_cli_generator_laws.specs.Policies.{IsPolicy, ChecksNoReplacements}
use Rattle.deny_cli_generator_laws.proofs.PolicyConfig.{config_of, denied_spec, skipped_from}
use Rattle.deny_cli_generator_laws.proofs.PolicyDocument.{key_at, text_of}
use Rattle.deny_cli_generator_laws.proofs.PolicyElements.{in_quotes}
use Rattle.deny_cli_generator_laws.proofs.PolicyValid.{policy_of, valid_of}
use Rattle.deny_cli_generator_laws.proofs.PolicySkipped.{is_skipped, spec_text}
use Rattle.deny_cli_generator_laws.proofs.PolicyTableLaws.{bans-faultless, reads-bans}
use Rattle.deny_cli_generator_laws.proofs.PolicyTextsLaws.{policy-text, specs-plain, text-utf8}
use Rattle.deny_cli_generator_laws.proofs.PolicyTreeLaws.{text-tree}
use Rattle.deny_cli_generator_laws.proofs.PolicyValues.{bans_value, deny_value, level_value, policy_tree, skip_value}
use Rattle.deny_cli_generator_laws.proofs.PolicyValues.{tree_of}
use Rattle.deny_cli_generator_laws.proofs.PolicyWaiting.{is-current, waits-for-none}
use Rattle.deny_cli_generator_laws.proofs.PolicyValuesLaws.{below-name}

-- ---- the faults of the tree, and what is read from it

bans_of_tree : (span : Span) (bans : Value) → below_name bans_name (tree_of span bans) ≡ Some bans
bans_of_tree span bans = below-name bans_name span ((key_at 1 (codes "bans"), bans) ∷ [])

licenses_of_tree : (span : Span) (bans : Value) → below_name licenses_name (tree_of span bans) ≡ None
licenses_of_tree span bans = below-name licenses_name span ((key_at 1 (codes "bans"), bans) ∷ [])

tree_faultless : (today : Option Day) (span : Span) (bans : Value) → no_today today (tree_of span bans) ≡ []
    → faults_of_config bans ≡ [] → faults_of_tree today (tree_of span bans) ≡ []
unfolding faults_of_tree in_order
tree_faultless today span bans waits none =
    rw (waits, bans_of_tree span bans, licenses_of_tree span bans, none) refl

says : (today : Option Day) (numbers : List ℕ)
    → Says today (text_of (map spec_text numbers)) (config_of numbers) None
says today numbers =
    let texts = map spec_text numbers in
    let span = whole (text_of texts) in
    let bans = bans_value level_value deny_value (skip_value texts) in
    record {
      utf8 = text-utf8 numbers;
      tree = policy_tree span texts;
      is_tree = text-tree texts (specs-plain numbers);
      faultless = tree_faultless today span bans (waits-for-none today span level_value deny_value texts)
          (bans-faultless numbers);
      reads = subst (λ found. ReadsBans found (config_of numbers)) (sym (bans_of_tree span bans)) (reads-bans numbers);
      reads_licenses = subst (λ found. ReadsLicensing found None) (sym (licenses_of_tree span bans)) refl;
    }

-- ---- no entries clash

-- a spec without a requirement differs from each with one
denied_apart : (at : ℕ) (numbers : List ℕ) → find (same_spec denied_spec) (specs_of (skipped_from at numbers)) ≡ None
denied_apart at [] = refl
denied_apart at (number ∷ numbers) =
    let other = and_right (same_text (codes "c1") (name_of number)) false refl in
    rw other (denied_apart (at + length (in_quotes (spec_text number)) + 2) numbers)

none_clashes : (numbers : List ℕ) → clashes_in (config_of numbers) ≡ []
unfolding clashes_in banned_specs clash_with is_ban wrappers_clash
none_clashes numbers = rw (denied_apart 56 numbers) refl

no_clash : (source numbers : List ℕ) (found : Clash) → IsClash source (config_of numbers) found → ⊥
no_clash source numbers found (inl is) =
    no_member found (subst (λ (xs : List Clash). Contains xs found) (none_clashes numbers) is)
no_clash source numbers found (inr is) = is

valid : (file : ℕ) (numbers : List ℕ) → IsValidOf (config_of numbers) file (file + 1) (valid_of file numbers)
unfolding is_ban
valid file numbers = record {
  file_id = refl;
  multiple_versions = refl;
  include_dev = refl;
  highlight = refl;
  denied = refl;
  denied_multiple_versions = refl;
  allowed = refl;
  allow_workspace = refl;
  external_default_features = refl;
  workspace_default_features = refl;
  features = refl;
  skipped = refl;
  tree_skipped = refl;
  wildcards = refl;
  allow_wildcard_paths = refl;
  workspace_dependencies = refl;
  std_replacements = refl;
  build = tt;
}

said : (today : Option Day) (file : ℕ) (numbers : List ℕ)
    → IsPolicyOf today (text_of (map spec_text numbers)) file (policy_of file numbers)
said today file numbers = record {
  config = config_of numbers;
  licensing = None;
  says = says today numbers;
  no_clash = no_clash (text_of (map spec_text numbers)) numbers;
  written = valid_of file numbers;
  valid = valid file numbers;
  current = is-current today file numbers;
  warnings = refl;
}

-- ---- the policy for a number of crates

-- the numbers of the names that the policy skips
abbrev numbers_of : ℕ → List ℕ
numbers_of crates = filter is_skipped (below (name_count crates))

made : (today : Option Day) (file crates : ℕ)
    → IsPolicyOf today (policy_text crates) file (policy_of file (numbers_of crates))
made today file crates =
    subst (λ text. IsPolicyOf today text file (policy_of file (numbers_of crates))) (sym (policy-text crates))
    (said today file (numbers_of crates))

pub is-policy : (crates : ℕ) → IsPolicy (policy_text crates)
is-policy crates = λ today file. (policy_of file (numbers_of crates), made today file crates)

pub is_on-none : (crates : ℕ) → ChecksNoReplacements (policy_text crates)
is_on-none crates = λ today file said is.
    ap (λ (p : model.Policy). p.replacing)
    (same_policy today (policy_text crates) file said (policy_of file (numbers_of crates)) is (made today file crates))
