-- Generated inputs are those of a valid run, and no reading fails for them.
use Rattle.std.proofs.Common.{◌≡◌, ◌≤◌, ◌<◌, ◌^◌, ℕ, false, List, Option, None, Some, not, refl, sym, ap, ◌∙◌}
use Rattle.std.proofs.Common.{arith}
use Rattle.std.specs.Option.{option_map_or}
use Rattle.deny_base.specs.declared.check.Which.{Which}
use Rattle.deny_cfg.specs.PolicyView.{policy_view}
use Rattle.deny_spec_report.specs.StdReplacements.{asks_for_table, looks_at_none}
use Rattle.deny_gate.specs.Gating.{AsksForTable}
use Rattle.deny_gate.specs.Report.{policy_id}
use Rattle.deny_cli_generator.specs.MetadataText.{metadata_text}
use Rattle.deny_cli_generator.specs.PolicyText.{policy_text}
use Rattle.deny_cli_generator_laws.specs.Faults.{HasNoFault}
use Rattle.deny_cli_generator_laws.specs.Policies.{IsPolicy, ChecksNoReplacements}
use Rattle.deny_spec.specs.Policy.{Replacing}
use Rattle.deny_base_disk.specs.Disk.{Disk}
use Rattle.deny_cli.specs.Causes.{IsReadable, IsValidRun, made_inputs}
use Rattle.deny_cli.specs.Arguments.{Asks, Command, generate, most_crates, path_of}
use Rattle.deny_cli.proofs.CausesLemmas.{made_short}
use Rattle.deny_cli.proofs.ArgumentsLemmas.{asks_for_few, one_command}

-- the laws on generated inputs
pub record MadeLaws : Type 0 where
  pub policy : (crates : ℕ) → IsPolicy (policy_text crates)
  pub no_table : (crates : ℕ) → ChecksNoReplacements (policy_text crates)
  pub metadata : (crates : ℕ) → crates < 2 ^ 64 → HasNoFault (metadata_text crates)

asks_for_none : MadeLaws → (crates : ℕ) → AsksForTable None (policy_text crates) → ⊥
asks_for_none laws crates asked =
    let none = laws.no_table crates None policy_id asked.said asked.is_said in
    let not_asked : asks_for_table (policy_view asked.said.bans) ≡ false =
    ap (λ (active : Option Replacing). option_map_or (λ r. not (looks_at_none r.scope)) active false) none in
    absurd (cc (not_asked, asked.asks))

pub made_valid : MadeLaws → (old : Disk) (arguments : List (List ℕ)) (crates : ℕ) → Asks arguments (generate crates)
    → IsValidRun old arguments
made_valid laws old arguments crates asks =
    let few : crates ≤ most_crates = asks_for_few arguments (generate crates) asks in
    let policy = laws.policy crates None policy_id in
    let metadata = laws.metadata crates (omega (arith, few)) in
    record {
      named = record { command = generate crates; asks = asks; texts = made_inputs crates; known = refl };
      short = made_short crates few;
      policy = record { said = policy.0; is_said = policy.1 };
      metadata = record { read = metadata.read; is_read = metadata.is_read };
      table = λ asked. absurd (asks_for_none laws crates asked);
    }

no_path : (crates : ℕ) (command : Command) (which : Which) (path : List ℕ) → command ≡ generate crates
    → path_of command which ≡ Some path → ⊥
no_path crates command which path is named =
    let none : None ≡ Some path = sym (ap (λ (c : Command). path_of c which) is) ∙ named in
    absurd (cc none)

-- no input is read for generated crates
pub made_readable : (old new : Disk) (arguments : List (List ℕ)) (crates : ℕ) → Asks arguments (generate crates)
    → IsReadable old new arguments
made_readable old new arguments crates asks = λ command asked which path wanted rose.
    no_path crates command which path (one_command arguments command (generate crates) asked asks) wanted.is_its_path
