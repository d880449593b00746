-- The crates of a graph that the standard library replaces, where a policy asks for them.
use Rattle.std.specs.Prelude.{◌≡◌, false, ℕ, Option, None, Some}
use Rattle.deny_base.specs.declared.key.Key.{Key}
use Rattle.deny_spec.specs.Graph.{Graph}
use Rattle.deny_spec.specs.Policy.{Policy, Replacing}
use Rattle.deny_spec_report.specs.Circumstances.{Circumstances}
use Rattle.deny_spec_report.specs.Saying.{Saying}
use Rattle.deny_spec_report.specs.StdReplacements.{asks_for_table}
use Rattle.deny_std.specs.Found.{IsFoundFrom, IsFoundIn, IsOfStd}
use Rattle.deny_std.specs.declared.replacements.Replacements.{Replacements}

-- nothing is looked for exactly where the policy asks for no table
abbrev pub IsFoundForPolicy : Policy → Graph → Saying → Option Replacements → Type 0
IsFoundForPolicy p g said None = asks_for_table p ≡ false
IsFoundForPolicy p g said (Some found) = (r : Replacing) × (p.replacing ≡ Some r) × IsFoundFrom r g said found

-- the replacements that were found in these circumstances; without them no key of replaced crates holds
abbrev pub IsFoundOf : Circumstances → ℕ → Option Replacements → Type 0
IsFoundOf c file None = (key : Key) → IsOfStd c key → ⊥
IsFoundOf c file (Some found) = IsFoundIn c file found
