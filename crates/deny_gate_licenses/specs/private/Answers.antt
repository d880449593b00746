-- A policy's answers to the requirements of a crate's licence expression.
use Rattle.std.specs.Prelude.{◌≡◌, ◌++◌, ◌∷◌, ℕ, List, [], Option, None, Some, codes, map}
use Rattle.std.specs.List.{flat_map}
use Rattle.std.specs.Option.{option_or}
use Rattle.deny_spdx.specs.declared.requirement.Requirement.{Requirement}
use Rattle.deny_spec.specs.Graph.{Crate}
use Rattle.deny_spec.specs.Licensing.{Licensing}
use Rattle.deny_spec_report.specs.Licences.{asked_of, is_granted, requirement_text}
use Rattle.deny_gate_licenses.specs.declared.answers.Answers.{Answers}
use Rattle.deny_gate_licenses.specs.declared.granter.Granter.{Granter}
use Rattle.deny_gate_licenses.specs.declared.granting.Granting.{Granting}
use Rattle.deny_gate_licenses.specs.declared.grants.Grants.{Grants}
use Rattle.deny_gate_licenses.specs.private.Granters.{granter_of}
use Rattle.deny_gate_licenses.specs.private.Grants.{granter_in, wanted_of}

abbrev pub granters_by : Option Granter → List Granter
granters_by None = []
granters_by (Some by) = by ∷ []

abbrev pub rejected_note : Requirement → List ℕ
rejected_note r = codes "rejected = '" ++ (requirement_text r ++ codes "'")

-- the note of a requirement that nothing grants
abbrev pub notes_by : Option Granter → Requirement → List (List ℕ)
notes_by None r = rejected_note r ∷ []
notes_by (Some by) r = []

-- the entry that grants a requirement, by the exceptions that match the crate
abbrev pub granter_from : Grants → Granting → Requirement → Option Granter
granter_from excepted granting r = option_or (granter_in excepted (wanted_of r))
    (granter_in granting.allowed (wanted_of r))

abbrev pub granter_for : Licensing → Crate → Requirement → Option Granter
granter_for l c r = granter_of l (asked_of c r)

abbrev pub granters_for : Licensing → Crate → List Requirement → List Granter
granters_for l c rs = flat_map (λ r. granters_by (granter_for l c r)) rs

abbrev pub notes_for : Licensing → Crate → List Requirement → List (List ℕ)
notes_for l c rs = flat_map (λ r. notes_by (granter_for l c r) r) rs

-- for each requirement whether it is granted, the granters of those that are, and notes of those that are not
pub record AreAnswers (l : Licensing) (c : Crate) (rs : List Requirement) (answers : Answers) : Type 0 where
  pub allowed : answers.allowed ≡ map (λ r. is_granted l (asked_of c r)) rs
  pub granters : answers.granters ≡ granters_for l c rs
  pub notes : answers.notes ≡ notes_for l c rs
