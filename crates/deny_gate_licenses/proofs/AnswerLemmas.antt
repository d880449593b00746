-- The answers to requirements, by the entries that grant them.
use Rattle.std.proofs.Common.{◌≡◌, IfOk, List, Option, is_some, map, sym, ap, ◌∙◌}
use Rattle.std.specs.Prelude.{Result, Ok, Err, option_map}
use Rattle.std.specs.List.{flat_map}
use Rattle.std.specs.Option.{option_or}
use Rattle.deny_base_lists.proofs.Agreement.{flat_map_on, map_on}
use Rattle.deny_base_lists.specs.declared.memory.NoMemory.{NoMemory}
use Rattle.deny_spdx.specs.declared.requirement.Requirement.{Requirement}
use Rattle.deny_krates.specs.Crates.{crate_view}
use Rattle.deny_krates.specs.krate.Krate.{Krate}
use Rattle.deny_spec_report.specs.Licences.{asked_of, exception_of, is_granted}
use Rattle.deny_cfg.specs.LicensingView.{licensing_view}
use Rattle.deny_gate_licenses.specs.declared.answers.Answers.{Answers}
use Rattle.deny_gate_licenses.specs.declared.granter.Granter.{Granter}
use Rattle.deny_gate_licenses.specs.declared.granting.Granting.{Granting}
use Rattle.deny_gate_licenses.specs.declared.grants.Grants.{Grants}
use Rattle.deny_gate_licenses.specs.private.Answers.{AreAnswers, granter_for, granter_from, granters_by, notes_by}
use Rattle.deny_gate_licenses.specs.private.Granters.{exception_granter, granter_of}
use Rattle.deny_gate_licenses.specs.private.Grants.{granter_in, wanted_of}
use Rattle.deny_gate_licenses.proofs.GrantLemmas.{allowed-is}
use Rattle.deny_gate_licenses.proofs.GranterLemmas.{granted-by}

module _ (granting : Granting) (excepted : Grants) (k : Krate)
    (is : (r : Requirement) → granter_in excepted (wanted_of r)
    ≡ option_map exception_granter (exception_of (licensing_view granting.cfg.now) (asked_of (crate_view 0 k) r))) where
  granter-is : (r : Requirement)
      → granter_from excepted granting r ≡ granter_for (licensing_view granting.cfg.now) (crate_view 0 k) r
  unfolding granter_of
  granter-is r =
      let c = crate_view 0 k in
      ap (λ (o : Option Granter). option_or o (granter_in granting.allowed (wanted_of r))) (is r)
      ∙ ap (option_or (option_map exception_granter (exception_of (licensing_view granting.cfg.now) (asked_of c r))))
      (granting.found.at (wanted_of r) ∙ allowed-is c r granting.cfg.now.allow)

  are-answers-of : (rs : List Requirement) (answers : Answers)
      → answers.allowed ≡ map (λ r. is_some (granter_from excepted granting r)) rs
      → answers.granters ≡ flat_map (λ r. granters_by (granter_from excepted granting r)) rs
      → answers.notes ≡ flat_map (λ r. notes_by (granter_from excepted granting r) r) rs
      → AreAnswers (licensing_view granting.cfg.now) (crate_view 0 k) rs answers
  are-answers-of rs answers allowed granters notes =
      let l = licensing_view granting.cfg.now in
      let c = crate_view 0 k in
      record {
        allowed = allowed
            ∙ map_on (λ r. is_some (granter_from excepted granting r)) (λ r. is_granted l (asked_of c r)) rs
            (λ r _. ap is_some (granter-is r) ∙ sym (granted-by l (asked_of c r)));
        granters = granters
            ∙ flat_map_on (λ r. granters_by (granter_from excepted granting r))
            (λ r. granters_by (granter_for l c r)) rs
            (λ r _. ap granters_by (granter-is r));
        notes = notes
            ∙ flat_map_on (λ r. notes_by (granter_from excepted granting r) r) (λ r. notes_by (granter_for l c r) r) rs
            (λ r _. ap (λ o. notes_by o r) (granter-is r));
      }

  pub are-answers : (rs : List Requirement) (result : Result Answers NoMemory)
      → IfOk result (λ answers. answers.allowed ≡ map (λ r. is_some (granter_from excepted granting r)) rs)
      → IfOk result (λ answers. answers.granters ≡ flat_map (λ r. granters_by (granter_from excepted granting r)) rs)
      → IfOk result (λ answers. answers.notes ≡ flat_map (λ r. notes_by (granter_from excepted granting r) r) rs)
      → IfOk result (AreAnswers (licensing_view granting.cfg.now) (crate_view 0 k) rs)
  are-answers rs (Ok answers) = are-answers-of rs answers
  are-answers rs (Err error) = λ allowed granters notes. tt
