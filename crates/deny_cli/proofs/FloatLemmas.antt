-- No value of a dead entry, of something unread or malformed, of a stop or of a summary holds a float.
use Rattle.std.proofs.Common.{◌≡◌, ℕ, false, List, [], ◌∷◌, Option, None, Some, codes, refl}
use Rattle.std.specs.Option.{option_map_or}
use Rattle.std.specs.Prelude.{map}
use Rattle.serde_json.specs.Data.{array, member, no_members, null, string}
use Rattle.serde_json.specs.View.{items_of}
use Rattle.serde_json.specs.Written.{has_float, members_have_float}
use Rattle.deny_base.specs.declared.entry.EntryId.{EntryId}
use Rattle.deny_base.specs.declared.span.Kid.{Kid}
use Rattle.deny_cfg.specs.PolicyText.{policy_file}
use Rattle.deny_krates.specs.Ids.{crate_of}
use Rattle.deny_spec.specs.Graph.{Crate, Graph}
use Rattle.deny_toml.specs.error.ConfigFault.{ConfigFault}
use Rattle.deny_base.specs.declared.unread.Unread.{Unread}
use Rattle.deny_gate.specs.declared.report.GateError.TheVariants as gate
use Rattle.deny_gate.specs.declared.report.Report.{Report}
use Rattle.deny_gate_json.specs.Diagnostics.{diagnostic_value, reports}
use Rattle.deny_gate_json.proofs.FloatLemmas.{in_diagnostic, in_front, in_items, in_reports}
use Rattle.deny_cli.specs.Dead.{dead_value}
use Rattle.deny_cli.specs.Stops.{fault_value, stop_fields, stop_word}
use Rattle.deny_cli.specs.Summary.{report_summary}
use Rattle.deny_cli.specs.Unread.{malformed_value, named_crate, purpose_word, unread_value, wanted_for}
use Rattle.deny_cli.specs.declared.outcome.Outcome.{Outcome}
use Rattle.deny_cli.specs.declared.outcome.Outcome.TheVariants.{Done, Usage, Read, Long, Gate, Write, Memory}

pub in_dead : (e : EntryId) → has_float (dead_value e) ≡ false
in_dead e = refl

in_wanted : (g : Graph) (krate : Option Kid) → has_float (wanted_for g krate) ≡ false
in_wanted g None = refl
in_wanted g (Some kid) = in_named (crate_of g kid.0)
  where
    in_named : (c : Option Crate) → has_float (option_map_or named_crate c null) ≡ false
    in_named None = refl
    in_named (Some c) = refl

pub in_unread : (g : Graph) (u : Unread) → has_float (unread_value g u) ≡ false
in_unread g u =
    let others = member (codes "path") (string u.path)
    (member (codes "purpose") (string (purpose_word u.purpose)) no_members) in
    in_reports (codes "unread") (member (codes "crate") (wanted_for g u.krate) others)
    (in_front (codes "crate") (wanted_for g u.krate) others (in_wanted g u.krate) refl)

pub in_malformed : (path : List ℕ) → has_float (malformed_value path) ≡ false
in_malformed path = refl

pub in_summary : (made : ℕ) (report : Report) → has_float (report_summary made report) ≡ false
in_summary made report = refl

in_fault : (fault : ConfigFault) → has_float (fault_value fault) ≡ false
unfolding fault_value
in_fault fault = refl

in_stop_fields : (policy : List ℕ) (outcome : Outcome) → members_have_float (stop_fields policy outcome) ≡ false
in_stop_fields policy (Done report) = refl
in_stop_fields policy (Usage at) = refl
in_stop_fields policy (Read which) = refl
in_stop_fields policy (Long which) = refl
in_stop_fields policy (Gate (gate.Config faults)) = in_front (codes "faults")
    (array (items_of (map fault_value faults))) (stop_word (codes "config")) (in_items fault_value in_fault faults) refl
in_stop_fields policy (Gate (gate.Invalid clashes)) =
    in_front (codes "diagnostics") (array (items_of (map (diagnostic_value (policy_file policy ∷ [])) clashes)))
    (stop_word (codes "invalid"))
    (in_items (diagnostic_value (policy_file policy ∷ [])) (in_diagnostic (policy_file policy ∷ [])) clashes) refl
in_stop_fields policy (Gate (gate.Metadata fault)) = refl
in_stop_fields policy (Gate (gate.Replacement at)) = refl
in_stop_fields policy (Gate gate.Memory) = refl
in_stop_fields policy (Write report) = refl
in_stop_fields policy Memory = refl

pub in_stop : (policy : List ℕ) (outcome : Outcome)
    → has_float (reports (codes "stop") (stop_fields policy outcome)) ≡ false
in_stop policy outcome = in_reports (codes "stop") (stop_fields policy outcome) (in_stop_fields policy outcome)
