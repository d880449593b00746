-- The line of a stop is read back as its value.
use Rattle.std.proofs.Common.{◌<◌, ◌^◌, ℕ, List, [], ◌∷◌, arith, get_or, length, refl}
use Rattle.std.specs.Prelude.{All}
use Rattle.std.proofs.lemmas.List.Elements.{All-cons, All-nil, All-weaker}
use Rattle.deny_base.specs.declared.files.File.{File}
use Rattle.deny_base.specs.declared.finding.Diagnostic.{Diagnostic}
use Rattle.deny_cfg.specs.PolicyText.{policy_file}
use Rattle.deny_gate_json.specs.Diagnostics.{diagnostic_value}
use Rattle.deny_gate_json.specs.Reading.{AreJsonLines, AreShort, IsPlain, MembersArePlain}
use Rattle.deny_gate_json.proofs.PlainLemmas.{diagnostic_plain, each_reported}
use Rattle.deny_toml.specs.error.ConfigFault.{ConfigFault}
use Rattle.deny_gate.specs.declared.report.GateError.TheVariants as gate
use Rattle.deny_cli.specs.Stops.{fault_value, stop_fields, stop_line, stop_value}
use Rattle.deny_cli.specs.private.Stops.{HasSpan, HasStopNumbers, IsTextOf}
use Rattle.deny_cli.specs.declared.outcome.Outcome.{Outcome}
use Rattle.deny_cli.specs.declared.outcome.Outcome.TheVariants.{Done, Usage, Read, Long, Gate, Write, Memory}
use Rattle.deny_cli.proofs.ValueLemmas.{json_line}

fault_plain : (fault : ConfigFault) → HasSpan fault → IsPlain (fault_value fault)
unfolding fault_value
fault_plain fault fits = (refl, fits.1, (refl, tt, (refl, tt, (tt, fits.0, tt))))

policy_short : (policy : List ℕ) → length policy < 2 ^ 28 → AreShort (policy_file policy ∷ [])
policy_short policy short = All-cons (λ (file : File). length file.source < 2 ^ 63) (policy_file policy) []
    (omega (arith, short)) (All-nil (λ (file : File). length file.source < 2 ^ 63))

fields_plain : (policy : List ℕ) (outcome : Outcome) → IsTextOf outcome policy → HasStopNumbers outcome
    → MembersArePlain (stop_fields policy outcome)
fields_plain policy (Done report) text fit = tt
fields_plain policy (Usage at) text fit = (refl, fit, (tt, tt, tt))
fields_plain policy (Read which) text fit = (refl, tt, (tt, tt, tt))
fields_plain policy (Long which) text fit = (refl, tt, (tt, tt, tt))
fields_plain policy (Gate (gate.Config faults)) text fit = (
  refl,
  each_reported fault_value faults (All-weaker HasSpan (λ fault. IsPlain (fault_value fault)) fault_plain faults fit),
  (tt, tt, tt),
)
fields_plain policy (Gate (gate.Invalid clashes)) text fit =
    let files : List File = policy_file policy ∷ [] in
    let each : All (λ (d : Diagnostic). IsPlain (diagnostic_value files d)) clashes =
    λ k d within. diagnostic_plain files (get_or clashes k d) (policy_short policy text.1) in
    (refl, each_reported (diagnostic_value files) clashes each, (tt, tt, tt))
fields_plain policy (Gate (gate.Metadata fault)) text fit = (refl, tt, (refl, tt, (tt, tt, tt)))
fields_plain policy (Gate (gate.Replacement at)) text fit = (refl, fit, (tt, tt, tt))
fields_plain policy (Gate gate.Memory) text fit = (tt, tt, tt)
fields_plain policy (Write report) text fit = (tt, tt, tt)
fields_plain policy Memory text fit = (tt, tt, tt)

pub json_stop : (policy : List ℕ) (outcome : Outcome) → IsTextOf outcome policy → HasStopNumbers outcome
    → AreJsonLines (stop_line policy outcome) (stop_value policy outcome ∷ [])
unfolding stop_line
json_stop policy outcome text fit =
    json_line (stop_value policy outcome) (refl, fields_plain policy outcome text fit, (tt, tt, tt))
