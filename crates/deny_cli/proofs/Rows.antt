-- Worked cases of lines. Those of findings are with the definitions of findings.
use Rattle.std.proofs.Common.{◌≡◌, ◌++◌, false, [], ◌∷◌, None, codes, refl}
use Rattle.std.specs.Fmt.{digits}
use Rattle.serde_json.proofs.OnLiterals.{serde_json_on_literals}
use Rattle.deny_base.specs.declared.check.Which.TheVariants as which
use Rattle.deny_base.specs.declared.entry.EntryKind.TheVariants as entry
use Rattle.deny_krates.specs.fault.MetadataFault.TheVariants as fault
use Rattle.deny_spec.specs.Graph.{Graph}
use Rattle.deny_base.specs.declared.purpose.Purpose.TheVariants as purpose
use Rattle.deny_gate.specs.declared.report.GateError.TheVariants as gate
use Rattle.deny_gate.specs.declared.report.Verdict.TheVariants.{Pass, Fail}
use Rattle.deny_gate_json.specs.Lines.{line}
use Rattle.deny_toml.specs.error.FaultKind.TheVariants as kind
use Rattle.deny_cli.specs.Lines.{dead_line, malformed_line, unread_line, verdict_line}
use Rattle.deny_cli.specs.Stops.{fault_value, stop_line}
use Rattle.deny_cli.specs.Summary.{summary_value}
use Rattle.deny_cli.specs.declared.outcome.Outcome.TheVariants.{Usage, Long, Gate}

pub passes : verdict_line Pass ≡ codes "{\"fields\":{\"bits\":0,\"verdict\":\"pass\"},\"type\":\"verdict\"}\n"
unfolding serde_json_on_literals digits verdict_line
passes = refl

pub fails : verdict_line (Fail 2) ≡ codes "{\"fields\":{\"bits\":2,\"verdict\":\"fail\"},\"type\":\"verdict\"}\n"
unfolding serde_json_on_literals digits verdict_line
fails = refl

pub fails_twice : verdict_line (Fail 6) ≡ codes "{\"fields\":{\"bits\":6,\"verdict\":\"fail\"},\"type\":\"verdict\"}\n"
unfolding serde_json_on_literals digits verdict_line
fails_twice = refl

-- a dead entry is shown by its kind and its span
pub is_dead : dead_line (record { kind = entry.Wrapper; range = record { start = 45; end = 46 } })
    ≡ codes "{\"fields\":{\"end\":46,\"kind\":\"wrapper\",\"start\":45},\"type\":\"dead\"}\n"
unfolding serde_json_on_literals digits dead_line
is_dead = refl

pub is_dead_exception : dead_line (record { kind = entry.LicenseException; range = record { start = 0; end = 7 } })
    ≡ codes "{\"fields\":{\"end\":7,\"kind\":\"license-exception\",\"start\":0},\"type\":\"dead\"}\n"
unfolding serde_json_on_literals digits dead_line
is_dead_exception = refl

-- what could not be read of a workspace that is no crate has no crate
pub is_unread : (g : Graph)
    → unread_line g (record { krate = None; path = codes "/w/Cargo.toml"; purpose = purpose.Manifest }) ≡ codes
    "{\"fields\":{\"crate\":null,\"path\":\"/w/Cargo.toml\",\"purpose\":\"manifest\"},\"type\":\"unread\"}\n"
unfolding serde_json_on_literals digits unread_line
is_unread g = refl

pub is_malformed : malformed_line (codes "/w/a/Cargo.toml")
    ≡ codes "{\"fields\":{\"path\":\"/w/a/Cargo.toml\"},\"type\":\"malformed\"}\n"
unfolding serde_json_on_literals digits malformed_line
is_malformed = refl

-- a summary of four crates and the member above them, with three errors
pub sums_up : line (summary_value 4 5 0 3 (Fail 2)) ≡ codes
    "{\"fields\":{\"crates\":5,\"dead\":0,\"errors\":3,\"generated\":4,\"verdict\":\"fail\"},\"type\":\"summary\"}\n"
unfolding serde_json_on_literals digits
sums_up = refl

pub sums_up_nothing : line (summary_value 0 1 0 0 Pass) ≡ codes
    "{\"fields\":{\"crates\":1,\"dead\":0,\"errors\":0,\"generated\":0,\"verdict\":\"pass\"},\"type\":\"summary\"}\n"
unfolding serde_json_on_literals digits
sums_up_nothing = refl

pub ends_early : stop_line [] (Usage 1) ≡ codes "{\"fields\":{\"at\":1,\"stop\":\"usage\"},\"type\":\"stop\"}\n"
unfolding serde_json_on_literals digits stop_line
ends_early = refl

pub is_long : stop_line [] (Long which.Metadata)
    ≡ codes "{\"fields\":{\"file\":\"metadata\",\"stop\":\"long\"},\"type\":\"stop\"}\n"
unfolding serde_json_on_literals digits stop_line
is_long = refl

pub is_unknown : stop_line []
    (Gate (gate.Config (record
    { span = record { start = 7; end = 14 }; kind = kind.Unknown; key = codes "bans.clarify"; is_nameless = false }
    ∷ [])))
    ≡ codes "{\"fields\":{\"faults\":[{\"end\":14,\"key\":\"bans.clarify\",\"kind\":\"unknown\",\"start\":7}],"
    ++ codes "\"stop\":\"config\"},\"type\":\"stop\"}\n"
unfolding serde_json_on_literals digits stop_line fault_value
is_unknown = refl

pub is_a_fault : stop_line [] (Gate (gate.Metadata (fault.Shape (codes "packages.0.name"))))
    ≡ codes
    "{\"fields\":{\"detail\":\"packages.0.name\",\"fault\":\"shape\",\"stop\":\"metadata\"},\"type\":\"stop\"}\n"
unfolding serde_json_on_literals digits stop_line
is_a_fault = refl

pub is_no_table : stop_line [] (Gate (gate.Replacement 25))
    ≡ codes "{\"fields\":{\"offset\":25,\"stop\":\"replacement\"},\"type\":\"stop\"}\n"
unfolding serde_json_on_literals digits stop_line
is_no_table = refl
