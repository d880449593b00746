-- The text and the numbers of a stop.
use Rattle.std.specs.Prelude.{ℕ, ◌<◌, ◌^◌, List, All, IsUtf8, length, ⊤}
use Rattle.deny_toml.specs.error.ConfigFault.{ConfigFault}
use Rattle.deny_gate.specs.declared.report.GateError.TheVariants as gate
use Rattle.deny_cli.specs.declared.outcome.Outcome.{Outcome}
use Rattle.deny_cli.specs.declared.outcome.Outcome.TheVariants.{Done, Usage, Read, Long, Gate, Write, Memory}

-- where entries of the policy clash, the bytes are a text that is not long
abbrev pub IsTextOf : Outcome → List ℕ → Type 0
IsTextOf (Done report) policy = ⊤
IsTextOf (Usage at) policy = ⊤
IsTextOf (Read which) policy = ⊤
IsTextOf (Long which) policy = ⊤
IsTextOf (Gate (gate.Config faults)) policy = ⊤
IsTextOf (Gate (gate.Invalid clashes)) policy = IsUtf8 policy × length policy < 2 ^ 28
IsTextOf (Gate (gate.Metadata fault)) policy = ⊤
IsTextOf (Gate (gate.Replacement at)) policy = ⊤
IsTextOf (Gate gate.Memory) policy = ⊤
IsTextOf (Write report) policy = ⊤
IsTextOf Memory policy = ⊤

-- the span of a fault has numbers of 64 bits
abbrev pub HasSpan : ConfigFault → Type 0
HasSpan fault = (fault.span.start < 2 ^ 64) × (fault.span.end < 2 ^ 64)

-- the numbers of a stop have 64 bits; those of labels are lines and columns of the policy
abbrev pub HasStopNumbers : Outcome → Type 0
HasStopNumbers (Done report) = ⊤
HasStopNumbers (Usage at) = at < 2 ^ 64
HasStopNumbers (Read which) = ⊤
HasStopNumbers (Long which) = ⊤
HasStopNumbers (Gate (gate.Config faults)) = All HasSpan faults
HasStopNumbers (Gate (gate.Invalid clashes)) = ⊤
HasStopNumbers (Gate (gate.Metadata fault)) = ⊤
HasStopNumbers (Gate (gate.Replacement at)) = at < 2 ^ 64
HasStopNumbers (Gate gate.Memory) = ⊤
HasStopNumbers (Write report) = ⊤
HasStopNumbers Memory = ⊤
