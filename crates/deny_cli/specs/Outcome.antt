-- The outcomes of a run, by cases.
use Rattle.std.specs.Prelude.{◌≡◌, ◌+◌, ℕ, ⊤, List, if◌then◌else◌}
use Rattle.std.specs.List.{list_any}
use Rattle.deny_base.specs.declared.check.Check.TheVariants.{Bans, Licenses}
use Rattle.deny_gate.specs.Gating.{AreOneCause}
use Rattle.deny_gate.specs.Report.{fails_as}
use Rattle.deny_gate.specs.declared.report.Finding.{Finding}
use Rattle.deny_gate.specs.declared.report.GateError.{GateError}
use Rattle.deny_gate.specs.declared.report.GateError.TheVariants as gate
use Rattle.deny_gate.specs.declared.report.Report.{Report}
use Rattle.deny_gate.specs.declared.report.Verdict.{Verdict}
use Rattle.deny_gate.specs.declared.report.Verdict.TheVariants.{Pass, Fail}
use Rattle.deny_cli.specs.declared.outcome.Outcome.{Outcome}
use Rattle.deny_cli.specs.declared.outcome.Outcome.TheVariants.{Done, Usage, Read, Long, Gate, Write, Memory}

abbrev pub IfDone : Outcome → (Report → Type 0) → Type 0
IfDone (Done report) P = P report
IfDone (Usage at) P = ⊤
IfDone (Read which) P = ⊤
IfDone (Long which) P = ⊤
IfDone (Gate error) P = ⊤
IfDone (Write report) P = ⊤
IfDone Memory P = ⊤

-- a property of the report that was made, whether the output took its lines or not
abbrev pub IfReported : Outcome → (Report → Type 0) → Type 0
IfReported (Done report) P = P report
IfReported (Usage at) P = ⊤
IfReported (Read which) P = ⊤
IfReported (Long which) P = ⊤
IfReported (Gate error) P = ⊤
IfReported (Write report) P = P report
IfReported Memory P = ⊤

abbrev pub IsUsage : Outcome → Type 0
IsUsage (Done report) = ⊥
IsUsage (Usage at) = ⊤
IsUsage (Read which) = ⊥
IsUsage (Long which) = ⊥
IsUsage (Gate error) = ⊥
IsUsage (Write report) = ⊥
IsUsage Memory = ⊥

-- the run is done, or out of memory
abbrev pub IsDoneOrMemory : Outcome → Type 0
IsDoneOrMemory (Done report) = ⊤
IsDoneOrMemory (Usage at) = ⊥
IsDoneOrMemory (Read which) = ⊥
IsDoneOrMemory (Long which) = ⊥
IsDoneOrMemory (Gate (gate.Config faults)) = ⊥
IsDoneOrMemory (Gate (gate.Invalid clashes)) = ⊥
IsDoneOrMemory (Gate (gate.Metadata fault)) = ⊥
IsDoneOrMemory (Gate (gate.Replacement at)) = ⊥
IsDoneOrMemory (Gate gate.Memory) = ⊤
IsDoneOrMemory (Write report) = ⊥
IsDoneOrMemory Memory = ⊤

-- the gate stops the run for this cause
abbrev pub IsGateBy : GateError → Outcome → Type 0
IsGateBy wanted (Done report) = ⊥
IsGateBy wanted (Usage at) = ⊥
IsGateBy wanted (Read which) = ⊥
IsGateBy wanted (Long which) = ⊥
IsGateBy wanted (Gate found) = AreOneCause wanted found
IsGateBy wanted (Write report) = ⊥
IsGateBy wanted Memory = ⊥

-- two outcomes are the same stop; errors of the gate are, where their causes are
abbrev pub AreOneStop : Outcome → Outcome → Type 0
AreOneStop (Done report) outcome = outcome ≡ Done report
AreOneStop (Usage at) outcome = outcome ≡ Usage at
AreOneStop (Read which) outcome = outcome ≡ Read which
AreOneStop (Long which) outcome = outcome ≡ Long which
AreOneStop (Gate wanted) outcome = IsGateBy wanted outcome
AreOneStop (Write report) outcome = outcome ≡ Write report
AreOneStop Memory outcome = outcome ≡ Memory

-- the outcome is this stop, or out of memory
abbrev pub IsStopOrMemory : Outcome → Outcome → Type 0
IsStopOrMemory stop (Done report) = AreOneStop stop (Done report)
IsStopOrMemory stop (Usage at) = AreOneStop stop (Usage at)
IsStopOrMemory stop (Read which) = AreOneStop stop (Read which)
IsStopOrMemory stop (Long which) = AreOneStop stop (Long which)
IsStopOrMemory stop (Gate (gate.Config faults)) = AreOneStop stop (Gate (gate.Config faults))
IsStopOrMemory stop (Gate (gate.Invalid clashes)) = AreOneStop stop (Gate (gate.Invalid clashes))
IsStopOrMemory stop (Gate (gate.Metadata fault)) = AreOneStop stop (Gate (gate.Metadata fault))
IsStopOrMemory stop (Gate (gate.Replacement at)) = AreOneStop stop (Gate (gate.Replacement at))
IsStopOrMemory stop (Gate gate.Memory) = ⊤
IsStopOrMemory stop (Write report) = AreOneStop stop (Write report)
IsStopOrMemory stop Memory = ⊤

abbrev pub bits_of : Verdict → ℕ
bits_of Pass = 0
bits_of (Fail bits) = bits

-- the bits of the errors of findings: 2 where the bans check has one, 4 where the licence check has one, or their sum
abbrev pub failing_bits : List Finding → ℕ
failing_bits findings =
    (if list_any (fails_as Bans) findings then 2 else 0) + (if list_any (fails_as Licenses) findings then 4 else 0)

abbrev pub status_of : Outcome → ℕ
status_of (Done report) = bits_of report.verdict
status_of (Usage at) = 16
status_of (Read which) = 17
status_of (Long which) = 18
status_of (Gate (gate.Config faults)) = 19
status_of (Gate (gate.Invalid clashes)) = 20
status_of (Gate (gate.Metadata fault)) = 21
status_of (Gate (gate.Replacement at)) = 22
status_of (Gate gate.Memory) = 24
status_of (Write report) = 23
status_of Memory = 24
