-- Stops on the way of a run.
use Rattle.std.specs.Prelude.{◌≡◌, ℕ, ◌^◌, List, IfSome}
use Rattle.std.specs.Prelude.{⊤}
use Rattle.deny_base_disk.specs.Count.{RoseBy}
use Rattle.deny_base_disk.specs.Disk.{Disk, FailedAt, bytes_at}
use Rattle.deny_base.specs.declared.check.Which.{Which}
use Rattle.deny_base_disk.specs.declared.disk.Call.TheVariants as call
use Rattle.deny_base_disk.specs.declared.read.ReadEnd.{ReadEnd}
use Rattle.deny_base_disk.specs.declared.read.ReadEnd.TheVariants as end
use Rattle.deny_gate.specs.Gating.{IsCause}
use Rattle.deny_gate.specs.Gating.{InputTexts}
use Rattle.deny_gate.specs.Labels.{IsLabelledCause}
use Rattle.deny_cli.specs.Arguments.{Command, IsAccepted, IsUsageAt}
use Rattle.deny_cli.specs.declared.outcome.Outcome.{Outcome}
use Rattle.deny_cli.specs.declared.outcome.Outcome.TheVariants.{Done, Usage, Read, Long, Gate, Write, Memory}
use Rattle.deny_cli.specs.Causes.{IsLong, IsStopAt, IsFaultAt, IsLongAt, IsStopOn, IsReadFault, IsLongOn}

-- the cause of a run that stopped before its output was made, and so is neither done nor failed to write
abbrev pub StopsRun : Disk → Disk → List (List ℕ) → Outcome → Type 0
StopsRun old new arguments (Done report) = ⊥
StopsRun old new arguments (Usage at) = IsUsageAt arguments at
StopsRun old new arguments (Read which) = IsReadFault old new arguments which
StopsRun old new arguments (Long which) = IsLongOn old new arguments which
StopsRun old new arguments (Gate error) = IsStopOn old arguments error
StopsRun old new arguments (Write report) = ⊥
StopsRun old new arguments Memory = IsAccepted arguments

-- the stop of an input that was not read to its end
abbrev pub end_stop : Which → ReadEnd → Outcome
end_stop which end.Fault = Read which
end_stop which end.Long = Long which
end_stop which end.Memory = Memory

-- reading an input at a path stops a run: it failed, or gave the bytes of a long text; where the disk tells its files,
-- such a text is there
abbrev pub IsReadStop : Disk → Disk → Which → List ℕ → Outcome → Type 0
IsReadStop old new which path (Done report) = ⊥
IsReadStop old new which path (Usage at) = ⊥
IsReadStop old new which path (Read found) = (found ≡ which) × FailedAt old new call.Read path
IsReadStop old new which path (Long found) = (found ≡ which) × RoseBy (2 ^ 28) old.given new.given
    × IfSome old.files (λ files. IsLong (bytes_at files path))
IsReadStop old new which path (Gate error) = ⊥
IsReadStop old new which path (Write report) = ⊥
IsReadStop old new which path Memory = ⊤

-- the gate stops a run by this outcome
abbrev pub IsGateStop : InputTexts → Outcome → Type 0
IsGateStop texts (Done report) = ⊥
IsGateStop texts (Usage at) = ⊥
IsGateStop texts (Read which) = ⊥
IsGateStop texts (Long which) = ⊥
IsGateStop texts (Gate error) = IsCause texts error × IsLabelledCause texts.policy error
IsGateStop texts (Write report) = ⊥
IsGateStop texts Memory = ⊥

-- the cause why a run of a command stopped before its output was made; the text is the policy's, where it was read
abbrev pub StopsCommand : Disk → Disk → Command → Outcome → List ℕ → Type 0
StopsCommand old new command (Done report) text = ⊥
StopsCommand old new command (Usage at) text = ⊥
StopsCommand old new command (Read which) text = IsFaultAt old new command which
StopsCommand old new command (Long which) text = IsLongAt old new command which
StopsCommand old new command (Gate error) text = IsStopAt old command text error
StopsCommand old new command (Write report) text = ⊥
StopsCommand old new command Memory text = ⊤
