-- What a run leaves in its outputs. Outputs tell by `written` what they took, where they tell it, and by `faults` how
-- often they failed.
use Rattle.std.specs.Prelude.{◌≡◌, ◌⊎◌, ℕ, List, [], ◌∷◌, Option}
use Rattle.deny_base_disk.specs.Count.{Rose}
use Rattle.deny_base_disk.specs.Out.{Appends, AppendsPrefix}
use Rattle.deny_gate_json.specs.Reading.{AreJsonLines}
use Rattle.deny_cli.specs.Stops.{stop_line, stop_value, memory_line}
use Rattle.deny_cli.specs.Summary.{lines_for}
use Rattle.deny_cli.specs.Arguments.{Command}
use Rattle.deny_cli.specs.declared.outcome.Outcome.{Outcome}
use Rattle.deny_cli.specs.declared.outcome.Outcome.TheVariants.{Done, Usage, Read, Long, Gate, Write, Memory}

-- the output failed, and took only the first of the bytes, maybe none
abbrev pub FailsWriting : {W : Type 0} → (W → Option (List ℕ)) → (W → ℕ) → W → W → List ℕ → Type 0
FailsWriting written faults old new bytes =
    Rose (faults old) (faults new) × AppendsPrefix (written old) (written new) bytes

-- the standard output holds what the command writes of the report, or nothing
abbrev pub LeavesOut : {W : Type 0} → (W → Option (List ℕ)) → (W → ℕ) → W → W → Option Command → Outcome → Type 0
LeavesOut written faults old new asked (Done report) = Appends (written old) (written new) (lines_for asked report)
LeavesOut written faults old new asked (Usage at) = new ≡ old
LeavesOut written faults old new asked (Read which) = new ≡ old
LeavesOut written faults old new asked (Long which) = new ≡ old
LeavesOut written faults old new asked (Gate error) = new ≡ old
LeavesOut written faults old new asked (Write report) = FailsWriting written faults old new (lines_for asked report)
LeavesOut written faults old new asked Memory = new ≡ old

-- an output took a line, or failed with a prefix of it
abbrev pub PutsLine : {W : Type 0} → (W → Option (List ℕ)) → (W → ℕ) → W → W → List ℕ → Type 0
PutsLine written faults old new line =
    Appends (written old) (written new) line ⊎ FailsWriting written faults old new line

-- an output took the line of a stop, which is JSON of one value; the labels of clashes lie in this text of the policy
abbrev pub PutsStop : {W : Type 0} → (W → Option (List ℕ)) → (W → ℕ) → W → W → Outcome → List ℕ → Type 0
PutsStop written faults old new outcome policy = PutsLine written faults old new (stop_line policy outcome)
    × AreJsonLines (stop_line policy outcome) (stop_value policy outcome ∷ [])

-- Where memory ran out while that line was made, the line of memory is written instead.
abbrev pub ReportsStop : {W : Type 0} → (W → Option (List ℕ)) → (W → ℕ) → W → W → Outcome → List ℕ → Type 0
ReportsStop written faults old new outcome policy =
    PutsStop written faults old new outcome policy ⊎ PutsLine written faults old new memory_line

-- the standard error holds nothing, or the line of the stop
abbrev pub LeavesErr : {W : Type 0} → (W → Option (List ℕ)) → (W → ℕ) → W → W → Outcome → List ℕ → Type 0
LeavesErr written faults old new (Done report) policy = new ≡ old
LeavesErr written faults old new (Usage at) policy = ReportsStop written faults old new (Usage at) policy
LeavesErr written faults old new (Read which) policy = ReportsStop written faults old new (Read which) policy
LeavesErr written faults old new (Long which) policy = ReportsStop written faults old new (Long which) policy
LeavesErr written faults old new (Gate error) policy = ReportsStop written faults old new (Gate error) policy
LeavesErr written faults old new (Write report) policy = ReportsStop written faults old new (Write report) policy
LeavesErr written faults old new Memory policy = ReportsStop written faults old new Memory policy
