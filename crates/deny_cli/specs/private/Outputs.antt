-- The result of writing a report.
use Rattle.std.specs.Prelude.{◌≡◌, ℕ, List, Option}
use Rattle.deny_base_disk.specs.Out.{Appends}
use Rattle.deny_gate.specs.declared.report.Report.{Report}
use Rattle.deny_cli.specs.Summary.{answer_lines}
use Rattle.deny_cli.specs.Arguments.{Command}
use Rattle.deny_cli.specs.declared.outcome.Outcome.{Outcome}
use Rattle.deny_cli.specs.declared.outcome.Outcome.TheVariants.{Done, Usage, Read, Long, Gate, Write, Memory}
use Rattle.deny_cli.specs.Outputs.{FailsWriting}

-- writing what a command writes of a report gives this outcome
abbrev pub WritesReport : {W : Type 0} → (W → Option (List ℕ)) → (W → ℕ) → W → W → Command → Report → Outcome → Type 0
WritesReport written faults old new command report (Done made) = (made ≡ report)
    × Appends (written old) (written new) (answer_lines command report)
WritesReport written faults old new command report (Usage at) = ⊥
WritesReport written faults old new command report (Read which) = ⊥
WritesReport written faults old new command report (Long which) = ⊥
WritesReport written faults old new command report (Gate error) = ⊥
WritesReport written faults old new command report (Write made) = (made ≡ report)
    × FailsWriting written faults old new (answer_lines command report)
WritesReport written faults old new command report Memory = new ≡ old
