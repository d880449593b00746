-- How many findings of each severity a check has, and the code that a program exits with.
use Rattle.std.specs.Prelude.{◌&&◌, ◌==◌, ◌+◌, ◌-◌, ◌^◌, ℕ, ℤ, pos, Bool, true, false, List, Option, None, Some}
use Rattle.std.specs.Prelude.{filter, length, min, if◌then◌else◌}
use Rattle.deny_base.specs.declared.check.Check.{Check}
use Rattle.deny_base.specs.declared.check.Check.TheVariants.{Advisories, Bans, Licenses, Sources}
use Rattle.deny_base.specs.declared.level.Severity.{Severity}
use Rattle.deny_base.specs.declared.level.Severity.TheVariants.{Bug, Error, Warning, Note, Help}
use Rattle.deny_gate.specs.declared.report.Finding.{Finding}
use Rattle.deny_gate.specs.declared.report.Verdict.{Verdict}
use Rattle.deny_gate.specs.declared.report.Verdict.TheVariants.{Pass, Fail}
use Rattle.deny_gate.specs.declared.stats.AllStats.{AllStats}
use Rattle.deny_gate.specs.declared.stats.Stats.{Stats}

abbrev pub same_check : Check → Check → Bool
same_check Advisories Advisories = true
same_check Bans Bans = true
same_check Licenses Licenses = true
same_check Sources Sources = true
same_check _ _ = false

abbrev pub same_severity : Severity → Severity → Bool
same_severity Bug Bug = true
same_severity Error Error = true
same_severity Warning Warning = true
same_severity Note Note = true
same_severity Help Help = true
same_severity _ _ = false

-- a finding is one of the check with this severity
unfoldable pub counts_as : Check → Severity → Finding → Bool
counts_as check severity finding = same_severity finding.diag.diag.severity severity && same_check finding.check check

-- how many findings of a check have a severity, and 2^32 - 1 where there are more
unfoldable pub number_of : Check → Severity → List Finding → ℕ
number_of check severity findings = min (length (filter (counts_as check severity) findings)) (2 ^ 32 - 1)

-- the counts of a check; bugs count nowhere
abbrev pub stats_of : Check → List Finding → Stats
stats_of check findings = record {
  errors = number_of check Error findings;
  warnings = number_of check Warning findings;
  notes = number_of check Note findings;
  helps = number_of check Help findings;
}

-- the counts of the bans check, and of the licence check where it is made; no other check is
abbrev pub all_stats : Bool → List Finding → AllStats
all_stats has_licenses findings = record {
  advisories = None;
  bans = Some (stats_of Bans findings);
  licenses = if has_licenses then Some (stats_of Licenses findings) else None;
  sources = None;
}

-- the bit of a check with errors
abbrev pub bit_of : ℕ → Option Stats → ℕ
bit_of bit None = 0
bit_of bit (Some stats) = if stats.errors == 0 then 0 else bit

-- the sum of the bits of all checks
abbrev pub exit_bits : AllStats → ℕ
exit_bits stats = bit_of 1 stats.advisories + bit_of 2 stats.bans + bit_of 4 stats.licenses + bit_of 8 stats.sources

-- the code that a program exits with: none where no check has an error
abbrev pub exit_code : AllStats → Option ℤ
exit_code stats = if exit_bits stats == 0 then None else Some (pos (exit_bits stats))

-- the code of a verdict
abbrev pub code_of : Verdict → Option ℤ
code_of Pass = None
code_of (Fail bits) = Some (pos bits)
