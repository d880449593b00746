-- The severity of a finding of a rule at a level.
use Rattle.deny_base.specs.declared.level.LintLevel.{LintLevel}
use Rattle.deny_base.specs.declared.level.LintLevel.TheVariants.{Allow, Warn, Deny}
use Rattle.deny_base.specs.declared.level.Severity.{Severity}
use Rattle.deny_base.specs.declared.level.Severity.TheVariants as severity

abbrev pub severity_of : LintLevel → Severity
severity_of Allow = severity.Note
severity_of Warn = severity.Warning
severity_of Deny = severity.Error
