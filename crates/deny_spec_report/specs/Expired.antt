-- The message about a waiver of the policy that expired.
use Rattle.std.specs.Prelude.{ℕ, List, None}
use Rattle.std.specs.Option.{option_map_or}
use Rattle.deny_base.specs.declared.key.Key.{Key}
use Rattle.deny_base.specs.declared.level.Severity.TheVariants as severity
use Rattle.deny_spec.specs.Expired.{PastWaiver, expired_labels, expired_message, past_waiver_at}
use Rattle.deny_spec_report.specs.MessageParts.{not_built, plainly}
use Rattle.deny_spec_report.specs.declared.message.Message.{Message}

abbrev pub expired_diag_of : ℕ → PastWaiver → Message
expired_diag_of file w = plainly severity.Warning (expired_message w) (expired_labels file w) None

-- the message of the key of an expired waiver: of the waiver with the key's span
unfoldable pub expired_diag : List PastWaiver → ℕ → Key → Message
expired_diag waivers file key = option_map_or (expired_diag_of file) (past_waiver_at waivers key.entry) not_built
