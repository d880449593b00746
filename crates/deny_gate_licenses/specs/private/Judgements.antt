-- The judgement of a crate that counts.
use Rattle.std.specs.Prelude.{List, [], Option, None, Some, if◌then◌else◌}
use Rattle.deny_base.specs.declared.license_code.LicenseCode.{LicenseCode}
use Rattle.deny_base.specs.declared.license_code.LicenseCode.TheVariants as license
use Rattle.deny_spdx.specs.Reads.{BadAt, Read, Reading, reading_in}
use Rattle.deny_spdx.specs.declared.error.SpdxError.{SpdxError}
use Rattle.deny_spdx.specs.declared.error.SpdxError.TheVariants as error
use Rattle.deny_spdx.specs.declared.expression.Expression.{Expression}
use Rattle.deny_spec.specs.Graph.{Crate}
use Rattle.deny_spec.specs.Licensing.{Licensing}
use Rattle.deny_spec_report.specs.Licences.{holds, is_licensed, is_passed_over, licence_text}
use Rattle.deny_gate_licenses.specs.declared.granter.Granter.{Granter}
use Rattle.deny_gate_licenses.specs.declared.judgement.Judgement.{Judgement}
use Rattle.deny_gate_licenses.specs.declared.judgement.Judgement.TheVariants as judgement
use Rattle.deny_gate_licenses.specs.private.Answers.{granters_for, notes_for}

abbrev pub of_expression : Licensing → Crate → Expression → Judgement
of_expression l c e =
    if holds l c e then judgement.Accepted (granters_for l c e.requirements)
    else judgement.Rejected (granters_for l c e.requirements) (notes_for l c e.requirements)

abbrev pub of_reading : Licensing → Crate → Reading → Judgement
of_reading l c (Read e) = of_expression l c e
of_reading l c (BadAt at) = judgement.Unreadable at

-- the judgement by the error of a text that cannot be read; none where memory ran out
abbrev pub unread_of : SpdxError → Option Judgement
unread_of (error.Bad at) = Some (judgement.Unreadable at)
unread_of error.Memory = None

unfoldable pub judgement_of : Licensing → Crate → Judgement
judgement_of l c =
    if is_passed_over l c then judgement.Private
    else (if is_licensed c then of_reading l c (reading_in (licence_text c)) else judgement.Unlicensed)

abbrev pub code_of : Judgement → LicenseCode
code_of judgement.Private = license.SkippedPrivateWorkspaceCrate
code_of judgement.Unlicensed = license.Unlicensed
code_of (judgement.Unreadable at) = license.ParseError
code_of (judgement.Accepted granters) = license.Accepted
code_of (judgement.Rejected granters notes) = license.Rejected

-- the entries that grant the crate a licence
abbrev pub granters_in : Judgement → List Granter
granters_in judgement.Private = []
granters_in judgement.Unlicensed = []
granters_in (judgement.Unreadable at) = []
granters_in (judgement.Accepted granters) = granters
granters_in (judgement.Rejected granters notes) = granters
