-- The entries of a policy that grant licences: their order, and which of them grants a requirement.
use Rattle.std.specs.Prelude.{◌++◌, ℕ, List, Option, map, option_map}
use Rattle.std.specs.Option.{option_or}
use Rattle.std.specs.Ordering.{nat_cmp, on, then_cmp}
use Rattle.std.specs.declared.cmp.Ordering.{Ordering}
use Rattle.deny_base.specs.KeyOrder.{span_cmp}
use Rattle.deny_base.specs.declared.entry.EntryKind.{EntryKind}
use Rattle.deny_base.specs.declared.entry.EntryKind.TheVariants as kind
use Rattle.deny_base.specs.declared.license_code.LicenseCode.{LicenseCode}
use Rattle.deny_base.specs.declared.license_code.LicenseCode.TheVariants as license
use Rattle.deny_base.specs.declared.span.Span.{Span}
use Rattle.deny_base.specs.declared.span.Spanned.{Spanned}
use Rattle.deny_spdx.specs.declared.requirement.Requirement.{Requirement}
use Rattle.deny_spec.specs.Licensing.{Exception, Licensing}
use Rattle.deny_spec_report.specs.FirstMatch.{first_of}
use Rattle.deny_spec_report.specs.Licences.{Asked, allowance_span, allows, exception_of, exception_span}
use Rattle.deny_gate_licenses.specs.declared.granter.Granter.{Granter}
use Rattle.deny_gate_licenses.specs.declared.granter.Granter.TheVariants as granter

abbrev pub granter_number : Granter → ℕ
granter_number (granter.Allowance span) = 0
granter_number (granter.Exception span) = 1

abbrev pub granter_span : Granter → Span
granter_span (granter.Allowance span) = span
granter_span (granter.Exception span) = span

-- allowances come before exceptions, each by span
abbrev pub granter_cmp : Granter → Granter → Ordering
granter_cmp = then_cmp (on granter_number nat_cmp) (on granter_span span_cmp)

abbrev pub granter_kind : Granter → EntryKind
granter_kind (granter.Allowance span) = kind.LicenseAllow
granter_kind (granter.Exception span) = kind.LicenseException

-- the code of an entry that grants nothing
abbrev pub unused_code : Granter → LicenseCode
unused_code (granter.Allowance span) = license.LicenseNotEncountered
unused_code (granter.Exception span) = license.LicenseExceptionNotEncountered

abbrev pub allowance_granter : Spanned Requirement → Granter
allowance_granter a = granter.Allowance (allowance_span a)

abbrev pub exception_granter : Exception → Granter
exception_granter e = granter.Exception (exception_span e)

-- all granters of a policy
abbrev pub policy_granters : Licensing → List Granter
policy_granters l = map allowance_granter l.allow ++ map exception_granter l.exceptions

-- the entry that grants a requirement: the first exception that does, or else the first allowance
unfoldable pub granter_of : Licensing → Asked → Option Granter
granter_of l asked = option_or (option_map exception_granter (exception_of l asked))
    (option_map allowance_granter (first_of allows l.allow asked))
