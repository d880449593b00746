-- Licences and the entries that grant them; the first entry that lists a licence counts.
use Rattle.std.specs.Prelude.{Bool, List, Option, map}
use Rattle.std.specs.BTreeMap as tree
use Rattle.std.specs.Cmp.Lexicographic.{slice_cmp}
use Rattle.std.specs.Option.{option_cmp}
use Rattle.std.specs.Ordering.{eq_by_cmp, nat_cmp, on, then_cmp}
use Rattle.std.specs.declared.cmp.Ordering.{Ordering}
use Rattle.deny_base.specs.declared.span.Spanned.{Spanned}
use Rattle.deny_spdx.specs.declared.requirement.Requirement.{Requirement}
use Rattle.deny_spec.specs.Licensing.{Exception}
use Rattle.deny_gate_licenses.specs.declared.granter.Granter.{Granter}
use Rattle.deny_gate_licenses.specs.declared.grants.Grants.{Grants}
use Rattle.deny_gate_licenses.specs.declared.grants.WantedLicence.{WantedLicence}
use Rattle.deny_gate_licenses.specs.private.Granters.{allowance_granter, exception_granter}

abbrev pub wanted_cmp : WantedLicence → WantedLicence → Ordering
wanted_cmp = then_cmp (on (λ w. w.id) (slice_cmp nat_cmp)) (on (λ w. w.exception) (option_cmp (slice_cmp nat_cmp)))

abbrev pub same_wanted : WantedLicence → WantedLicence → Bool
same_wanted = eq_by_cmp wanted_cmp

-- the licence that a requirement names
abbrev pub wanted_of : Requirement → WantedLicence
wanted_of r = record { id = r.id; exception = r.exception }

abbrev pub granter_in : Grants → WantedLicence → Option Granter
granter_in grants wanted = tree.get wanted_cmp grants.granters wanted

abbrev pub grant_by : Granter → Spanned Requirement → WantedLicence × Granter
grant_by by a = (wanted_of a.value, by)

abbrev pub allowance_grant : Spanned Requirement → WantedLicence × Granter
allowance_grant a = grant_by (allowance_granter a) a

-- the licences that an exception lists
abbrev pub exception_grants : Exception → List (WantedLicence × Granter)
exception_grants e = map (grant_by (exception_granter e)) e.allow
