-- The codes of the licence check: a table of what is true of each code, and their order.
use Rattle.std.specs.Prelude.{ℕ, Bool, List, Option, codes}
use Rattle.std.specs.Ordering.{nat_cmp, on}
use Rattle.std.specs.declared.cmp.Ordering.{Ordering}
use Rattle.deny_base.specs.About.{About, of_own_rule, names_unused, errs_by}
use Rattle.deny_base.specs.Rule.{Rule, OnLicenses}
use Rattle.deny_base.specs.declared.entry.EntryKind.{EntryKind}
use Rattle.deny_base.specs.declared.entry.EntryKind.TheVariants as kind
use Rattle.deny_base.specs.declared.license_code.LicenseCode.{LicenseCode}
use Rattle.deny_base.specs.declared.license_code.LicenseCode.TheVariants as license

-- what is true of each code of the licence check, in the order of declaration
abbrev pub about_license : LicenseCode → About
about_license license.Accepted = of_own_rule 0 (codes "accepted")
about_license license.Rejected = errs_by OnLicenses (of_own_rule 1 (codes "rejected"))
about_license license.Unlicensed = errs_by OnLicenses (of_own_rule 2 (codes "unlicensed"))
about_license license.ParseError = errs_by OnLicenses (of_own_rule 3 (codes "parse-error"))
about_license license.SkippedPrivateWorkspaceCrate = of_own_rule 4 (codes "skipped-private-workspace-crate")
about_license license.LicenseNotEncountered =
    errs_by OnLicenses (names_unused kind.LicenseAllow (of_own_rule 5 (codes "license-not-encountered")))
about_license license.LicenseExceptionNotEncountered =
    names_unused kind.LicenseException (of_own_rule 6 (codes "license-exception-not-encountered"))

-- the word of a code in the lines of a report
unfoldable pub license_code_name : LicenseCode → List ℕ
license_code_name code = (about_license code).word

-- codes are ordered as they are declared
unfoldable pub license_code_number : LicenseCode → ℕ
license_code_number code = (about_license code).number

abbrev pub license_code_cmp : LicenseCode → LicenseCode → Ordering
license_code_cmp = on license_code_number nat_cmp

-- the kind of entry that the finding says is unused
abbrev pub license_unused_kind : LicenseCode → Option EntryKind
license_unused_kind code = (about_license code).unused

-- whether the entry of the key is a span of the policy
abbrev pub license_has_entry : LicenseCode → Bool
license_has_entry code = (about_license code).shown

-- the findings about a file of a package, or about an entry for one, of which there are none
abbrev pub license_is_of_path : LicenseCode → Bool
license_is_of_path code = (about_license code).of_path

-- the codes whose diagnostics are made beside the rules of the bans check, of which there are none
abbrev pub license_reported_here : LicenseCode → Bool
license_reported_here code = (about_license code).here

-- the rule that can report errors by the code
abbrev pub license_rule : LicenseCode → Option Rule
license_rule code = (about_license code).rule
