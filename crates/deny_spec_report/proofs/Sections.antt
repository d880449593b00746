-- The keys of the warnings about the policy itself are in their section, and those of the rules on licences in sections
-- of the licence check; and no section is of two of the policy itself, the bans check and the licence check.
use Rattle.std.proofs.Common.{Bool, List, Option, None, Some, refl, subst, sym}
use Rattle.std.specs.Prelude.{Contains, IsTrue}
use Rattle.deny_base.specs.declared.key.Key.{Key}
use Rattle.deny_base.specs.declared.key.Section.{Section}
use Rattle.deny_base.specs.declared.key.Section.TheVariants as section
use Rattle.deny_base.specs.declared.license_code.LicenseCode.{LicenseCode}
use Rattle.deny_base.specs.declared.license_code.LicenseCode.TheVariants as license
use Rattle.deny_spec.specs.Expired.{PastWaiver, expired_keys}
use Rattle.deny_spec.specs.Graph.{Crate, Graph}
use Rattle.deny_spec.specs.Licensing.{Licensing}
use Rattle.deny_spec_report.specs.Circumstances.{Circumstances}
use Rattle.deny_spec_report.specs.Codes.{is_of_bans, is_of_licenses, is_of_policy}
use Rattle.deny_spec_report.specs.EachCode.{LicenseHolds}
use Rattle.deny_spec_report.specs.Licences.{IsOfLicences, exception_not_encountered_keys, is_accepted, is_rejected}
use Rattle.deny_spec_report.specs.Licences.{is_skipped_private, is_unlicensed, is_unreadable, keys_where}
use Rattle.deny_spec_report.specs.Licences.{not_encountered_keys}
use Rattle.deny_spec_report.specs.Packages.{deprecated_keys_in}
use Rattle.deny_spec_report.proofs.BuildMade.{deprecated_made}
use Rattle.deny_spec_report.proofs.ExpiredMade.{expired_made}
use Rattle.deny_spec_report.proofs.Made.{MadeLicensed, exception_not_encountered_made, not_encountered_made, where_made}

-- ---- the policy itself

pub as_deprecated : (c : Circumstances) (key : Key) → Contains (deprecated_keys_in c) key
    → IsTrue (is_of_policy key.section)
as_deprecated c key is =
    subst (λ (t : Section). IsTrue (is_of_policy t)) (sym (deprecated_made c key is).section_is) refl

pub as_expired : (waivers : List PastWaiver) (key : Key) → Contains (expired_keys waivers) key
    → IsTrue (is_of_policy key.section)
as_expired waivers key is =
    subst (λ (t : Section). IsTrue (is_of_policy t)) (sym (expired_made waivers key is).section_is) refl

pub not_of_bans : (s : Section) → IsTrue (is_of_policy s) → IsTrue (is_of_bans s) → ⊥
not_of_bans section.Deprecated one other = absurd (cc other)
not_of_bans _ one other = absurd (cc one)

pub not_of_licenses : (s : Section) → IsTrue (is_of_policy s) → IsTrue (is_of_licenses s) → ⊥
not_of_licenses section.Deprecated one other = absurd (cc other)
not_of_licenses _ one other = absurd (cc one)

-- ---- licences

apart : {s : Section} {d : LicenseCode} (key : Key) → MadeLicensed s d key → IsTrue (is_of_licenses s)
    → IsTrue (is_of_licenses key.section)
apart {s} {d} key made mine = subst (λ (t : Section). IsTrue (is_of_licenses t)) (sym made.section_is) mine

-- the section of keys of crates
about_crate : (d : LicenseCode) (is : (Crate → Bool) → Licensing → Crate → Bool) (licensing : Option Licensing)
    (g : Graph) (key : Key) → IsOfLicences (λ counts l h. keys_where d (is counts l) h) licensing g key
    → IsTrue (is_of_licenses key.section)
about_crate d is None g key listed = absurd listed
about_crate d is (Some l) g key listed = apart key (where_made d (is listed.counts l) g key listed.listed) refl

of_allowance : (licensing : Option Licensing) (g : Graph) (key : Key)
    → IsOfLicences not_encountered_keys licensing g key
    → IsTrue (is_of_licenses key.section)
of_allowance None g key is = absurd is
of_allowance (Some l) g key is = apart key (not_encountered_made is.counts l g key is.listed) refl

of_exception : (licensing : Option Licensing) (g : Graph) (key : Key)
    → IsOfLicences exception_not_encountered_keys licensing g key → IsTrue (is_of_licenses key.section)
of_exception None g key is = absurd is
of_exception (Some l) g key is = apart key (exception_not_encountered_made is.counts l g key is.listed) refl

-- a key that holds by a rule on licences is in a section of the licence check
pub in_licenses : (d : LicenseCode) (licensing : Option Licensing) (g : Graph) (key : Key)
    → LicenseHolds d licensing g key → IsTrue (is_of_licenses key.section)
in_licenses license.Accepted licensing g key is = about_crate license.Accepted is_accepted licensing g key is
in_licenses license.Rejected licensing g key is = about_crate license.Rejected is_rejected licensing g key is
in_licenses license.Unlicensed licensing g key is = about_crate license.Unlicensed is_unlicensed licensing g key is
in_licenses license.ParseError licensing g key is = about_crate license.ParseError is_unreadable licensing g key is
in_licenses license.SkippedPrivateWorkspaceCrate licensing g key is =
    about_crate license.SkippedPrivateWorkspaceCrate is_skipped_private licensing g key is
in_licenses license.LicenseNotEncountered licensing g key is = of_allowance licensing g key is
in_licenses license.LicenseExceptionNotEncountered licensing g key is = of_exception licensing g key is

pub two_checks : (s : Section) → IsTrue (is_of_bans s) → IsTrue (is_of_licenses s) → ⊥
two_checks section.Licenses one other = absurd (cc one)
two_checks section.LicensesUnused one other = absurd (cc one)
two_checks _ one other = absurd (cc other)

pub not_licensed : (d : LicenseCode) (licensing : Option Licensing) (g : Graph) (key : Key)
    → IsTrue (is_of_bans key.section) → LicenseHolds d licensing g key → ⊥
not_licensed d licensing g key mine is = two_checks key.section mine (in_licenses d licensing g key is)
