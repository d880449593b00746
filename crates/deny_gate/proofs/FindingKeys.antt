-- Keys that hold: those of duplicates depend on no files, and those of the licence check are of licences; neither these
-- nor those of the policy itself are of duplicates.
use Rattle.std.proofs.Common.{◌≡◌, ◌∙◌, Bool, false, List, Option, None, Some, refl, sym}
use Rattle.std.specs.Prelude.{◌&&◌, IsTrue, filter}
use Rattle.deny_base_lists.proofs.Agreement.{filter_on}
use Rattle.deny_base_lists.proofs.Filters.{filter-filter}
use Rattle.deny_base.specs.Code.{asks_no_file, is_free}
use Rattle.deny_base.specs.declared.code.Code.{Code}
use Rattle.deny_base.specs.declared.code.Code.TheVariants as code
use Rattle.deny_base.specs.declared.code.DiagnosticCode.{DiagnosticCode}
use Rattle.deny_base.specs.declared.code.DiagnosticCode.TheVariants.{Deprecated, Bans, License, Expired}
use Rattle.deny_base.specs.declared.key.Key.{Key}
use Rattle.deny_base.specs.declared.license_code.LicenseCode.{LicenseCode}
use Rattle.deny_base.specs.declared.license_code.LicenseCode.TheVariants as license
use Rattle.deny_spec.specs.Graph.{Graph}
use Rattle.deny_spec.specs.Licensing.{Licensing}
use Rattle.deny_spec_report.specs.Circumstances.{Circumstances}
use Rattle.deny_spec_report.specs.Codes.{is_of_licenses, is_of_policy, unseeing}
use Rattle.deny_spec_report.specs.EachCode.{LicenseHolds}
use Rattle.deny_spec_report.specs.Facts.{Facts}
use Rattle.deny_spec_report.specs.Holding.{HoldsBy, HoldsIn}
use Rattle.deny_spec_report.proofs.EachCode.{as_code}
use Rattle.deny_spec_report.proofs.Sections.{as_deprecated, as_expired, not_of_bans, not_of_licenses, two_checks}
use Rattle.deny_rules_dup_edges.specs.DupEdges.{is_duplicate, is_of_duplicate}

-- ---- keys that depend on no files

-- a narrower test selects the same items from those that pass a wider one
filter_within : {X : Type 0} (p q : X → Bool) (xs : List X) → ((x : X) → (p x && q x) ≡ q x)
    → filter q xs ≡ filter q (filter p xs)
filter_within p q xs within =
    sym (filter-filter p q xs ∙ filter_on (λ x. p x && q x) q xs (λ x at. within x))

free_code : (d : Code) → (is_free d && is_duplicate (Bans d)) ≡ is_duplicate (Bans d)
free_code code.Duplicate = refl
free_code _ = refl

free_duplicate : (d : DiagnosticCode) → (asks_no_file d && is_duplicate d) ≡ is_duplicate d
free_duplicate Deprecated = refl
free_duplicate (Bans d) = free_code d
free_duplicate (License d) = refl
free_duplicate Expired = refl

pub duplicates_seen : (keys : List Key) → filter is_of_duplicate keys ≡ filter is_of_duplicate (unseeing keys)
unfolding is_of_duplicate
duplicates_seen keys =
    filter_within (λ (key : Key). asks_no_file key.code) is_of_duplicate keys (λ key. free_duplicate key.code)

-- ---- the sections of the licence check

no_duplicate_by : (d : DiagnosticCode) (c : Circumstances) (facts : Facts) (key : Key) → HoldsBy d c facts key
    → IsTrue (is_of_licenses key.section) → is_duplicate d ≡ false
no_duplicate_by Deprecated c facts key is mine = refl
no_duplicate_by (Bans d) c facts key is mine = absurd (two_checks key.section (as_code d c facts key is) mine)
no_duplicate_by (License d) c facts key is mine = refl
no_duplicate_by Expired c facts key is mine = refl

pub no_duplicate : (c : Circumstances) (facts : Facts) (key : Key) → HoldsIn is_of_licenses c facts key
    → is_of_duplicate key ≡ false
unfolding is_of_duplicate
no_duplicate c facts key is = no_duplicate_by key.code c facts key is.1 is.0

-- ---- the section of the policy itself

no_duplicate_own : (d : DiagnosticCode) (c : Circumstances) (facts : Facts) (key : Key) → HoldsBy d c facts key
    → IsTrue (is_of_policy key.section) → is_duplicate d ≡ false
no_duplicate_own Deprecated c facts key is mine = refl
no_duplicate_own (Bans d) c facts key is mine = absurd (not_of_bans key.section mine (as_code d c facts key is))
no_duplicate_own (License d) c facts key is mine = refl
no_duplicate_own Expired c facts key is mine = refl

pub no_duplicate_warned : (c : Circumstances) (facts : Facts) (key : Key) → HoldsIn is_of_policy c facts key
    → is_of_duplicate key ≡ false
unfolding is_of_duplicate
no_duplicate_warned c facts key is = no_duplicate_own key.code c facts key is.1 is.0

-- ---- without a section on licences

-- no key of a licence code holds
pub none_licensed : (d : LicenseCode) (licensing : Option Licensing) (g : Graph) (key : Key) → licensing ≡ None
    → LicenseHolds d licensing g key → ⊥
none_licensed license.Accepted None g key none is = is
none_licensed _ None g key none is = is
none_licensed _ (Some l) g key none is = absurd (cc none)

none_by : (d : DiagnosticCode) (c : Circumstances) (facts : Facts) (key : Key) → c.licensing ≡ None
    → IsTrue (is_of_licenses key.section) → HoldsBy d c facts key → ⊥
none_by Deprecated c facts key none mine is = not_of_licenses key.section (as_deprecated c key is) mine
none_by (Bans d) c facts key none mine is = two_checks key.section (as_code d c facts key is) mine
none_by (License d) c facts key none mine is = none_licensed d c.licensing c.graph key none is
none_by Expired c facts key none mine is = not_of_licenses key.section (as_expired c.expired key is) mine

pub none_of_licences : (c : Circumstances) (facts : Facts) (key : Key) → c.licensing ≡ None
    → HoldsIn is_of_licenses c facts key → ⊥
none_of_licences c facts key none is = none_by key.code c facts key none is.0 is.1
