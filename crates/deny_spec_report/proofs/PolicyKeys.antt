-- The keys that hold in the section of the policy itself are that of the older key and those of expired waivers.
use Rattle.std.proofs.Common.{◌++◌, List, inl, inr, subst, sym}
use Rattle.std.specs.Prelude.{Contains, IsTrue}
use Rattle.std.proofs.lemmas.List.Elements.{Contains-append_cases, Contains-append_left, Contains-append_right}
use Rattle.deny_base_lists.specs.Ascending.{Lists}
use Rattle.deny_base.specs.KeyOrder.{key_cmp}
use Rattle.deny_base.specs.declared.code.DiagnosticCode.{DiagnosticCode}
use Rattle.deny_base.specs.declared.code.DiagnosticCode.TheVariants.{Deprecated, Bans, License, Expired}
use Rattle.deny_base.specs.declared.key.Key.{Key}
use Rattle.deny_spec.specs.Expired.{expired_keys}
use Rattle.deny_spec_report.specs.Circumstances.{Circumstances}
use Rattle.deny_spec_report.specs.Codes.{is_of_policy}
use Rattle.deny_spec_report.specs.Facts.{Facts}
use Rattle.deny_spec_report.specs.Holding.{HoldsBy, HoldsIn, ListsOwn}
use Rattle.deny_spec_report.specs.Packages.{deprecated_keys_in}
use Rattle.deny_spec_report.proofs.BuildMade.{deprecated_made}
use Rattle.deny_spec_report.proofs.EachCode.{as_code}
use Rattle.deny_spec_report.proofs.ExpiredMade.{expired_made}
use Rattle.deny_spec_report.proofs.Parts.{lists_same}
use Rattle.deny_spec_report.proofs.Sections.{as_deprecated, as_expired, in_licenses, not_of_bans, not_of_licenses}

module _ (c : Circumstances) (facts : Facts) where
  abbrev warned_keys : List Key
  warned_keys = deprecated_keys_in c ++ expired_keys c.expired

  there : (key : Key) → Contains warned_keys key → HoldsIn is_of_policy c facts key
  there key is = elim (Contains-append_cases (deprecated_keys_in c) (expired_keys c.expired) key is) as
      (λ _. HoldsIn is_of_policy c facts key) [
        | inl older ↦ (
          as_deprecated c key older,
          subst (λ (d : DiagnosticCode). HoldsBy d c facts key) (sym (deprecated_made c key older).code_is) older,
        )
        | inr past ↦ (
          as_expired c.expired key past,
          subst (λ (d : DiagnosticCode). HoldsBy d c facts key) (sym (expired_made c.expired key past).code_is) past,
        )
      ]

  by_code : (d : DiagnosticCode) (key : Key) → IsTrue (is_of_policy key.section) → HoldsBy d c facts key
      → Contains warned_keys key
  by_code Deprecated key mine is = Contains-append_left (deprecated_keys_in c) (expired_keys c.expired) key is
  by_code (Bans d) key mine is = absurd (not_of_bans key.section mine (as_code d c facts key is))
  by_code (License d) key mine is =
      absurd (not_of_licenses key.section mine (in_licenses d c.licensing c.graph key is))
  by_code Expired key mine is = Contains-append_right (deprecated_keys_in c) (expired_keys c.expired) key is

  pub all_warned : (keys : List Key) → Lists key_cmp (Contains warned_keys) keys → ListsOwn is_of_policy c facts keys
  all_warned keys listed = lists_same key_cmp (Contains warned_keys) (HoldsIn is_of_policy c facts) keys listed there
      (λ key is. by_code key.code key is.0 is.1)
