-- The keys of the warnings about the policy itself, after them those of the bans check, and after these those of the
-- licence check are the keys of a report.
use Rattle.std.proofs.Common.{◌≡◌, ◌++◌, ◌⊎◌, inl, inr, List, refl}
use Rattle.std.specs.Prelude.{IsTrue}
use Rattle.std.specs.declared.cmp.Ordering.TheVariants.{Less}
use Rattle.deny_base_lists.specs.Ascending.{Lists}
use Rattle.deny_base_lists.proofs.Orders.{then-less}
use Rattle.deny_base.specs.Code.{section_cmp, section_number}
use Rattle.deny_base.specs.KeyOrder.{key_cmp}
use Rattle.deny_base.specs.declared.key.Key.{Key}
use Rattle.deny_base.specs.declared.key.Section.{Section}
use Rattle.deny_base.specs.declared.key.Section.TheVariants as section
use Rattle.deny_spec_report.proofs.Parts.{lists_append, lists_same}
use Rattle.deny_spec_report.specs.Circumstances.{Circumstances}
use Rattle.deny_spec_report.specs.Codes.{is_of_bans, is_of_licenses, is_of_policy}
use Rattle.deny_spec_report.specs.Facts.{Facts}
use Rattle.deny_spec_report.specs.Holding.{ListsOwn, Holds, HoldsIn}

-- ---- sections

each_section : (s : Section) → IsTrue (is_of_policy s) ⊎ (IsTrue (is_of_bans s) ⊎ IsTrue (is_of_licenses s))
each_section section.Deprecated = inl refl
each_section section.Licenses = inr (inr refl)
each_section section.LicensesUnused = inr (inr refl)
each_section _ = inr (inl refl)

policy_before_bans : (s t : Section) → IsTrue (is_of_policy s) → IsTrue (is_of_bans t) → section_cmp s t ≡ Less
unfolding section_number
policy_before_bans section.Deprecated section.Deprecated one other = absurd (cc other)
policy_before_bans section.Deprecated section.Licenses one other = absurd (cc other)
policy_before_bans section.Deprecated section.LicensesUnused one other = absurd (cc other)
policy_before_bans section.Deprecated _ one other = refl
policy_before_bans _ t one other = absurd (cc one)

policy_before_licenses : (s t : Section) → IsTrue (is_of_policy s) → IsTrue (is_of_licenses t)
    → section_cmp s t ≡ Less
unfolding section_number
policy_before_licenses section.Deprecated section.Licenses one other = refl
policy_before_licenses section.Deprecated section.LicensesUnused one other = refl
policy_before_licenses section.Deprecated _ one other = absurd (cc other)
policy_before_licenses _ t one other = absurd (cc one)

bans_first : (s t : Section) → IsTrue (is_of_bans s) → IsTrue (is_of_licenses t) → section_cmp s t ≡ Less
unfolding section_number
bans_first section.Deprecated t one other = absurd (cc one)
bans_first section.Licenses t one other = absurd (cc one)
bans_first section.LicensesUnused t one other = absurd (cc one)
bans_first _ section.Licenses one other = refl
bans_first _ section.LicensesUnused one other = refl
bans_first _ _ one other = absurd (cc other)

-- ---- keys

module _ (c : Circumstances) (facts : Facts) where
  abbrev OfPolicy : Key → Type 0
  OfPolicy key = HoldsIn is_of_policy c facts key

  abbrev OfBans : Key → Type 0
  OfBans key = HoldsIn is_of_bans c facts key

  abbrev OfLicenses : Key → Type 0
  OfLicenses key = HoldsIn is_of_licenses c facts key

  -- the keys of both checks, which come behind those of the policy itself
  checks_joined : (xs ys : List Key) → ListsOwn is_of_bans c facts xs → ListsOwn is_of_licenses c facts ys
      → Lists key_cmp (λ key. OfBans key ⊎ OfLicenses key) (xs ++ ys)
  checks_joined xs ys these those = lists_append key_cmp OfBans OfLicenses xs ys these those
      (λ x y is there. then-less _ _ (bans_first x.section y.section is.0 there.0))

  checks_behind : (w z : Key) → OfPolicy w → OfBans z ⊎ OfLicenses z → key_cmp w z ≡ Less
  checks_behind w z is (inl there) = then-less _ _ (policy_before_bans w.section z.section is.0 there.0)
  checks_behind w z is (inr there) = then-less _ _ (policy_before_licenses w.section z.section is.0 there.0)

  held : (key : Key) → OfPolicy key ⊎ (OfBans key ⊎ OfLicenses key) → Holds c facts key
  held key (inl here) = here.1
  held key (inr (inl here)) = here.1
  held key (inr (inr here)) = here.1

  placed : (key : Key) → Holds c facts key → OfPolicy key ⊎ (OfBans key ⊎ OfLicenses key)
  placed key is = elim (each_section key.section) as (λ _. OfPolicy key ⊎ (OfBans key ⊎ OfLicenses key)) [
    | inl mine ↦ inl (mine, is)
    | inr (inl mine) ↦ inr (inl (mine, is))
    | inr (inr mine) ↦ inr (inr (mine, is))
  ]

  pub joined : (ws xs ys : List Key) → ListsOwn is_of_policy c facts ws → ListsOwn is_of_bans c facts xs
      → ListsOwn is_of_licenses c facts ys → Lists key_cmp (Holds c facts) (ws ++ (xs ++ ys))
  joined ws xs ys warned these those =
      lists_same key_cmp (λ key. OfPolicy key ⊎ (OfBans key ⊎ OfLicenses key)) (Holds c facts) (ws ++ (xs ++ ys))
      (lists_append key_cmp OfPolicy (λ key. OfBans key ⊎ OfLicenses key) ws (xs ++ ys) warned
      (checks_joined xs ys these those) checks_behind)
      held placed
