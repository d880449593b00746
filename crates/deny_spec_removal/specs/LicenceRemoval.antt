-- Removal of licences that every crate may ask for, and of exceptions, from a policy, and of no entry of another kind.
use Rattle.std.specs.Prelude.{◌≡◌, Bool, true, false, List, Contains, Some, option_map}
use Rattle.deny_base_lists.specs.Ascending.{Lists}
use Rattle.deny_base.specs.KeyOrder.{key_cmp}
use Rattle.deny_base.specs.declared.entry.EntryId.{EntryId}
use Rattle.deny_base.specs.declared.entry.EntryKind.TheVariants.{ReplacementIgnore, Skip, SkipRoot, Wrapper}
use Rattle.deny_base.specs.declared.key.Key.{Key}
use Rattle.deny_base.specs.declared.span.Span.{Span}
use Rattle.deny_base.specs.declared.span.Spanned.{Spanned}
use Rattle.deny_spdx.specs.declared.requirement.Requirement.{Requirement}
use Rattle.deny_spec.specs.Graph.{Crate, Graph}
use Rattle.deny_spec.specs.Licensing.{Exception, Licensing}
use Rattle.deny_spec_report.specs.Circumstances.{Circumstances}
use Rattle.deny_spec_report.specs.Facts.{Facts, AreFacts}
use Rattle.deny_spec_report.specs.Licences.{TestsCounting, grants_by_allowance, grants_by_exception, is_hit_by}
use Rattle.deny_spec_report.specs.Holding.{Holds}
use Rattle.deny_spec_removal.specs.Removal.{AreGone, NoBypasses, cut_licensing, is_taken, stays_allowance}
use Rattle.deny_spec_removal.specs.Removal.{stays_exception}

abbrev pub without_licences_in : Circumstances → List EntryId → Circumstances
without_licences_in c taken = record c { licensing = option_map (cut_licensing taken) c.licensing }

-- licences and exceptions that are hit by a test of which crates count stay
pub record LicencesStay (counts : Crate → Bool) (l : Licensing) (g : Graph) (taken : List EntryId) : Type 0 where
  pub allowances : (a : Spanned Requirement) → Contains l.allow a
      → is_hit_by counts l g (grants_by_allowance l a) ≡ true → stays_allowance taken a ≡ true
  pub exceptions : (e : Exception) → Contains l.exceptions e
      → is_hit_by counts l g (grants_by_exception l e) ≡ true → stays_exception taken e ≡ true

-- licences and exceptions that are hit stay, by any right test of which crates count; and no entry that is taken out is
-- of another kind
pub record AreUnhitLicences (c : Circumstances) (taken : List EntryId) : Type 0 where
  pub licences : (l : Licensing) → c.licensing ≡ Some l → (counts : Crate → Bool) → TestsCounting l c.graph counts
      → LicencesStay counts l c.graph taken
  pub no_skip : (span : Span) → is_taken taken Skip span ≡ false
  pub no_root : (span : Span) → is_taken taken SkipRoot span ≡ false
  pub no_wrapper : (span : Span) → is_taken taken Wrapper span ≡ false
  pub no_ignore : (span : Span) → is_taken taken ReplacementIgnore span ≡ false
  pub no_bypass : NoBypasses taken

-- ---- the law

abbrev pub LicencesCanGo : Type 0
LicencesCanGo = (c : Circumstances) → (facts : Facts) → (taken : List EntryId) → (keys : List Key)
    → AreFacts c facts → AreUnhitLicences c taken
    → Lists key_cmp (Holds c facts) keys → AreGone c (without_licences_in c taken) facts taken keys
