-- Removal of ignores from a policy, which pass over replaced crates, and of no entry of another kind.
use Rattle.std.specs.Prelude.{◌≡◌, true, false, List, Contains, Some, option_map}
use Rattle.deny_base_lists.specs.Ascending.{Lists}
use Rattle.deny_base.specs.KeyOrder.{key_cmp}
use Rattle.deny_base.specs.declared.entry.EntryId.{EntryId}
use Rattle.deny_base.specs.declared.entry.EntryKind.TheVariants.{Skip, SkipRoot, Wrapper}
use Rattle.deny_base.specs.declared.key.Key.{Key}
use Rattle.deny_base.specs.declared.span.Span.{Span}
use Rattle.deny_spec.specs.Policy.{Entry, Policy, Replacing}
use Rattle.deny_spec_report.specs.Circumstances.{Circumstances}
use Rattle.deny_spec_report.specs.Facts.{Facts, AreFacts}
use Rattle.deny_spec_report.specs.Saying.{said_by}
use Rattle.deny_spec_report.specs.Holding.{Holds}
use Rattle.deny_spec_report.specs.StdReplacements.{is_hit_ignore}
use Rattle.deny_spec_removal.specs.Removal.{AreGone, NoBypasses, NoLicences, cut_replacing, is_taken, stays_ignore}

-- the policy without the ignores that are taken out
abbrev pub without_ignores : Policy → List EntryId → Policy
without_ignores p taken = record p { replacing = option_map (cut_replacing taken) p.replacing }

abbrev pub without_ignores_in : Circumstances → List EntryId → Circumstances
without_ignores_in c taken = record c { policy = without_ignores c.policy taken }

-- ignores that are hit stay, and no entry that is taken out is of another kind
pub record AreUnhitIgnores (c : Circumstances) (taken : List EntryId) : Type 0 where
  pub ignores : (s : Replacing) → c.policy.replacing ≡ Some s → (e : Entry) → Contains s.ignore e
      → is_hit_ignore s c.graph (said_by c.table) e ≡ true → stays_ignore taken e ≡ true
  pub no_skip : (span : Span) → is_taken taken Skip span ≡ false
  pub no_root : (span : Span) → is_taken taken SkipRoot span ≡ false
  pub no_wrapper : (span : Span) → is_taken taken Wrapper span ≡ false
  pub no_licence : NoLicences taken
  pub no_bypass : NoBypasses taken

-- ---- the law

abbrev pub IgnoresCanGo : Type 0
IgnoresCanGo = (c : Circumstances) → (facts : Facts) → (taken : List EntryId) → (keys : List Key)
    → AreFacts c facts → AreUnhitIgnores c taken
    → Lists key_cmp (Holds c facts) keys → AreGone c (without_ignores_in c taken) facts taken keys
