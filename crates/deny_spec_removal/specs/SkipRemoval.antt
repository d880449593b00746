-- Removal of skips and skipped trees from a policy, and of no entry of another kind.
use Rattle.std.specs.Prelude.{◌≡◌, true, false, List, Contains, filter}
use Rattle.deny_base_lists.specs.Ascending.{Lists}
use Rattle.deny_base.specs.KeyOrder.{key_cmp}
use Rattle.deny_base.specs.declared.entry.EntryId.{EntryId}
use Rattle.deny_base.specs.declared.entry.EntryKind.TheVariants.{ReplacementIgnore, Wrapper}
use Rattle.deny_base.specs.declared.key.Key.{Key}
use Rattle.deny_base.specs.declared.span.Span.{Span}
use Rattle.deny_spec.specs.Facts as chains
use Rattle.deny_spec.specs.Graph.{Graph}
use Rattle.deny_spec.specs.Policy.{Entry, Policy, Root}
use Rattle.deny_spec.specs.Skips.{has_root, is_hit_skip}
use Rattle.deny_spec_report.specs.Circumstances.{Circumstances}
use Rattle.deny_spec_report.specs.Facts.{Facts, AreFacts}
use Rattle.deny_spec_report.specs.Holding.{Holds}
use Rattle.deny_spec_removal.specs.Removal.{AreGone, NoBypasses, NoLicences, is_taken, stays_root, stays_skip}

-- the policy without the skips and skipped trees that are taken out
abbrev pub without_skips : Policy → List EntryId → Policy
without_skips p taken = record p {
  skip = filter (stays_skip taken) p.skip;
  skip_tree = filter (stays_root taken) p.skip_tree;
}

abbrev pub without_skips_in : Circumstances → List EntryId → Circumstances
without_skips_in c taken = record c { policy = without_skips c.policy taken }

-- skips and skipped trees that are hit stay
pub record AreUnhit (p : Policy) (g : Graph) (facts : chains.Facts) (taken : List EntryId) : Type 0 where
  pub skips : (s : Entry) → Contains p.skip s → is_hit_skip g facts s ≡ true → stays_skip taken s ≡ true
  pub roots : (t : Root) → Contains p.skip_tree t → has_root g t ≡ true → stays_root taken t ≡ true
  -- no entry that is taken out is of another kind
  pub no_wrapper : (span : Span) → is_taken taken Wrapper span ≡ false
  pub no_ignore : (span : Span) → is_taken taken ReplacementIgnore span ≡ false
  pub no_licence : NoLicences taken
  pub no_bypass : NoBypasses taken

-- ---- the law

abbrev pub SkipsCanGo : Type 0
SkipsCanGo = (c : Circumstances) → (facts : Facts) → (taken : List EntryId) → (keys : List Key)
    → AreFacts c facts → AreUnhit c.policy c.graph facts.chains taken
    → Lists key_cmp (Holds c facts) keys → AreGone c (without_skips_in c taken) facts taken keys
