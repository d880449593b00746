-- Removal of wrappers from bans, and of no entry of another kind.
use Rattle.std.specs.Prelude.{◌≡◌, true, false, List, Contains, map}
use Rattle.deny_base_lists.specs.Ascending.{Lists}
use Rattle.deny_base.specs.KeyOrder.{key_cmp}
use Rattle.deny_base.specs.declared.entry.EntryId.{EntryId}
use Rattle.deny_base.specs.declared.entry.EntryKind.TheVariants.{ReplacementIgnore, Skip, SkipRoot}
use Rattle.deny_base.specs.declared.key.Key.{Key}
use Rattle.deny_base.specs.declared.span.Span.{Span}
use Rattle.deny_spec.specs.Graph.{Graph}
use Rattle.deny_spec.specs.Policy as policy
use Rattle.deny_spec.specs.Policy.{Ban, Policy}
use Rattle.deny_spec.specs.Wrappers.{is_hit_wrapper}
use Rattle.deny_spec_report.specs.Circumstances.{Circumstances}
use Rattle.deny_spec_report.specs.Facts.{Facts, AreFacts}
use Rattle.deny_spec_report.specs.Holding.{Holds}
use Rattle.deny_spec_removal.specs.Removal.{AreGone, EmptyNone, NoBypasses, NoLicences, cut, is_taken, stays_wrapper}

-- the policy without the wrappers that are taken out
abbrev pub without_wrappers : Policy → List EntryId → Policy
without_wrappers p taken = record p { deny = map (cut taken) p.deny }

abbrev pub without_wrappers_in : Circumstances → List EntryId → Circumstances
without_wrappers_in c taken = record c { policy = without_wrappers c.policy taken }

-- wrappers that are hit stay, no ban loses its last wrapper, and no entry that is taken out is of another kind
pub record AreUnhitWrappers (p : Policy) (g : Graph) (taken : List EntryId) : Type 0 where
  pub wrappers : (ban : Ban) → Contains p.deny ban → (w : policy.SpannedText) → Contains ban.wrappers w
      → is_hit_wrapper p g ban w ≡ true → stays_wrapper taken w ≡ true
  pub not_emptied : EmptyNone p taken
  pub no_skip : (span : Span) → is_taken taken Skip span ≡ false
  pub no_root : (span : Span) → is_taken taken SkipRoot span ≡ false
  pub no_ignore : (span : Span) → is_taken taken ReplacementIgnore span ≡ false
  pub no_licence : NoLicences taken
  pub no_bypass : NoBypasses taken

-- ---- the law

abbrev pub WrappersCanGo : Type 0
WrappersCanGo = (c : Circumstances) → (facts : Facts) → (taken : List EntryId) → (keys : List Key)
    → AreFacts c facts → AreUnhitWrappers c.policy c.graph taken
    → Lists key_cmp (Holds c facts) keys → AreGone c (without_wrappers_in c taken) facts taken keys
