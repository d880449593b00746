-- Dead entries: those that a finding names as unused and that have no hit.
use Rattle.std.specs.Prelude.{◌≡◌, ◌≢◌, ◌⊎◌, Bool, List, Option, Contains, filter_map, option_map}
use Rattle.deny_base_lists.specs.Ascending.{Lists}
use Rattle.deny_base.specs.Code.{unused_kind}
use Rattle.deny_base.specs.Entry.{entry_cmp}
use Rattle.deny_base.specs.KeyOrder.{key_cmp}
use Rattle.deny_base.specs.declared.entry.EntryId.{EntryId}
use Rattle.deny_base.specs.declared.entry.EntryKind.TheVariants as kind
use Rattle.deny_base.specs.declared.entry.EntryKind.TheVariants.{LicenseAllow, LicenseException, ReplacementIgnore}
use Rattle.deny_base.specs.declared.entry.EntryKind.TheVariants.{Skip, SkipRoot, Wrapper}
use Rattle.deny_base.specs.declared.entry.Hit.{Hit}
use Rattle.deny_base.specs.declared.key.Key.{Key}
use Rattle.deny_spec.specs.Graph.{Crate}
use Rattle.deny_spec.specs.Policy.{Policy}
use Rattle.deny_spec_report.specs.Circumstances.{Circumstances}
use Rattle.deny_spec_report.specs.Facts.{Facts, AreFacts}
use Rattle.deny_spec_report.specs.Hits.{TestsLicensed, both_hits}
use Rattle.deny_spec_report.specs.Holding.{Holds}
use Rattle.deny_spec_removal.specs.BypassRemoval.{without_bypasses_in}
use Rattle.deny_spec_removal.specs.IgnoreRemoval.{without_ignores_in}
use Rattle.deny_spec_removal.specs.LicenceRemoval.{without_licences_in}
use Rattle.deny_spec_removal.specs.Removal.{AreGone, EmptyNone, without_in}
use Rattle.deny_spec_removal.specs.SkipRemoval.{without_skips_in}
use Rattle.deny_spec_removal.specs.WrapperRemoval.{without_wrappers_in}

-- the entry that a key names as unused
unfoldable pub unused_entry : Key → Option EntryId
unused_entry key = option_map (λ kind. record { kind = kind; range = key.entry }) (unused_kind key.code)

pub record IsDead (keys : List Key) (hits : List Hit) (e : EntryId) : Type 0 where
  pub reported : Contains (filter_map unused_entry keys) e
  pub unhit : (h : Hit) → Contains hits h → h.entry ≢ e

-- the dead entries of a report, ordered by span and kind, each once
abbrev pub AreDead : List Key → List Hit → List EntryId → Type 0
AreDead keys hits dead = Lists entry_cmp (IsDead keys hits) dead

-- each entry that is taken out is among the dead ones
abbrev pub AreAmong : List EntryId → List EntryId → Type 0
AreAmong dead taken = (e : EntryId) → Contains taken e → Contains dead e

-- each entry that is taken out is a dead skip or a dead skipped tree
pub record AreDeadSkips (dead taken : List EntryId) : Type 0 where
  pub dead_each : AreAmong dead taken
  pub kind : (e : EntryId) → Contains taken e → (e.kind ≡ Skip) ⊎ (e.kind ≡ SkipRoot)

-- each entry that is taken out is a dead wrapper, and no ban loses its last one
pub record AreDeadWrappers (p : Policy) (dead taken : List EntryId) : Type 0 where
  pub dead_each : AreAmong dead taken
  pub kind : (e : EntryId) → Contains taken e → e.kind ≡ Wrapper
  pub not_emptied : EmptyNone p taken

-- each entry that is taken out is a dead licence that every crate may ask for, or a dead exception
pub record AreDeadLicences (dead taken : List EntryId) : Type 0 where
  pub dead_each : AreAmong dead taken
  pub kind : (e : EntryId) → Contains taken e → (e.kind ≡ LicenseAllow) ⊎ (e.kind ≡ LicenseException)

-- each entry that is taken out is a dead ignore
pub record AreDeadIgnores (dead taken : List EntryId) : Type 0 where
  pub dead_each : AreAmong dead taken
  pub kind : (e : EntryId) → Contains taken e → e.kind ≡ ReplacementIgnore

-- each entry that is taken out is a dead bypass, or a dead path or glob of one
pub record AreDeadBypasses (dead taken : List EntryId) : Type 0 where
  pub dead_each : AreAmong dead taken
  pub kind : (e : EntryId) → Contains taken e
      → (e.kind ≡ kind.Bypass) ⊎ ((e.kind ≡ kind.BypassPath) ⊎ (e.kind ≡ kind.BypassGlob))

-- ---- the laws

abbrev pub DeadCanGo : Type 0
DeadCanGo = (c : Circumstances) → (facts : Facts) → (counts : Crate → Bool) → (keys : List Key)
    → (dead taken : List EntryId) → AreFacts c facts → TestsLicensed c.licensing c.graph counts
    → Lists key_cmp (Holds c facts) keys → AreDead keys (both_hits c facts counts) dead
    → AreAmong dead taken → EmptyNone c.policy taken → AreGone c (without_in c taken) facts taken keys

abbrev pub DeadSkipsCanGo : Type 0
DeadSkipsCanGo = (c : Circumstances) → (facts : Facts) → (counts : Crate → Bool) → (keys : List Key)
    → (dead taken : List EntryId) → AreFacts c facts
    → Lists key_cmp (Holds c facts) keys → AreDead keys (both_hits c facts counts) dead
    → AreDeadSkips dead taken → AreGone c (without_skips_in c taken) facts taken keys

abbrev pub DeadWrappersCanGo : Type 0
DeadWrappersCanGo = (c : Circumstances) → (facts : Facts) → (counts : Crate → Bool) → (keys : List Key)
    → (dead taken : List EntryId) → AreFacts c facts
    → Lists key_cmp (Holds c facts) keys → AreDead keys (both_hits c facts counts) dead
    → AreDeadWrappers c.policy dead taken → AreGone c (without_wrappers_in c taken) facts taken keys

abbrev pub DeadIgnoresCanGo : Type 0
DeadIgnoresCanGo = (c : Circumstances) → (facts : Facts) → (counts : Crate → Bool) → (keys : List Key)
    → (dead taken : List EntryId) → AreFacts c facts
    → Lists key_cmp (Holds c facts) keys → AreDead keys (both_hits c facts counts) dead
    → AreDeadIgnores dead taken → AreGone c (without_ignores_in c taken) facts taken keys

abbrev pub DeadLicencesCanGo : Type 0
DeadLicencesCanGo = (c : Circumstances) → (facts : Facts) → (counts : Crate → Bool) → (keys : List Key)
    → (dead taken : List EntryId) → AreFacts c facts → TestsLicensed c.licensing c.graph counts
    → Lists key_cmp (Holds c facts) keys → AreDead keys (both_hits c facts counts) dead
    → AreDeadLicences dead taken → AreGone c (without_licences_in c taken) facts taken keys

abbrev pub DeadBypassesCanGo : Type 0
DeadBypassesCanGo = (c : Circumstances) → (facts : Facts) → (counts : Crate → Bool) → (keys : List Key)
    → (dead taken : List EntryId) → AreFacts c facts
    → Lists key_cmp (Holds c facts) keys → AreDead keys (both_hits c facts counts) dead
    → AreDeadBypasses dead taken → AreGone c (without_bypasses_in c taken) facts taken keys
