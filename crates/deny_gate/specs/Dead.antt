-- Entries without a hit, dead ones among them, and what the report of a policy without them is.
use Rattle.std.specs.Prelude.{◌≡◌, Bool, List, Option, Contains, option_map}
use Rattle.deny_base.specs.declared.entry.EntryId.{EntryId}
use Rattle.deny_spec.specs.declared.package.Package.{Package}
use Rattle.deny_cfg.specs.PolicyView.{building_of}
use Rattle.deny_spec_report.specs.Circumstances.{Circumstances}
use Rattle.deny_spec_report.specs.Hits.{TestsLicensed, both_hits}
use Rattle.deny_spec_report.specs.Holding.{AreKeys}
use Rattle.deny_spec_report.specs.Diags.{key_message}
use Rattle.deny_spec_removal.specs.Dead.{AreAmong}
use Rattle.deny_spec_removal.specs.Removal.{EmptyNone, HaveNoHit, cut_building, unnaming, without_in}
use Rattle.deny_spec.specs.Graph.{Crate}
use Rattle.deny_spec.specs.View.{View}
use Rattle.deny_base_disk.specs.Disk.{Files}
use Rattle.deny_gate.specs.Gating.{IsReportBy, InputTexts, circumstances_of}
use Rattle.deny_gate.specs.Hits.{AreHits}
use Rattle.deny_rules.specs.Packages.{AreSeenBy}
use Rattle.deny_gate.specs.Report.{keys_in}
use Rattle.deny_gate.specs.Unread.{of_packages}
use Rattle.deny_gate.specs.declared.report.Finding.{Finding}
use Rattle.deny_gate.specs.declared.report.Report.{Report}

-- the keys and hits of a policy without some entries, by the report of the policy with them
pub record ReportsTheRest (c : Circumstances) (taken : List EntryId) (report : Report) : Type 0 where
  -- the keys that hold are those of the report, but for those that name one of the entries as unused
  pub keys : AreKeys (without_in c taken) (unnaming taken (keys_in report.findings))
  -- each key has the severity that it has in the report
  pub severities : (f : Finding) → Contains report.findings f
      → (key_message (without_in c taken) f.diag.key).severity ≡ f.diag.diag.severity
  -- the hits are those of the report: each entry has the same first witness
  pub counts : Crate → Bool
  pub reports : TestsLicensed (without_in c taken).licensing c.graph counts
  pub hits : AreHits (both_hits (without_in c taken) keys.facts counts) report.hits

-- any list of entries that passes a condition can go, as long as no list of wrappers is emptied
abbrev pub CanGoIn : (List EntryId → Type 0) → Circumstances → Report → Type 0
CanGoIn Goes c report = (taken : List EntryId) → Goes taken → EmptyNone c.policy taken
    → ReportsTheRest c taken report

-- Entries that pass a condition can go from the policy of the inputs, in the circumstances that the report was made in.
-- By what the policy says of builds without them, the same is seen of packages, and the same could not be read.
pub record CanDoWithout (Goes : List EntryId → Type 0) (told : Option Files) (texts : InputTexts) (report : Report)
    : Type 0 where
  pub view : View
  pub packages : List Package
  pub by : IsReportBy told texts view packages report
  pub can : CanGoIn Goes (circumstances_of by.said by.graph texts.replacements view packages) report
  pub sees : (taken : List EntryId) → Goes taken
      → AreSeenBy told (option_map (cut_building taken) (building_of by.said.bans)) texts.home by.graph
      (of_packages report.unread) packages

-- any of the report's dead entries can go
abbrev pub CanDoWithoutDead : Option Files → InputTexts → Report → Type 0
CanDoWithoutDead told texts report = CanDoWithout (AreAmong report.dead) told texts report

-- any entries without a hit in the report can go, reported as unused or not
abbrev pub CanDoWithoutUnhit : Option Files → InputTexts → Report → Type 0
CanDoWithoutUnhit told texts report = CanDoWithout (HaveNoHit report.hits) told texts report

-- a report has the keys of another but for those that name one of some entries as unused, and the same hits
pub record LosesOnly (taken : List EntryId) (report other : Report) : Type 0 where
  pub keys : keys_in other.findings ≡ unnaming taken (keys_in report.findings)
  pub hits : other.hits ≡ report.hits
