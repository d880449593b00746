-- Entries without a hit in a report can go, its dead ones among them.
use Rattle.std.proofs.Common.{◌≡◌, ◌∙◌, ◌++◌, Bool, List, Option, None, Some, ap, subst, sym}
use Rattle.std.specs.Prelude.{Contains, option_map}
use Rattle.std.specs.Cmp.{IsTotalOrder, on_total}
use Rattle.deny_base_lists.specs.Ascending.{Lists}
use Rattle.deny_base_lists.proofs.Members.{from_contains_map}
use Rattle.deny_base_lists.proofs.Sorted.{one_list}
use Rattle.std.proofs.lemmas.Option.{same_Some}
use Rattle.deny_base.specs.Entry.{entry_cmp}
use Rattle.deny_base.specs.KeyOrder.{key_cmp}
use Rattle.deny_base.specs.declared.entry.EntryId.{EntryId}
use Rattle.deny_base.specs.declared.entry.Hit.{Hit}
use Rattle.deny_base.specs.declared.key.Key.{Key}
use Rattle.deny_base.specs.declared.code.Code.TheVariants as code
use Rattle.deny_base.specs.declared.code.DiagnosticCode.{DiagnosticCode}
use Rattle.deny_base.specs.declared.code.DiagnosticCode.TheVariants.{Bans}
use Rattle.deny_spec.specs.Building.{Building}
use Rattle.deny_spec.specs.Graph.{Crate, Graph}
use Rattle.deny_spec.specs.Licensing.{Licensing}
use Rattle.deny_base_disk.specs.Disk.{Files}
use Rattle.deny_spec_report.specs.Circumstances.{Circumstances}
use Rattle.deny_spec_report.specs.Hits.{TestsLicensed, both_hits, hits_in, licence_hits_in}
use Rattle.deny_spec_report.specs.Packages.{scanning}
use Rattle.deny_spec_report.specs.PackageDiags.{mismatch_severity}
use Rattle.deny_spec_report.specs.Holding.{AreKeys, Holds, HoldsBy}
use Rattle.deny_spec_report.specs.Diags.{key_message}
use Rattle.deny_spec_removal.specs.Asking.{PackagesStay}
use Rattle.deny_spec_removal.specs.Dead.{AreAmong}
use Rattle.deny_spec_removal.specs.Removal.{AreGone, EmptyNone, EntriesCanGo, HaveNoHit, cut_building, cut_licensing}
use Rattle.deny_spec_removal.specs.Removal.{unnaming, without_in}
use Rattle.deny_gate.specs.Dead.{CanDoWithoutDead, CanDoWithoutUnhit, LosesOnly, ReportsTheRest}
use Rattle.deny_gate.specs.Gating.{IsReportOf, InputTexts, circumstances_of}
use Rattle.deny_gate.specs.Hits.{AreHits, entry_of}
use Rattle.deny_gate.specs.Report.{IsReport, finding_for, keys_in}
use Rattle.deny_gate.specs.Unread.{of_packages}
use Rattle.deny_gate.specs.declared.report.Finding.{Finding}
use Rattle.deny_gate.specs.declared.report.Report.{Report}
use Rattle.deny_gate.proofs.BuildOrigins.{Origin, OriginIn, origin_of}
use Rattle.deny_gate.proofs.FindingLaws.{keys_of_findings, severity_of_finding}
use Rattle.deny_gate.proofs.OneHits.{hits_alike}
use Rattle.deny_gate.proofs.PackagesStay.{seen_without}
use Rattle.deny_gate.proofs.Placed.{in_place}
use Rattle.deny_gate.proofs.ScriptSums.{SumsDiffer, mismatch_alike}
use Rattle.deny_gate.proofs.EachCode.{severity_alike}
use Rattle.deny_gate.proofs.Severities.{MismatchAlike}
use Rattle.deny_gate.proofs.SumsApart.{sums_differ}

-- the dead entries of a report have no hit in it
pub dead_unhit : (c : Circumstances) (taken : List EntryId) (report : Report) → IsReport c report
    → AreAmong report.dead taken → HaveNoHit report.hits taken
dead_unhit c taken report is among e at = (is.dead.sound e (among e at)).unhit

-- a test of which crates count for a policy's licences is one for fewer entries too
reports_less : (o : Option Licensing) (taken : List EntryId) (g : Graph) (counts : Crate → Bool)
    → TestsLicensed o g counts → TestsLicensed (option_map (cut_licensing taken) o) g counts
reports_less None taken g counts reports = tt
reports_less (Some l) taken g counts reports = reports

-- an entry without a hit in the report has none at all
no_hit : (c : Circumstances) (taken : List EntryId) (report : Report) (is : IsReport c report)
    → HaveNoHit report.hits taken → HaveNoHit (both_hits c is.listed.facts is.counts) taken
no_hit c taken report is unhit e at h hit = unhit e at h (is.hits.whole h hit)

module _ (law : EntriesCanGo) (c : Circumstances) (taken : List EntryId) (report : Report) (is : IsReport c report)
    (unhit : HaveNoHit report.hits taken) (kept : EmptyNone c.policy taken) where
  keys_are : keys_in report.findings ≡ is.keys
  keys_are = ap keys_in is.findings ∙ keys_of_findings c is.keys

  gone : AreGone c (without_in c taken) is.listed.facts taken is.keys
  gone = law c is.listed.facts is.counts taken is.keys is.listed.true_facts is.reports
      (no_hit c taken report is unhit) kept is.listed.listed

  hits_stay : both_hits c is.listed.facts is.counts ≡ both_hits (without_in c taken) is.listed.facts is.counts
  hits_stay = sym
      (ap (λ (hits : List Hit). hits ++ licence_hits_in is.counts (without_in c taken)) gone.hits
      ∙ ap (λ (hits : List Hit). hits_in c is.listed.facts ++ hits) (gone.licence_hits is.counts is.reports))

  rest_keys : AreKeys (without_in c taken) (unnaming taken (keys_in report.findings))
  rest_keys = record {
    facts = is.listed.facts;
    true_facts = gone.facts_hold;
    listed = subst (λ (keys : List Key). Lists key_cmp (Holds (without_in c taken) is.listed.facts)
        (unnaming taken keys)) (sym keys_are) gone.listed;
  }

  -- a report of the policy without entries that have no hit loses only what names them as unused
  pub loses_only : IsTotalOrder entry_cmp
      → ((d : Circumstances) → (xs ys : List Key) → AreKeys d xs → AreKeys d ys → xs ≡ ys)
      → (other : Report) → IsReport (without_in c taken) other → LosesOnly taken report other
  loses_only total one other that = record {
    keys = (ap keys_in that.findings ∙ keys_of_findings (without_in c taken) that.keys)
        ∙ one (without_in c taken) that.keys (unnaming taken (keys_in report.findings)) that.listed rest_keys;
    hits = one_list (on_total entry_of total) other.hits report.hits that.hits
        (subst (λ (all : List Hit). AreHits all report.hits)
        (hits_stay ∙ hits_alike (without_in c taken) is.listed.facts that.listed.facts is.counts that.counts
        gone.facts_hold that.listed.true_facts (reports_less c.licensing taken c.graph is.counts is.reports)
        that.reports)
        is.hits);
  }

  -- ---- the severities of the report

  module _ (stay : PackagesStay) (differ : (b : Building) → c.building ≡ Some b → SumsDiffer b) where
    mismatch_by : (key : Key) (b : Building) → c.building ≡ Some b → key.code ≡ Bans code.ChecksumMismatch
        → OriginIn c is.listed.facts key → mismatch_severity (cut_building taken b) key ≡ mismatch_severity b key
    mismatch_by key b said coded of =
        let one : of.building ≡ b = same_Some of.building b (sym of.is_said ∙ said) in
        mismatch_alike (scanning c is.listed.facts b) taken (stay c is.listed.facts is.counts taken
        (no_hit c taken report is unhit) b said)
        (differ b said) key coded
        (subst (λ (x : Building). Origin (scanning c is.listed.facts x) key) one of.origin)

    mismatches : (key : Key) → Contains is.keys key → MismatchAlike c taken key
    mismatches key at coded b said = mismatch_by key b said coded (origin_of c is.listed.facts key
        (subst (λ (d : DiagnosticCode). HoldsBy d c is.listed.facts key) coded (is.listed.listed.sound key at)))

    same_severity : (f : Finding) → Contains report.findings f
        → (key_message (without_in c taken) f.diag.key).severity ≡ f.diag.diag.severity
    same_severity f at =
        let from = from_contains_map (finding_for c) is.keys f
        (subst (λ (fs : List Finding). Contains fs f) is.findings at)
        in subst (λ (g : Finding). (key_message (without_in c taken) g.diag.key).severity ≡ g.diag.diag.severity) from.2
        (severity_of_finding c (without_in c taken) from.0
        (severity_alike c taken from.0 (mismatches from.0 from.1)))

    reports_the_rest : ReportsTheRest c taken report
    unfolding rest_keys
    reports_the_rest = record {
      keys = rest_keys;
      severities = same_severity;
      counts = is.counts;
      reports = reports_less c.licensing taken c.graph is.counts is.reports;
      hits = subst (λ (all : List Hit). AreHits all report.hits) hits_stay is.hits;
    }

pub without_unhit : EntriesCanGo → PackagesStay → (told : Option Files) (texts : InputTexts) (report : Report)
    → IsReportOf told texts report → CanDoWithoutUnhit told texts report
without_unhit law stay told texts report of =
    let by = of.by in
    let c = circumstances_of by.said by.graph texts.replacements of.view of.packages in
    let is = by.is_report in record {
      view = of.view;
      packages = of.packages;
      by = by;
      can = λ taken unhit kept. reports_the_rest law c taken report is unhit kept stay
          (sums_differ texts.today texts.policy by.said by.is_said);
      sees = λ taken unhit. seen_without stay told c is.listed.facts is.counts taken texts.home
          (of_packages report.unread) is.listed.true_facts (in_place texts.metadata by.graph by.is_graph)
          (no_hit c taken report is unhit) by.packages_seen;
    }

-- what holds of all entries without a hit holds of the dead ones
pub dead_of_unhit : (told : Option Files) (texts : InputTexts) (report : Report) → CanDoWithoutUnhit told texts report
    → CanDoWithoutDead told texts report
dead_of_unhit told texts report without =
    let c = circumstances_of without.by.said without.by.graph texts.replacements without.view without.packages in
    let is = without.by.is_report in record {
      view = without.view;
      packages = without.packages;
      by = without.by;
      can = λ taken among. without.can taken (dead_unhit c taken report is among);
      sees = λ taken among. without.sees taken (dead_unhit c taken report is among);
    }
