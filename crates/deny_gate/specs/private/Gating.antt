-- A report as it is made: what is read and judged before it, and the causes of errors on the way.
use Rattle.std.specs.Prelude.{◌≡◌, ℕ, Bool, IsTrue, List, [], length, map, filter}
use Rattle.std.specs.Prelude.{Option, None, Some, IfSome, option_copied}
use Rattle.std.specs.List.Sorted.{IsStrictlySortedBy}
use Rattle.deny_base.specs.declared.entry.Hit.{Hit}
use Rattle.deny_base.specs.declared.files.File.{File}
use Rattle.deny_base.specs.declared.finding.Pack.{Pack}
use Rattle.deny_base.specs.declared.key.Key.{Key}
use Rattle.deny_cfg.specs.Lawful.{IsLawful, IsLawfulLicensing}
use Rattle.deny_cfg.specs.PolicyText.{ListsFaults, ReportsClashes}
use Rattle.deny_cfg.specs.PolicyView.{building_of, policy_view}
use Rattle.deny_cfg.specs.declared.policy.Policy.{Policy}
use Rattle.deny_cfg_entries.specs.declared.day.Day.{Day}
use Rattle.deny_krates.specs.Read.{IsGraphOf}
use Rattle.deny_spec.specs.Graph.{Crate, Graph}
use Rattle.deny_spec.specs.Licensing.{Licensing}
use Rattle.deny_spec.specs.Policy as model
use Rattle.deny_spec.specs.View.{View}
use Rattle.deny_base_disk.specs.Disk.{Disk}
use Rattle.deny_spec.specs.declared.package.Package.{Package}
use Rattle.deny_spec_report.specs.Circumstances.{Circumstances}
use Rattle.deny_spec_report.specs.Hits.{TestsLicensed, both_hits}
use Rattle.deny_spec_report.specs.Saying.{IsBreakIn}
use Rattle.deny_spec_report.specs.Holding.{AreKeys}
use Rattle.deny_spec_report.specs.StdReplacements.{asks_for_table}
use Rattle.deny_rules_dup_edges.specs.DupEdges.{ShowsEach, is_of_duplicate}
use Rattle.deny_spec_removal.specs.Dead.{AreDead}
use Rattle.deny_gate_licenses.specs.Check.{IsLicensed}
use Rattle.deny_rules.specs.Packages.{AreSeenBy, HaveCauses}
use Rattle.deny_spans.specs.Spans.{ViewLies}
use Rattle.deny_spans.specs.Seen.{IsSeen}
use Rattle.deny_base.specs.Unread.{unread_cmp}
use Rattle.deny_gate.specs.Hits.{AreHits}
use Rattle.deny_spans_workspace.specs.declared.registries.Registry.{Registry}
use Rattle.deny_gate.specs.private.Labels.{AreLockLines}
use Rattle.deny_gate.specs.Report.{IsReport, finding_for, keys_in, policy_id, verdict_of}
use Rattle.deny_gate.specs.Stats.{all_stats}
use Rattle.deny_gate.specs.Unread.{of_manifests, of_packages}
use Rattle.deny_gate.specs.declared.checks.Checked.{Checked}
use Rattle.deny_gate.specs.declared.checks.Extras as handed
use Rattle.deny_gate.specs.declared.checks.GraphResults.{GraphResults}
use Rattle.deny_gate.specs.declared.checks.CheckResults.{CheckResults}
use Rattle.deny_gate.specs.declared.gating.Judged.{Judged}
use Rattle.deny_gate.specs.declared.report.GateError.{GateError}
use Rattle.deny_gate.specs.declared.report.GateError.TheVariants.{Config, Invalid, Metadata, Replacement, Memory}
use Rattle.deny_gate.specs.declared.report.Report.{Report}
use Rattle.deny_gate.specs.Gating.{InputTexts, circumstances_of, IsTableFor, first_files, HasGraph, IsFirstFault}

-- when an error may come that depends on the policy alone, or on the metadata alone; out of memory may come at any
-- time
abbrev pub IsPolicyCause : Option Day → List ℕ → GateError → Type 0
IsPolicyCause today policy (Config faults) = ListsFaults today policy faults
IsPolicyCause today policy (Invalid clashes) = ReportsClashes today policy policy_id clashes
IsPolicyCause today policy (Metadata f) = ⊥
IsPolicyCause today policy (Replacement at) = ⊥
IsPolicyCause today policy Memory = Unit {0}

abbrev pub IsMetadataCause : List ℕ → GateError → Type 0
IsMetadataCause metadata (Config faults) = ⊥
IsMetadataCause metadata (Invalid clashes) = ⊥
IsMetadataCause metadata (Metadata f) = IsFirstFault metadata f
IsMetadataCause metadata (Replacement at) = ⊥
IsMetadataCause metadata Memory = Unit {0}

-- the inputs of the gate besides a policy and metadata
pub record Extras : Type 0 where
  pub replacements : Option (List ℕ)
  pub home : Option (List ℕ)
  pub registries : List Registry

abbrev pub extras_in : handed.Extras → Extras
extras_in extras = record {
  replacements = option_copied extras.table;
  home = option_copied extras.home;
  registries = extras.registries.now;
}

abbrev pub extras_of : InputTexts → Extras
extras_of texts = record {
  replacements = texts.replacements;
  home = texts.home;
  registries = texts.registries;
}

-- the report of a policy on a graph, by what was seen between two disks, behind the first files
pub record IsReportSeen (old new : Disk) (said : Policy) (g : Graph) (extras : Extras) (first : List File)
    (report : Report) : Type 0 where
  pub view : View
  pub packages : List Package
  pub ascending : IsStrictlySortedBy unread_cmp report.unread
  pub seen : IsSeen old.files g extras.registries first report.files (of_manifests report.unread) report.malformed view
  pub packages_seen : AreSeenBy old.files (building_of said.bans) extras.home g (of_packages report.unread) packages
  pub causes : HaveCauses old new (building_of said.bans) extras.home g (of_packages report.unread) packages
  pub spans : ViewLies (length first) report.files view
  pub lines : AreLockLines g
  pub is_report : IsReport (circumstances_of said g extras.replacements view packages) report

-- the dead entries by the results of the checks, the counts of their findings, and the verdict on them
pub record IsJudged (has_licenses : Bool) (judged : Judged) : Type 0 where
  pub dead : AreDead (keys_in judged.checked.results.findings) judged.checked.results.hits judged.dead
  pub stats : judged.stats ≡ all_stats has_licenses judged.checked.results.findings
  pub verdict : judged.verdict ≡ verdict_of judged.checked.results.findings

-- the report of what was judged on a graph, with its files
abbrev pub report_with : List File → Graph → Judged → Report
report_with files g judged = record {
  files = files;
  krates = g;
  findings = judged.checked.results.findings;
  dup_edges = judged.checked.results.dup_edges;
  unread = judged.checked.unread;
  malformed = judged.checked.malformed;
  hits = judged.checked.results.hits;
  dead = judged.dead;
  stats = judged.stats;
  verdict = judged.verdict;
}

-- the metadata has a graph, there is the table that a policy asks for, and this is the report of the policy on it
pub record IsPolicyReport (old new : Disk) (said : Policy) (texts : InputTexts) (report : Report) : Type 0 where
  pub graph : Graph
  pub is_graph : IsGraphOf texts.metadata graph
  pub table : IsTableFor (policy_view said.bans) texts.replacements
  pub seen : IsReportSeen old new said graph (extras_of texts) (first_files texts.policy said graph) report

-- when an error may come that depends on the bytes of a table alone
abbrev pub IsTableCause : Option (List ℕ) → GateError → Type 0
IsTableCause replacements (Config faults) = ⊥
IsTableCause replacements (Invalid clashes) = ⊥
IsTableCause replacements (Metadata f) = ⊥
IsTableCause replacements (Replacement at) = IsBreakIn replacements at
IsTableCause replacements Memory = Unit {0}

-- when an error may come of the table, where only a policy that asks for a table has a cause
abbrev pub IsTableCauseFor : model.Policy → Option (List ℕ) → GateError → Type 0
IsTableCauseFor p replacements error = IsTrue (asks_for_table p) × IsTableCause replacements error

-- when an error may come once the policy was read
abbrev pub IsCauseBehind : model.Policy → InputTexts → GateError → Type 0
IsCauseBehind p texts (Config faults) = ⊥
IsCauseBehind p texts (Invalid clashes) = ⊥
IsCauseBehind p texts (Metadata f) = IsFirstFault texts.metadata f
IsCauseBehind p texts (Replacement at) =
    HasGraph texts.metadata × IsTableCauseFor p texts.replacements (Replacement at)
IsCauseBehind p texts Memory = Unit {0}

-- no two entries of the policy have the same span
pub record AreEntriesApart (said : Policy) : Type 0 where
  pub bans : IsLawful said.bans
  pub licences : IfSome said.licenses IsLawfulLicensing

-- the results of both checks: a finding for each key that holds, what is shown of duplicates, and the hits
pub record AreResults (c : Circumstances) (results : CheckResults) : Type 0 where
  pub keys : List Key
  pub listed : AreKeys c keys
  pub findings : results.findings ≡ map (finding_for c) keys
  pub shown : ShowsEach c.policy c.graph (filter is_of_duplicate keys) results.dup_edges
  pub counts : Crate → Bool
  pub reports : TestsLicensed c.licensing c.graph counts
  pub hits : AreHits (both_hits c listed.facts counts) results.hits

-- the results of both checks, by what was seen of packages between two disks
pub record IsCheckedBy (old new : Disk) (said : Policy) (g : Graph) (replacements home : Option (List ℕ)) (view : View)
    (checked : Checked) : Type 0 where
  pub packages : List Package
  pub packages_seen : AreSeenBy old.files (building_of said.bans) home g checked.unread packages
  pub causes : HaveCauses old new (building_of said.bans) home g checked.unread packages
  pub results : AreResults (circumstances_of said g replacements view packages) checked.results

-- the results of both checks, by what was seen of manifests and packages, behind the first files
pub record AreGraphResults (old new : Disk) (said : Policy) (g : Graph) (extras : Extras) (first files : List File)
    (checked : GraphResults) : Type 0 where
  pub view : View
  pub packages : List Package
  pub ascending : IsStrictlySortedBy unread_cmp checked.unread
  pub seen : IsSeen old.files g extras.registries first files (of_manifests checked.unread) checked.malformed view
  pub packages_seen : AreSeenBy old.files (building_of said.bans) extras.home g (of_packages checked.unread) packages
  pub causes : HaveCauses old new (building_of said.bans) extras.home g (of_packages checked.unread) packages
  pub spans : ViewLies (length first) files view
  pub lines : AreLockLines g
  pub results : AreResults (circumstances_of said g extras.replacements view packages) checked.results

-- what the licence check adds and hands out, by what a policy says of licences: nothing where it has no section on
-- them
abbrev pub IsLicensedIf : Option Licensing → Graph → ℕ → List Pack → List Pack → List Hit → Type 0
IsLicensedIf None g file old new hits = (new ≡ old) × (hits ≡ [])
IsLicensedIf (Some l) g file old new hits = IsLicensed l g file old new hits
