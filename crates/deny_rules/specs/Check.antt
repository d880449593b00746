-- What the bans check gives.
use Rattle.std.specs.Prelude.{◌≡◌, ◌++◌, ◌⊎◌, ℕ, IsTrue, List, Option, filter, map}
use Rattle.deny_base.specs.declared.finding.Pack.{Pack}
use Rattle.deny_base.specs.declared.key.Key.{Key}
use Rattle.deny_spec.specs.declared.package.Package.{Package}
use Rattle.deny_cfg.specs.PolicyView.{building_of, policy_view}
use Rattle.deny_cfg.specs.declared.bans.cfg.valid.ValidConfig.{ValidConfig}
use Rattle.deny_spec.specs.Graph.{Graph}
use Rattle.deny_spec_report.specs.Circumstances.{Circumstances, tabled}
use Rattle.deny_spec_report.specs.Codes.{is_of_bans}
use Rattle.deny_spec_report.specs.Hits.{hits_in}
use Rattle.deny_spec_report.specs.Saying.{HasTable, bytes_of}
use Rattle.deny_spec_report.specs.Holding.{AreOwnKeys}
use Rattle.deny_spec_report.specs.StdReplacements.{asks_for_table}
use Rattle.deny_spec_report.specs.Diags.{key_pack}
use Rattle.deny_rules_dup_edges.specs.DupEdges.{ShowsEach, is_of_duplicate}
use Rattle.deny_base_disk.specs.Disk.{Disk, Files}
use Rattle.deny_spans.specs.declared.krate_spans.KrateSpans.{KrateSpans}
use Rattle.deny_diags.specs.Reporting.{ReportsPrefix}
use Rattle.deny_diags_parts.specs.Context.{circumstances_by}
use Rattle.deny_base.specs.declared.unread.Unread.{Unread}
use Rattle.deny_rules.specs.Packages.{AreSeenBy, HaveCauses}
use Rattle.deny_rules.specs.declared.check.BansEnd.{BansEnd}

-- each key that holds in the sections of the bans check is reported once, in the order of the keys; each entry that
-- is hit has its hit, and each duplicate its edges
pub record IsChecked (c : Circumstances) (old new : List Pack) (end : BansEnd) : Type 0 where
  pub keys : List Key
  pub listed : AreOwnKeys is_of_bans c keys
  pub reported : new ≡ old ++ map (key_pack c) keys
  pub hits : end.hits ≡ hits_in c listed.facts
  pub dup_edges : ShowsEach c.policy c.graph (filter is_of_duplicate keys) end.dup_edges

-- where the policy asks for a table of replacements, one was handed in
abbrev pub IsTableThere : ValidConfig → Option (List ℕ) → Type 0
IsTableThere cfg table = IsTrue (asks_for_table (policy_view cfg)) → HasTable table

-- the circumstances of a configuration and the spans of a graph, with what was seen of packages and the bytes of a
-- table
abbrev pub circumstances_of : ValidConfig → Graph → Option (List ℕ) → KrateSpans → List Package → Circumstances
circumstances_of cfg g table spans packages = tabled (circumstances_by cfg g spans packages) (bytes_of table)

-- what the check gives for a configuration, by what was seen of manifests, and between two disks of packages
pub record IsCheckOf (before after : Disk) (cfg : ValidConfig) (g : Graph) (table home : Option (List ℕ))
    (spans : KrateSpans) (old new : List Pack) (end : BansEnd) : Type 0 where
  pub packages : List Package
  pub seen : AreSeenBy before.files (building_of cfg) home g end.unread packages
  pub causes : HaveCauses before after (building_of cfg) home g end.unread packages
  pub is : IsChecked (circumstances_of cfg g table spans packages) old new end

-- a prefix of the keys that hold in the sections of the bans check was reported
pub record IsPrefixReported (c : Circumstances) (old new : List Pack) : Type 0 where
  pub keys : List Key
  pub listed : AreOwnKeys is_of_bans c keys
  pub reported : ReportsPrefix c keys old new

-- a prefix was reported for a configuration, by what was seen of manifests and of packages
pub record IsPrefixOf (told : Option Files) (cfg : ValidConfig) (g : Graph) (table home : Option (List ℕ))
    (spans : KrateSpans) (old new : List Pack) : Type 0 where
  pub unread : List Unread
  pub packages : List Package
  pub seen : AreSeenBy told (building_of cfg) home g unread packages
  pub is : IsPrefixReported (circumstances_of cfg g table spans packages) old new

-- nothing was reported, or a prefix of the keys that hold by a configuration
abbrev pub ReportsPrefixOf : Option Files → ValidConfig → Graph → Option (List ℕ) → Option (List ℕ) → KrateSpans
    → List Pack → List Pack → Type 0
ReportsPrefixOf told cfg g table home spans old new = (new ≡ old) ⊎ IsPrefixOf told cfg g table home spans old new
