-- What the gate promises of the inputs that it is handed.
use Rattle.std.specs.Prelude.{◌≡◌, ◌≢◌, ◌⊎◌, ◌<◌, ◌^◌, ◌++◌, ℕ, IsTrue, List, [], ◌∷◌, length}
use Rattle.std.specs.Prelude.{Option, Some, Ok, Err, IfSome, option_map}
use Rattle.std.specs.List.Sorted.{IsStrictlySortedBy}
use Rattle.deny_base.specs.declared.files.File.{File}
use Rattle.deny_base.specs.declared.span.Span.{Span}
use Rattle.deny_cfg.specs.LicensingView.{licensing_of}
use Rattle.deny_cfg.specs.PolicyText.{IsPolicyOf, ListsFaults, ReportsClashes, policy_files}
use Rattle.deny_cfg.specs.PolicyView.{building_of, builtin_file_of, past_waivers_of, policy_view}
use Rattle.deny_cfg.specs.declared.policy.Policy.{Policy}
use Rattle.deny_cfg_entries.specs.declared.day.Day.{Day}
use Rattle.deny_krates.specs.Checked.{Resolved, checked}
use Rattle.deny_krates.specs.Read.{IsGraphOf}
use Rattle.deny_krates.specs.fault.MetadataFault.{MetadataFault}
use Rattle.deny_krates.specs.fault.MetadataFault.TheVariants as fault
use Rattle.deny_spec.specs.Graph.{Graph}
use Rattle.deny_spec.specs.Licensing.{Licensing}
use Rattle.deny_spec.specs.Policy as model
use Rattle.deny_spec.specs.View.{View}
use Rattle.deny_base_disk.specs.Disk.{Disk, Files}
use Rattle.deny_spec.specs.Building.{Building}
use Rattle.deny_spec.specs.Expired.{PastWaiver}
use Rattle.deny_spec.specs.declared.package.Package.{Package}
use Rattle.deny_spec_report.specs.Circumstances.{Circumstances, FileNumbers, built, licensed, seen_anew, seen_in}
use Rattle.deny_spec_report.specs.Circumstances.{tabled, with_expired}
use Rattle.deny_spec_report.specs.Saying.{HasTable, IsBreakIn, bytes_of}
use Rattle.deny_spec_report.specs.StdReplacements.{asks_for_table}
use Rattle.deny_build_scan.specs.Why.{AreFoldersOf}
use Rattle.deny_rules.specs.Packages.{AreSeenBy, HaveCauses}
use Rattle.deny_spans.specs.Seen.{IsSeen, lock_file}
use Rattle.deny_toml.specs.Faults.{fault_at}
use Rattle.deny_toml.specs.error.FaultKind.TheVariants.{Grammar}
use Rattle.deny_base_unread.specs.Bound.{Folders}
use Rattle.deny_base_unread.specs.Causes.{AreCaused}
use Rattle.deny_base.specs.Unread.{unread_cmp}
use Rattle.deny_spans_workspace.specs.declared.registries.Registry.{Registry}
use Rattle.deny_gate.specs.Report.{IsReport, lock_id, policy_id}
use Rattle.deny_gate.specs.Unread.{of_manifests, of_packages}
use Rattle.deny_gate.specs.Unseeing.{unseeing_entries, unseeing_findings, unseeing_hits}
use Rattle.deny_gate.specs.declared.report.GateError.{GateError}
use Rattle.deny_gate.specs.declared.report.GateError.TheVariants.{Config, Invalid, Metadata, Replacement, Memory}
use Rattle.deny_gate.specs.declared.report.Inputs.{Inputs}
use Rattle.deny_gate.specs.declared.report.Report.{Report}

-- the inputs of the gate as plain data: the texts of a policy and of metadata, the bytes of a table of replacements,
-- if there is one, the folder that paths are shown from, if one is named, the registries that manifests can name, and
-- the day of which the policy is judged, if one is named
pub record InputTexts : Type 0 where
  pub policy : List ℕ
  pub metadata : List ℕ
  pub replacements : Option (List ℕ)
  pub home : Option (List ℕ)
  pub registries : List Registry
  pub today : Option Day

abbrev pub texts_in : Inputs → InputTexts
texts_in inputs = record {
  policy = inputs.policy.items;
  metadata = inputs.metadata.items;
  replacements = option_map (λ bytes. bytes.items) inputs.replacements;
  home = inputs.home;
  registries = inputs.registries;
  today = inputs.today;
}

-- each text is under 2^28 bytes
pub record AreShort (texts : InputTexts) : Type 0 where
  pub policy : length texts.policy < 2 ^ 28
  pub metadata : length texts.metadata < 2 ^ 28
  pub replacements : IfSome texts.replacements (λ bytes. length bytes < 2 ^ 28)

-- what the rules read of a policy: what it says of crates, licences and builds, its waivers that expired, and the
-- number of the built-in globs among the files, where they are there
pub record Saying : Type 0 where
  pub policy : model.Policy
  pub licensing : Option Licensing
  pub building : Option Building
  pub expired : List PastWaiver
  pub globs : Option ℕ

abbrev pub saying_of : Policy → Saying
saying_of said = record {
  policy = policy_view said.bans;
  licensing = licensing_of said.licenses;
  building = building_of said.bans;
  expired = past_waivers_of said;
  globs = builtin_file_of said.bans;
}

-- the numbers of files: the policy's text is the first, and the lock text is behind the built-in globs
abbrev pub numbers_of : Option ℕ → FileNumbers
numbers_of globs = record { policy = policy_id; lock = Some (lock_id globs); globs = globs }

-- the circumstances of a policy on a graph, with the bytes of a table and what was seen of manifests and of packages
abbrev pub circumstances_on : Saying → Graph → Option (List ℕ) → View → List Package → Circumstances
circumstances_on said g replacements view packages =
    let seen = seen_anew (seen_in (numbers_of said.globs) said.policy g view) view packages in
    with_expired (licensed (tabled (built seen said.building) (bytes_of replacements)) said.licensing) said.expired

-- the circumstances of a policy that was read
abbrev pub circumstances_of : Policy → Graph → Option (List ℕ) → View → List Package → Circumstances
circumstances_of said g replacements view packages = circumstances_on (saying_of said) g replacements view packages

-- a policy that asks for a table of replacements was given one
abbrev pub IsTableFor : model.Policy → Option (List ℕ) → Type 0
IsTableFor p replacements = IsTrue (asks_for_table p) → HasTable replacements

-- the files before those of manifests: the text of a policy, the built-in globs where it asks for them, and the lock
-- text of a graph
abbrev pub first_files : List ℕ → Policy → Graph → List File
first_files text said g = policy_files text said.bans ++ lock_file g.root g ∷ []

-- The metadata has a graph, the table is there that the policy asks for, and the report is that of the policy on the
-- graph, by a view of manifests and by packages. Both were seen on a disk that may tell its files: the files of the
-- report are those of the policy, the lock text and the manifests that were read. The report lists malformed
-- manifests, and what was not read, ascending, each once: of manifests exactly those that are missing in the view, and
-- otherwise exactly what is missing of packages.
pub record IsReportBy (told : Option Files) (texts : InputTexts) (view : View) (packages : List Package)
    (report : Report)
    : Type 0 where
  pub said : Policy
  pub is_said : IsPolicyOf texts.today texts.policy policy_id said
  pub graph : Graph
  pub is_graph : IsGraphOf texts.metadata graph
  pub table : IsTableFor (policy_view said.bans) texts.replacements
  pub ascending : IsStrictlySortedBy unread_cmp report.unread
  pub seen : IsSeen told graph texts.registries (first_files texts.policy said graph) report.files
      (of_manifests report.unread) report.malformed view
  pub packages_seen : AreSeenBy told (building_of said.bans) texts.home graph (of_packages report.unread) packages
  pub is_report : IsReport (circumstances_of said graph texts.replacements view packages) report

-- the report of the inputs, by some view of manifests and some packages
pub record IsReportOf (told : Option Files) (texts : InputTexts) (report : Report) : Type 0 where
  pub view : View
  pub packages : List Package
  pub by : IsReportBy told texts view packages report

-- What the report lists as unread has causes between two disks: the entries that no bound explains are at most as many
-- as the calls that failed. The failures that it reports of packages have causes too.
pub record IsCausedReport (old new : Disk) (texts : InputTexts) (report : Report) : Type 0 where
  pub view : View
  pub packages : List Package
  pub by : IsReportBy old.files texts view packages report
  pub caused : (folder : Folders) → AreFoldersOf report.krates folder → AreCaused folder old new report.unread
  pub causes : HaveCauses old new (building_of by.said.bans) texts.home by.graph (of_packages report.unread) packages

-- two reports are equal but for what could not be read of files
pub record AreReportedAlike (a b : Report) : Type 0 where
  pub krates : a.krates ≡ b.krates
  pub findings : a.findings ≡ b.findings
  pub dup_edges : a.dup_edges ≡ b.dup_edges
  pub hits : a.hits ≡ b.hits
  pub dead : a.dead ≡ b.dead
  pub stats : a.stats ≡ b.stats
  pub verdict : a.verdict ≡ b.verdict

-- two reports are equal in the findings and entries whose codes depend on no files
pub record AreAlikeUnseen (a b : Report) : Type 0 where
  pub krates : a.krates ≡ b.krates
  pub findings : unseeing_findings a.findings ≡ unseeing_findings b.findings
  pub dup_edges : a.dup_edges ≡ b.dup_edges
  pub hits : unseeing_hits a.hits ≡ unseeing_hits b.hits
  pub dead : unseeing_entries a.dead ≡ unseeing_entries b.dead

-- the text is a policy of the day
pub record HasPolicy (today : Option Day) (policy : List ℕ) : Type 0 where
  pub said : Policy
  pub is_said : IsPolicyOf today policy policy_id said

-- the bytes are metadata without a fault, and so have a graph
pub record HasGraph (metadata : List ℕ) : Type 0 where
  pub read : Resolved
  pub is_read : checked metadata ≡ Ok read

-- a fault is the first of the bytes as metadata; out of memory is none
pub record IsFirstFault (metadata : List ℕ) (f : MetadataFault) : Type 0 where
  pub is_theirs : f ≢ fault.Memory
  pub is : checked metadata ≡ Err f

-- the text is a policy of the day, which asks for a table of replacements
pub record AsksForTable (today : Option Day) (policy : List ℕ) : Type 0 where
  pub said : Policy
  pub is_said : IsPolicyOf today policy policy_id said
  pub asks : IsTrue (asks_for_table (policy_view said.bans))

-- when an error may come: the policy is read first, and then the metadata
abbrev pub IsCause : InputTexts → GateError → Type 0
IsCause texts (Config faults) = ListsFaults texts.today texts.policy faults
IsCause texts (Invalid clashes) = ReportsClashes texts.today texts.policy policy_id clashes
IsCause texts (Metadata f) = HasPolicy texts.today texts.policy × IsFirstFault texts.metadata f
IsCause texts (Replacement at) =
    AsksForTable texts.today texts.policy × HasGraph texts.metadata × IsBreakIn texts.replacements at
IsCause texts Memory = Unit {0}

-- an error is that of a text outside the grammar of TOML; at which span is free
pub record IsOutsideGrammar (error : GateError) : Type 0 where
  pub span : Span
  pub is : error ≡ Config (fault_at Grammar [] span ∷ [])

-- two errors have the same cause
abbrev pub AreOneCause : GateError → GateError → Type 0
AreOneCause a b = (a ≡ b) ⊎ (IsOutsideGrammar a × IsOutsideGrammar b)
