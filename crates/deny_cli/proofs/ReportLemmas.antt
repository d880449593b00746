-- The report on a command's inputs: of a check by the disk as it was before they were read, and of generated crates by
-- the generated disk.
use Rattle.std.proofs.Common.{◌≡◌, ℕ, [], List, Option, None, Some, Result, Ok, Err, ap, codes, refl, subst, sym}
use Rattle.std.specs.Prelude.{IfOk}
use Rattle.std.specs.FinMap as finite
use Rattle.deny_spec.specs.Building.{Building}
use Rattle.deny_spec.specs.declared.package.Package.{Package}
use Rattle.deny_cfg.specs.PolicyView.{building_of}
use Rattle.deny_spec.specs.Graph.{Graph}
use Rattle.deny_spec.specs.View.{View}
use Rattle.deny_base_disk.specs.Disk.{Disk, Files, IsLater}
use Rattle.deny_base_disk.specs.MemoryDisk.{with_file}
use Rattle.deny_base_disk.specs.SureDisk.{Sure, sure_seen}
use Rattle.deny_build_scan.proofs.Among.{AreSameEntries, seen_weaker}
use Rattle.deny_build_scan.specs.Seen.{ArePackagesSeenBy}
use Rattle.deny_build_scan.specs.Why.{AreFoldersOf, IsBecause}
use Rattle.deny_rules.specs.Packages.{AreSeenBy, HaveCauses}
use Rattle.deny_spans.specs.Seen.{IsSeen}
use Rattle.deny_base_unread.proofs.CauseLemmas.{caused_wider}
use Rattle.deny_base_disk.proofs.PieceLemmas.{later_same}
use Rattle.deny_base.specs.declared.unread.Unread.{Unread}
use Rattle.deny_gate.proofs.IdsApart.{ids_apart}
use Rattle.deny_gate.proofs.JoinedUnread.{because_wider}
use Rattle.deny_gate.specs.Gating.{IsCausedReport, IsReportBy, IsReportOf, InputTexts, first_files}
use Rattle.deny_gate.specs.Unread.{of_manifests, of_packages}
use Rattle.deny_gate.specs.declared.report.Report.{Report}
use Rattle.deny_cli.specs.Causes.{AreInputsOf, IsCausedForCommand, IsReportOfCommand, made_files, made_inputs}
use Rattle.deny_cli.specs.Arguments.{CheckArguments, Command, check, generate}
use Rattle.deny_cli.proofs.UnreadLemmas.{are_folders, folder_in, none_unread}

-- ---- the report of a check

-- reading inputs leaves the files as they were
pub report_there : {E : Type 0} (result : Result Report E) (old between : Disk) (command : Command)
    (asked : CheckArguments)
    (texts : InputTexts) → command ≡ check asked → IsLater old between → AreInputsOf old (check asked) texts
    → IfOk result (IsReportOf between.files texts) → IfOk result (IsReportOfCommand old command)
report_there (Err error) old between command asked texts is later read of = tt
report_there (Ok report) old between command asked texts is later read of =
    subst (λ (c : Command). IsReportOfCommand old c report) (sym is) (record {
      texts = texts;
      read = read;
      is_theirs = subst (λ (told : Option Files). IsReportOf told texts report) later.files of;
    })

-- ---- what was not read after the inputs has causes in the whole time

same_entries : (g : Graph) (us : List Unread) → AreSameEntries g us us
same_entries g us c member = record {
  script = λ path. refl;
  list = λ path. refl;
  header = λ path. refl;
  sum = λ path. refl;
}

causes_wider : (old between new : Disk) (building : Option Building) (home : Option (List ℕ)) (g : Graph)
    (us : List Unread) (packages : List Package) → IsLater old between
    → HaveCauses between new building home g us packages → HaveCauses old new building home g us packages
causes_wider old between new None home g us packages later causes = tt
causes_wider old between new (Some b) home g us packages later causes = record {
  reached = causes.reached;
  reports = causes.reports;
  because = λ folder are.
      subst (λ (told : Option Files). ArePackagesSeenBy (IsBecause folder old new) told b causes.reached home g us
      packages) later.files
      (seen_weaker (IsBecause folder between new) (IsBecause folder old new) between.files b causes.reached home g us us
      packages (because_wider folder old between new later) (same_entries g us) (causes.because folder are));
}

reported_before : (old between : Disk) (texts : InputTexts) (view : View) (packages : List Package) (report : Report)
    → IsLater old between → IsReportBy between.files texts view packages report
    → IsReportBy old.files texts view packages report
reported_before old between texts view packages report later by = record {
  said = by.said;
  is_said = by.is_said;
  graph = by.graph;
  is_graph = by.is_graph;
  table = by.table;
  ascending = by.ascending;
  seen = subst (λ (told : Option Files). IsSeen told by.graph texts.registries
      (first_files texts.policy by.said by.graph) report.files (of_manifests report.unread) report.malformed view)
      later.files by.seen;
  packages_seen = subst (λ (told : Option Files). AreSeenBy told (building_of by.said.bans) texts.home by.graph
      (of_packages report.unread) packages) later.files by.packages_seen;
  is_report = by.is_report;
}

caused_before : (old between new : Disk) (texts : InputTexts) (report : Report) → IsLater old between
    → IsCausedReport between new texts report → IsCausedReport old new texts report
unfolding reported_before
caused_before old between new texts report later is = record {
  view = is.view;
  packages = is.packages;
  by = reported_before old between texts is.view is.packages report later is.by;
  caused = λ folder are.
      caused_wider folder old between new new report.unread later (later_same new) (is.caused folder are);
  causes = causes_wider old between new (building_of is.by.said.bans) texts.home is.by.graph (of_packages report.unread)
      is.packages later is.causes;
}

pub caused_there : {E : Type 0} (result : Result Report E) (old between new : Disk) (command : Command)
    (asked : CheckArguments)
    (texts : InputTexts) → command ≡ check asked → IsLater old between → AreInputsOf old (check asked) texts
    → IfOk result (IsCausedReport between new texts) → IfOk result (IsCausedForCommand old new command)
caused_there (Err error) old between new command asked texts is later read caused = tt
caused_there (Ok report) old between new command asked texts is later read caused =
    subst (λ (c : Command). IsCausedForCommand old new c report) (sym is) (record {
      texts = texts;
      read = read;
      is_theirs = caused_before old between new texts report later caused;
    })

-- ---- the report of generated crates

-- the generated disk has the generated files
pub has_made_files : (disk : Sure) → disk ≡ record {
  files = with_file finite.empty (codes "/w/Cargo.toml") (codes "[package]\nname = \"app\"\n");
  given = 0;
  listed = 0;
} → disk.files ≡ made_files
unfolding made_files
has_made_files disk is = ap (λ (d : Sure). d.files) is

-- nothing is left unread on the generated disk, since the crates of a graph have folders
none_left : (old new : Sure) (texts : InputTexts) (report : Report) → old.files ≡ made_files
    → IsCausedReport (sure_seen old) (sure_seen new) texts report → report.unread ≡ []
none_left old new texts report same is =
    let g = is.by.graph in
    let folder = folder_in g in
    let folders = are_folders g (ids_apart texts.metadata g is.by.is_graph) in
    none_unread folder old new report.unread same (is.caused folder
    (subst (λ (judged : Graph). AreFoldersOf judged folder) (sym is.by.is_report.graph) folders))

pub none_of : {E : Type 0} (result : Result Report E) (old new : Sure) (texts : InputTexts) → old.files ≡ made_files
    → IfOk result (IsCausedReport (sure_seen old) (sure_seen new) texts)
    → IfOk result (λ report. report.unread ≡ [])
none_of (Err error) old new texts same caused = tt
none_of (Ok report) old new texts same caused = none_left old new texts report same caused

pub made_is : {E : Type 0} (result : Result Report E) (crates : ℕ) (files : Files) (texts : InputTexts)
    → files ≡ made_files
    → texts ≡ made_inputs crates → IfOk result (IsReportOf (Some files) texts)
    → IfOk result (IsReportOf (Some made_files) (made_inputs crates))
made_is result crates files texts same made of =
    subst (λ (t : InputTexts). IfOk result (IsReportOf (Some made_files) t)) made
    (subst (λ (f : Files). IfOk result (IsReportOf (Some f) texts)) same of)

pub made_there : {E : Type 0} (result : Result Report E) (crates : ℕ) (old : Disk) (command : Command)
    → command ≡ generate crates → IfOk result (IsReportOf (Some made_files) (made_inputs crates))
    → IfOk result (IsReportOfCommand old command)
made_there (Err error) crates old command is of = tt
made_there (Ok report) crates old command is of = subst (λ (c : Command). IsReportOfCommand old c report) (sym is)
    (record { texts = made_inputs crates; read = refl; is_theirs = of })
