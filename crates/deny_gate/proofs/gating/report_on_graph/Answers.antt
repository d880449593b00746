use Rattle.std.proofs.Common.{◌++◌, ◌∷◌, [], refl, subst, sym}
use Rattle.deny_build_scan.specs.Why.{AreFoldersOf}
use Rattle.deny_spans.specs.Seen.{lock_file}
use Rattle.deny_spans.specs.Wanted.{AreWanted}
use Rattle.deny_base_unread.specs.Bound.{Folders}
use Rattle.deny_base_unread.specs.Causes.{AreCaused}
use Rattle.deny_gate.specs.Gating.{texts_in}
use Rattle.deny_gate.specs.private.Gating.{IsPolicyReport, extras_of, report_with}
use Rattle.deny_gate.specs.Unread.{of_manifests}
use Rattle.deny_gate.specs.declared.report.Report.{Report}
use Rattle.deny_gate.proofs.FindingLaws.{report_by_texts, seen_report}
use Rattle.deny_gate.proofs.gating.report_on_graph.Goals as goal

pub returns-clause-report : goal.returns-clause-report
returns-clause-report g c =
    let krates = c.args.krates in
    let texts = texts_in c.args.inputs.now in
    let policy = c.args.policy.now in
    let old = g.D.PackageFiles.seen c.args.disk.now in
    let new = g.D.PackageFiles.seen c.judged_with_inputs.new.disk in
    let first = c.args.files ++ lock_file krates.root krates ∷ [] in
    let files = c.judged_with_inputs.new.files in
    let judged = c.in_ok-judged.judged in
    let is = c.in_ok-judged.ensures.judged in
    let report = report_with files krates judged in
    subst (λ (r : Report). IsPolicyReport old new policy texts r) (sym c.report_with.ensures)
    (report_by_texts old new policy texts krates (extras_of texts) c.args.files report refl c.requires.first
    c.requires.graph c.in_ok-judged.ensures.table
    (seen_report old new policy krates (extras_of texts) first files judged.checked report
    c.in_ok-judged.ensures.results
    refl refl refl refl refl refl refl is.dead is.stats is.verdict))

pub returns-clause-wanted : goal.returns-clause-wanted
returns-clause-wanted g c =
    subst (λ (report : Report). AreWanted report.krates (of_manifests report.unread)) (sym c.report_with.ensures)
    c.in_ok-judged.ensures.wanted

pub returns-clause-caused : goal.returns-clause-caused
returns-clause-caused g c =
    let old = g.D.PackageFiles.seen c.args.disk.now in
    let new = g.D.PackageFiles.seen c.judged_with_inputs.new.disk in
    subst (λ (report : Report). (folder : Folders) → AreFoldersOf report.krates folder →
    AreCaused folder old new report.unread) (sym c.report_with.ensures) c.in_ok-judged.ensures.caused
