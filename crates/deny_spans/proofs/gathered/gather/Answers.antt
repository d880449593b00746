use Rattle.std.proofs.Common.{ap, arith, length, length-append, refl}
use Rattle.deny_krates.specs.Crates.{crate_view}
use Rattle.deny_krates.proofs.PlaceLemmas.{krate_at}
use Rattle.deny_base_lists.proofs.Results.{on_err_always}
use Rattle.deny_spans.proofs.BegunLemmas.{begun_at}
use Rattle.deny_spans.proofs.CountLemmas.{caused_more}
use Rattle.deny_spans.proofs.GatherLemmas.{gathered_all, gathered_next, kept_few}
use Rattle.deny_spans.proofs.OnceLemmas.{given_all, given_next}
use Rattle.deny_spans.proofs.gathered.gather.Goals as goal
use Rattle.deny_spans.specs.ManifestScan.{kept_as}
use Rattle.deny_base_disk.proofs.PieceLemmas.{later_then}

pub scan_manifest-requires-clause-at_place : goal.scan_manifest-requires-clause-at_place
scan_manifest-requires-clause-at_place g c =
    krate_at c.args.krates.now c.krates-krate-items.result.now c.loop-place.place c.krate-item.result
    c.krates-krate-items.ensures.crates c.loop-place-test.true c.krate-item.is

pub loop-place-preserved : goal.loop-place-preserved
loop-place-preserved g c =
    let seen = g.D.PackageFiles.seen in
    let before = c.loop-place.invariant in
    let step = c.in_ok-scan_manifest.ensures in
    let place = c.loop-place.place in
    let krate = crate_view place c.krate-item.result in
    let at = krate_at c.args.krates.now c.krates-krate-items.result.now place c.krate-item.result
    c.krates-krate-items.ensures.crates c.loop-place-test.true c.krate-item.is in
    record {
      gathered = gathered_next (seen c.args.disk.now).files (seen c.loop-place.disk).files c.args.krates.now place krate
          c.args.files.now c.loop-place.files c.scan_manifest.new.files c.loop-place.gathered
          c.scan_manifest.new.gathered
          before.later.files at refl before.gathered step.scan;
      caused = λ folder. caused_more folder (seen c.args.disk.now) (seen c.loop-place.disk)
          (seen c.scan_manifest.new.disk)
          c.loop-place.gathered.missed.unread c.scan_manifest.new.gathered.missed.unread _ step.scan.unread before.later
          c.scan_manifest.ensures.later (before.caused folder) (step.caused folder);
      once = given_next c.args.krates.now place krate (seen c.args.disk.now) (seen c.loop-place.disk)
          (seen c.scan_manifest.new.disk) at before.later.files before.once step.once;
      later = later_then (seen c.args.disk.now) (seen c.loop-place.disk) (seen c.scan_manifest.new.disk) before.later
          c.scan_manifest.ensures.later;
      few = omega (
        arith,
        before.few,
        ap length step.scan.files,
        length-append c.loop-place.files (kept_as krate.manifest_path step.scan.read),
        kept_few krate.manifest_path step.scan.read,
      );
    }

pub returns-clause-gathered : goal.returns-clause-gathered
returns-clause-gathered g c =
    gathered_all (g.D.PackageFiles.seen c.args.disk.now).files c.args.krates.now c.loop-place.place
    c.krates-krate-items.result.now c.args.files.now c.loop-place.files c.loop-place.gathered
    c.krates-krate-items.ensures.crates c.loop-place-test.false c.loop-place.invariant.gathered

pub returns-clause-once : goal.returns-clause-once
returns-clause-once g c =
    let seen = g.D.PackageFiles.seen in
    given_all c.args.krates.now c.loop-place.place c.krates-krate-items.result.now (seen c.args.disk.now)
    (seen c.loop-place.disk) c.krates-krate-items.ensures.crates c.loop-place-test.false c.loop-place.invariant.once

pub returns-in_err-scan_manifest-clause-begun : goal.returns-in_err-scan_manifest-clause-begun
returns-in_err-scan_manifest-clause-begun g c =
    let seen = g.D.PackageFiles.seen in
    let before = c.loop-place.invariant in
    let place = c.loop-place.place in
    let at = krate_at c.args.krates.now c.krates-krate-items.result.now place c.krate-item.result
    c.krates-krate-items.ensures.crates c.loop-place-test.true c.krate-item.is in
    on_err_always c.from_residual.result
    (begun_at (seen c.args.disk.now) (seen c.loop-place.disk) (seen c.scan_manifest.new.disk) c.args.krates.now
    before.later c.scan_manifest.ensures.later c.args.files.now c.loop-place.files c.scan_manifest.new.files
    c.loop-place.gathered before.caused place (crate_view place c.krate-item.result) at before.gathered
    c.in_err-scan_manifest.ensures.begun)
