use Rattle.std.proofs.Common.{List, subst, sym}
use Rattle.std.specs.Prelude.{option_map}
use Rattle.deny_krates.specs.Crates.{crate_view}
use Rattle.deny_base_lists.proofs.Results.{on_err_always}
use Rattle.deny_spans.proofs.BegunLemmas.{have_own, have_reading}
use Rattle.deny_spans.proofs.GatherLemmas.{scan_is}
use Rattle.deny_spans.proofs.gathered.scan_manifest.Goals as goal
use Rattle.deny_base_unread.specs.Added.{added}
use Rattle.deny_base_unread.specs.Causes.{AreCaused}
use Rattle.deny_base.specs.declared.unread.Unread.{Unread}

pub returns-clause-scan : goal.returns-clause-scan
returns-clause-scan g c =
    let local = c.in_ok-read.ensures.read in
    let put = c.in_ok-put.ensures in
    scan_is (g.D.PackageFiles.seen c.args.disk.now).files c.args.krates.now (crate_view c.args.place c.args.krate.now)
    c.args.files.now c.keep_read.new.files c.args.gathered.now c.put.new.gathered c.read_local.new.unread
    (λ bytes. bytes.items) c.in_ok-read.read c.in_ok-kept.kept c.is_some.result
    (record { local = local.local; bytes = local.bytes; short = local.short; unread = local.unread })
    c.in_ok-kept.ensures.kept c.is_some.ensures put.manifests put.numbers put.unread put.malformed

pub returns-clause-caused : goal.returns-clause-caused
returns-clause-caused g c = λ folder.
    subst (λ (us : List Unread). AreCaused folder (g.D.PackageFiles.seen c.args.disk.now)
    (g.D.PackageFiles.seen c.read_local.new.disk) (added c.args.gathered.now.missed.unread us))
    (sym c.in_ok-put.ensures.unread) (c.in_ok-read.ensures.caused folder)

pub returns-in_err-kept-clause-begun : goal.returns-in_err-kept-clause-begun
returns-in_err-kept-clause-begun g c =
    let local = c.in_ok-read.ensures.read in
    on_err_always c.from_residual-in_err-kept.result
    (have_own (g.D.PackageFiles.seen c.args.disk.now).files (crate_view c.args.place c.args.krate.now)
    (option_map (λ bytes. bytes.items) c.in_ok-read.read) c.args.gathered.now.missed.unread c.read_local.new.unread
    c.args.files.now c.keep_read.new.files
    (record { local = local.local; bytes = local.bytes; short = local.short; unread = local.unread })
    c.in_err-kept.ensures.begun)

pub returns-in_err-put-clause-begun : goal.returns-in_err-put-clause-begun
returns-in_err-put-clause-begun g c =
    let local = c.in_ok-read.ensures.read in
    let kept = c.in_ok-kept.ensures.kept in
    on_err_always c.from_residual-in_err-put.result
    (have_own (g.D.PackageFiles.seen c.args.disk.now).files (crate_view c.args.place c.args.krate.now)
    (option_map (λ bytes. bytes.items) c.in_ok-read.read) c.args.gathered.now.missed.unread c.read_local.new.unread
    c.args.files.now c.keep_read.new.files
    (record { local = local.local; bytes = local.bytes; short = local.short; unread = local.unread })
    (have_reading c.args.krate.now.manifest_path kept.read _ c.args.files.now c.keep_read.new.files kept.texts
    kept.files))
