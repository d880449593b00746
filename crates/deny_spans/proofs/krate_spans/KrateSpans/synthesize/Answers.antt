use Rattle.std.proofs.Common.{◌≡◌, ◌∙◌, ◌+◌, ◌++◌, ◌∷◌, [], ℕ, List, ap, inr, length, length-append, subst}
use Rattle.deny_base.specs.declared.files.File.{File}
use Rattle.deny_base_lists.proofs.Results.{on_err_always}
use Rattle.deny_spans.proofs.BegunLemmas.{begun_whole}
use Rattle.deny_spans.proofs.CountLemmas.{caused_listed}
use Rattle.deny_spans.proofs.SpanLemmas.{view_lies}
use Rattle.deny_spans.proofs.SeenLemmas.{lock_at, seen_is, spans_are, wanted_are}
use Rattle.deny_spans.proofs.krate_spans.KrateSpans.synthesize.Goals as goal
use Rattle.deny_spans.specs.Seen.{IsSeen, lock_file}
use Rattle.deny_spans.specs.Spans.{ViewLies}
use Rattle.deny_spans.specs.SpansView.{spans_view}

pub returns-clause-seen : goal.returns-clause-seen
returns-clause-seen g c =
    let told = (g.D.PackageFiles.seen c.args.disk.now).files in
    let s = c.in_ok-spans.spans in
    subst (λ (old : List File). IsSeen told c.args.krates.now c.args.registries.now old c.find_manifests.new.files
    s.unread
    s.malformed (spans_view s)) c.in_ok-lock.ensures.files
    (seen_is told c.args.krates.now c.args.registries.now c.krates-krates.result.now c.add_lock.new.files
    c.find_manifests.new.files c.in_ok-lock.lock c.in_ok-found.found s c.krates-krates.ensures.crates
    c.in_ok-found.ensures.found c.in_ok-spans.ensures)

pub returns-clause-spans : goal.returns-clause-spans
returns-clause-spans g c =
    spans_are (g.D.PackageFiles.seen c.args.disk.now).files c.args.krates.now c.args.registries.now
    c.krates-krates.result.now c.add_lock.new.files c.find_manifests.new.files c.in_ok-lock.lock c.in_ok-found.found
    c.in_ok-spans.spans c.krates-krates.ensures.crates c.in_ok-found.ensures.found c.in_ok-spans.ensures
    c.in_ok-lock.ensures.spans c.in_ok-lock.ensures.lines

pub returns-clause-locked : goal.returns-clause-locked
returns-clause-locked g c =
    lock_at c.args.files.now c.add_lock.new.files c.find_manifests.new.files _ _ c.in_ok-spans.spans.lock_id
    c.in_ok-lock.ensures.files c.in_ok-found.ensures.found.files (c.in_ok-spans.ensures.lock_id
    ∙ c.in_ok-lock.ensures.id)

pub returns-clause-lies : goal.returns-clause-lies
returns-clause-lies g c =
    let told = (g.D.PackageFiles.seen c.args.disk.now).files in
    let s = c.in_ok-spans.spans in
    let first : length c.add_lock.new.files ≡ length c.args.files.now + 1 =
    ap length c.in_ok-lock.ensures.files ∙ length-append c.args.files.now _ in
    subst (λ (n : ℕ). ViewLies n c.find_manifests.new.files (spans_view s)) first
    (view_lies told c.args.krates.now c.args.registries.now c.add_lock.new.files c.find_manifests.new.files s.unread
    s.malformed (spans_view s)
    (seen_is told c.args.krates.now c.args.registries.now c.krates-krates.result.now c.add_lock.new.files
    c.find_manifests.new.files c.in_ok-lock.lock c.in_ok-found.found s c.krates-krates.ensures.crates
    c.in_ok-found.ensures.found c.in_ok-spans.ensures))

pub returns-clause-caused : goal.returns-clause-caused
returns-clause-caused g c = λ folder.
    caused_listed folder (g.D.PackageFiles.seen c.args.disk.now) (g.D.PackageFiles.seen c.find_manifests.new.disk)
    c.in_ok-found.found.missed.unread c.in_ok-spans.spans.unread c.in_ok-spans.ensures.unread
    (c.in_ok-found.ensures.caused folder)

pub returns-clause-wanted : goal.returns-clause-wanted
returns-clause-wanted g c =
    let told = (g.D.PackageFiles.seen c.args.disk.now).files in
    let s = c.in_ok-spans.spans in
    wanted_are told c.args.krates.now c.args.registries.now c.add_lock.new.files c.find_manifests.new.files s.unread
    s.malformed (spans_view s)
    (seen_is told c.args.krates.now c.args.registries.now c.krates-krates.result.now c.add_lock.new.files
    c.find_manifests.new.files c.in_ok-lock.lock c.in_ok-found.found s c.krates-krates.ensures.crates
    c.in_ok-found.ensures.found c.in_ok-spans.ensures)

pub returns-in_err-spans-clause-begun : goal.returns-in_err-spans-clause-begun
returns-in_err-spans-clause-begun g c =
    let seen = g.D.PackageFiles.seen in
    on_err_always c.from_residual-in_err-spans.result
    (inr (begun_whole (seen c.args.disk.now) (seen c.find_manifests.new.disk) c.args.krates.now c.args.registries.now
    (c.args.files.now ++ lock_file c.args.lock_name.now c.args.krates.now ∷ []) c.add_lock.new.files
    c.find_manifests.new.files c.in_ok-found.found c.in_ok-lock.ensures.files c.in_ok-found.ensures.found
    c.in_ok-found.ensures.caused))
