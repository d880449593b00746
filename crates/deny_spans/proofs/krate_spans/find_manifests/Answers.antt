use Rattle.std.proofs.Common.{List, Option, subst, sym, ℕ}
use Rattle.deny_base_disk.proofs.PieceLemmas.{gave_then}
use Rattle.deny_base_lists.proofs.Results.{on_err_always}
use Rattle.deny_spans.proofs.BegunLemmas.{begun_last}
use Rattle.deny_spans.proofs.CountLemmas.{caused_more}
use Rattle.deny_spans.proofs.FoundLemmas.{found_by, home_short, unread_behind}
use Rattle.deny_spans.proofs.krate_spans.find_manifests.Goals as goal
use Rattle.deny_spans.specs.private.Workspace.{IsShortAt}

pub workspace_of-requires-clause-short : goal.workspace_of-requires-clause-short
workspace_of-requires-clause-short g c =
    subst (λ (ns : List (Option ℕ)). IsShortAt c.args.krates.now ns c.gather.new.files) (sym c.as_slice.ensures)
    (home_short (g.D.PackageFiles.seen c.args.disk.now).files c.args.krates.now c.args.files.now c.gather.new.files
    c.in_ok-manifests.field-0 c.in_ok-manifests.ensures.gathered)

pub returns-clause-found : goal.returns-clause-found
returns-clause-found g c =
    found_by (g.D.PackageFiles.seen c.args.disk.now).files (g.D.PackageFiles.seen c.gather.new.disk).files
    c.args.krates.now c.args.registries.now c.args.files.now c.gather.new.files c.workspace_of.new.files
    c.in_ok-manifests.field-0 c.as_slice.result.now c.workspace_of.new.missed c.in_ok-workspace.workspace
    c.gather.ensures.later.files c.as_slice.ensures c.in_ok-manifests.ensures.gathered c.in_ok-workspace.ensures.is

pub returns-clause-caused : goal.returns-clause-caused
returns-clause-caused g c = λ folder.
    let seen = g.D.PackageFiles.seen in
    let behind = unread_behind (seen c.gather.new.disk).files c.args.krates.now c.args.registries.now
    c.as_slice.result.now c.gather.new.files c.workspace_of.new.files c.in_ok-manifests.field-0.missed
    c.workspace_of.new.missed c.in_ok-workspace.workspace c.in_ok-workspace.ensures.is in
    caused_more folder (seen c.args.disk.now) (seen c.gather.new.disk) (seen c.workspace_of.new.disk)
    c.in_ok-manifests.field-0.missed.unread c.workspace_of.new.missed.unread behind.0 behind.1 c.gather.ensures.later
    c.workspace_of.ensures.later (c.in_ok-manifests.ensures.caused folder) (c.in_ok-workspace.ensures.caused folder)

pub returns-clause-once : goal.returns-clause-once
returns-clause-once g c =
    let seen = g.D.PackageFiles.seen in
    gave_then (seen c.args.disk.now) (seen c.gather.new.disk) (seen c.workspace_of.new.disk) _ _
    c.gather.ensures.later.files c.in_ok-manifests.ensures.once c.in_ok-workspace.ensures.once

pub returns-in_err-workspace-clause-begun : goal.returns-in_err-workspace-clause-begun
returns-in_err-workspace-clause-begun g c =
    let seen = g.D.PackageFiles.seen in
    on_err_always c.from_residual-in_err-workspace.result
    (begun_last (seen c.args.disk.now) (seen c.gather.new.disk) (seen c.workspace_of.new.disk) c.args.krates.now
    c.gather.ensures.later c.workspace_of.ensures.later c.args.files.now c.gather.new.files c.workspace_of.new.files
    c.in_ok-manifests.field-0 c.in_ok-manifests.ensures.caused c.in_ok-manifests.ensures.gathered
    c.in_err-workspace.ensures.begun)
