use Rattle.std.proofs.Common.{◌≡◌, None, map, subst}
use Rattle.std.specs.Prelude.{IfOk}
use Rattle.deny_spans_workspace.specs.Workspace.{AreSpans, dep_view, unused_in}
use Rattle.deny_spans_workspace.proofs.WorkspaceLemmas.{all_resolved}
use Rattle.deny_spans_workspace.proofs.workspace.workspace_deps.Goals as goal

pub returns-clause-spans : goal.returns-clause-spans
returns-clause-spans c =
    let g = c.args.krates.now in
    let same = all_resolved g c.args.registries.now c.args.root.now c.in_ok-entries.entries c.in_ok-entries.ensures in
    subst (λ entries. IfOk c.resolve_all.result (λ deps. AreSpans g entries deps.spans.items)) same
    c.resolve_all.ensures.spans

pub returns-clause-unused : goal.returns-clause-unused
returns-clause-unused c =
    let g = c.args.krates.now in
    let same = all_resolved g c.args.registries.now c.args.root.now c.in_ok-entries.entries c.in_ok-entries.ensures in
    subst (λ entries. IfOk c.resolve_all.result (λ deps. map (dep_view None) deps.unused ≡ unused_in entries)) same
    c.resolve_all.ensures.unused
