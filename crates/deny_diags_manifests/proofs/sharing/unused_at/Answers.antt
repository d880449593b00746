use Rattle.std.proofs.Common.{None, Option, Some, subst, sym, ◌∙◌}
use Rattle.std.specs.Prelude.{IsTrue, is_some}
use Rattle.deny_spec.specs.View.{WorkspaceEntry}
use Rattle.deny_spec.specs.Wrappers.{same_span}
use Rattle.deny_diags_parts.proofs.BySpanLemmas.{seen}
use Rattle.deny_spans_workspace.specs.Workspace.{dep_view}
use Rattle.deny_diags_manifests.proofs.sharing.unused_at.Goals as goal

pub returns : goal.returns
returns c =
    seen (λ e. same_span e.key c.args.span)
    (dep_view None) c.args._ctx.now.spans.now.unused_workspace_deps (Some c.in-Some.entry)
    (c.in-Some.ensures ∙ c.requires.unused.at c.args.span)

pub unreachable-requires : goal.unreachable-requires
unreachable-requires c =
    cc (subst (λ (o : Option WorkspaceEntry). IsTrue (is_some o))
    (sym (seen (λ e. same_span e.key c.args.span)
    (dep_view None) c.args._ctx.now.spans.now.unused_workspace_deps None
    (c.in-None.ensures ∙ c.requires.unused.at c.args.span))) c.requires.there)
