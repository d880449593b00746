use Rattle.std.proofs.Common.{◌≡◌, ◌∙◌, [], None}
use Rattle.std.specs.Option.{option_map_or}
use Rattle.std.proofs.lemmas.Result.{IfOk-weaker}
use Rattle.deny_spec_report.specs.Sharing.{unused_at, unused_labels, unused_labels_in}
use Rattle.deny_spans.specs.SpansView.{spans_view}
use Rattle.deny_spans_workspace.specs.Workspace.{dep_view}
use Rattle.deny_diags_manifests.proofs.ManifestLemmas.{in_file, in_no_file}
use Rattle.deny_diags_manifests.proofs.sharing.unused_labels_at.Goals as goal

pub returns-in_default : goal.returns-in_default
unfolding unused_labels_in
returns-in_default c =
    let view = spans_view c.args.ctx.now.spans.now in
    c.new.ensures
    ∙ in_no_file unused_labels (unused_at view c.args.span) (dep_view None c.unused_at-entry.result.now)
    c.unused_at-entry.ensures view.workspace c.in_default.is

pub returns : goal.returns
unfolding unused_labels_in
returns c =
    let view = spans_view c.args.ctx.now.spans.now in
    let file = c.in-Some.file in
    let entry = dep_view None c.unused_at-entry.result.now in
    IfOk-weaker c.unused_labels.result (λ labels. labels ≡ unused_labels file entry)
    (λ labels. labels ≡ option_map_or (unused_labels_in view) (unused_at view c.args.span) [])
    (λ labels is. is
    ∙ in_file unused_labels (unused_at view c.args.span) entry c.unused_at-entry.ensures file view.workspace
    c.in-Some.is) c.unused_labels.ensures
