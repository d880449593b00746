use Rattle.std.proofs.Common.{◌++◌, ◌∷◌, [], List, ap, append-nil, sym, ◌∙◌}
use Rattle.std.specs.Prelude.{codes}
use Rattle.deny_base.specs.declared.label.Label.{Label}
use Rattle.deny_spec_report.specs.Wildcards.{workspace_label}
use Rattle.deny_spec.specs.DiagParts.{secondary}
use Rattle.deny_spec.specs.View.{shared_at}
use Rattle.deny_spans.specs.SpansView.{spans_view}
use Rattle.deny_spans_workspace.specs.Workspace.{span_view}
use Rattle.deny_diags_manifests.proofs.ManifestLemmas.{in_file, in_no_file}
use Rattle.deny_diags_manifests.proofs.wildcards.add_entry_label.Goals as goal

pub returns-in_default-workspace_id : goal.returns-in_default-workspace_id
returns-in_default-workspace_id c =
    let view = spans_view c.args.spans.now in
    let place = c.args.place in
    sym (append-nil c.args.labels.now)
    ∙ ap (λ (more : List Label). c.args.labels.now ++ more)
    (in_no_file workspace_label (shared_at view place) (span_view place c.in-Some.entry.now) c.in-Some.ensures.is
    view.workspace c.in_default-workspace_id.is)

pub returns : goal.returns
returns c =
    let view = spans_view c.args.spans.now in
    let place = c.args.place in
    let file = c.in-Some-workspace_id.file in
    c.in_ok-push.ensures.ok
    ∙ ap (λ (more : List Label). c.args.labels.now ++ more)
    (ap (λ (label : Label). label ∷ [])
    (c.in_ok-secondary.ensures
    ∙ ap (λ span. secondary file span (codes "workspace dependency")) (c.shared_span.ensures place))
    ∙ in_file workspace_label (shared_at view place) (span_view place c.in-Some.entry.now) c.in-Some.ensures.is file
    view.workspace c.in-Some-workspace_id.is)
