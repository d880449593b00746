use Rattle.std.proofs.Common.{◌≡◌, ◌∙◌, [], ℕ}
use Rattle.std.specs.Option.{option_map_or}
use Rattle.std.proofs.lemmas.Result.{IfOk-weaker}
use Rattle.deny_spec_report.specs.Sharing.{entry_labels, entry_labels_in}
use Rattle.deny_spec.specs.View.{shared_at}
use Rattle.deny_spans.specs.SpansView.{spans_view}
use Rattle.deny_spans_workspace.specs.Workspace.{span_view}
use Rattle.deny_diags_manifests.proofs.ManifestLemmas.{in_file, in_no_file}
use Rattle.deny_diags_manifests.proofs.sharing.entry_labels_at.Goals as goal

pub returns-in_default-workspace_id : goal.returns-in_default-workspace_id
unfolding entry_labels_in
returns-in_default-workspace_id c =
    let view = spans_view c.args.spans.now in
    let place = c.args.place in
    c.new-in_default-workspace_id.ensures
    ∙ in_no_file entry_labels (shared_at view place) (span_view place c.in-Some.entry.now) c.in-Some.ensures.is
    view.workspace c.in_default-workspace_id.is

pub returns : goal.returns
unfolding entry_labels_in
returns c =
    let view = spans_view c.args.spans.now in
    let file = c.in-Some-workspace_id.file in
    let entry = c.in-Some.entry.now in
    let place = c.args.place in
    IfOk-weaker c.entry_labels.result (λ labels. (n : ℕ) → labels ≡ entry_labels file (span_view n entry))
    (λ labels. labels ≡ option_map_or (entry_labels_in view) (shared_at view place) [])
    (λ labels is. is place
    ∙ in_file entry_labels (shared_at view place) (span_view place entry) c.in-Some.ensures.is file view.workspace
    c.in-Some-workspace_id.is) c.entry_labels.ensures
