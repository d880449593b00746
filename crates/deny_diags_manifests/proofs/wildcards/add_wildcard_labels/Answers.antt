use Rattle.std.proofs.Common.{◌++◌, ◌∷◌, [], List, ap, append_assoc, ◌∙◌}
use Rattle.std.specs.Prelude.{codes}
use Rattle.deny_base.specs.declared.label.Label.{Label}
use Rattle.deny_spec_report.specs.Wildcards.{labels_of_wildcard, shared_labels, wildcard_label}
use Rattle.deny_spans_manifest.specs.Manifest.{dep_view}
use Rattle.deny_spec.specs.DiagParts.{primary}
use Rattle.deny_spans.specs.SpansView.{spans_view}
use Rattle.deny_diags_manifests.proofs.wildcards.add_wildcard_labels.Goals as goal

pub returns : goal.returns
unfolding labels_of_wildcard wildcard_label
returns c =
    let file = c.args.file in
    let dep = dep_view c.args.dep.now in
    let old = c.args.labels.now in
    let shared = shared_labels (spans_view c.args.spans.now) dep in
    let label = c.in_ok-primary.ensures
    ∙ ap (λ span. primary file span (codes "wildcard dependency")) c.version_span.ensures in
    c.in_ok-add_shared_label.ensures
    ∙ (ap (λ (labels : List Label). labels ++ shared)
    (c.in_ok-push.ensures.ok ∙ ap (λ (l : Label). old ++ l ∷ []) label)
    ∙ append_assoc old (wildcard_label file dep ∷ []) shared)
