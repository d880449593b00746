use Rattle.std.proofs.Common.{◌≡◌, ◌∙◌, sym}
use Rattle.std.proofs.lemmas.Result.{IfOk-weaker}
use Rattle.deny_spec_report.specs.Wildcards.{unresolved_labels, unresolved_labels_in}
use Rattle.deny_krates.specs.Crates.{crate_view}
use Rattle.deny_spans.specs.SpansView.{manifest_view, spans_view}
use Rattle.deny_diags_manifests.proofs.ManifestLemmas.{manifests_unresolved, no_crates_unresolved}
use Rattle.deny_diags_manifests.proofs.ManifestLemmas.{no_manifests_unresolved}
use Rattle.deny_diags_manifests.proofs.wildcards.unresolved_labels.Goals as goal

pub returns-in_default : goal.returns-in_default
returns-in_default c =
    let ctx = c.args.ctx.now in
    c.new.ensures
    ∙ sym (no_crates_unresolved ctx.krates.now (spans_view ctx.spans.now) c.args.key.now
    (sym c.in_default.ensures))

pub returns-in_default-manifest_at : goal.returns-in_default-manifest_at
returns-in_default-manifest_at c =
    let ctx = c.args.ctx.now in
    let key = c.args.key.now in
    c.new-in_default-manifest_at.ensures
    ∙ sym (no_manifests_unresolved ctx.krates.now (spans_view ctx.spans.now) key
    (crate_view key.place c.in-Some._krate.now) (sym c.in-Some.ensures) (sym c.in_default-manifest_at.ensures.is))

pub returns : goal.returns
returns c =
    let ctx = c.args.ctx.now in
    let key = c.args.key.now in
    let g = ctx.krates.now in
    let view = spans_view ctx.spans.now in
    let manifest = manifest_view c.in-Some-manifest_at.manifest.now in
    IfOk-weaker c.unresolved_manifest_labels.result (λ labels. labels ≡ unresolved_labels_in key.entry manifest)
    (λ labels. labels ≡ unresolved_labels g view key)
    (λ labels is. is ∙ sym (manifests_unresolved g view key (crate_view key.place c.in-Some._krate.now) manifest
    (sym c.in-Some.ensures) (sym c.in-Some-manifest_at.ensures.is))) c.unresolved_manifest_labels.ensures
