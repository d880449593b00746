use Rattle.std.proofs.Common.{◌≡◌, ◌∙◌, sym}
use Rattle.std.proofs.lemmas.Result.{IfOk-weaker}
use Rattle.deny_cfg.specs.PolicyView.{policy_view}
use Rattle.deny_spec_report.specs.Wildcards.{wildcard_labels, wildcard_labels_in}
use Rattle.deny_krates.specs.Crates.{crate_view}
use Rattle.deny_spans.specs.SpansView.{manifest_view, spans_view}
use Rattle.deny_diags_manifests.proofs.ManifestLemmas.{manifests_wildcards, no_crates_wildcards, no_manifests_wildcards}
use Rattle.deny_diags_manifests.proofs.wildcards.wildcard_labels.Goals as goal

pub returns-in_default : goal.returns-in_default
returns-in_default c =
    let ctx = c.args.ctx.now in
    c.new.ensures
    ∙ sym (no_crates_wildcards (policy_view ctx.cfg.now) ctx.krates.now (spans_view ctx.spans.now)
    c.args.key.now (sym c.in_default.ensures))

pub returns-in_default-manifest_at : goal.returns-in_default-manifest_at
returns-in_default-manifest_at c =
    let ctx = c.args.ctx.now in
    let key = c.args.key.now in
    c.new-in_default-manifest_at.ensures
    ∙ sym (no_manifests_wildcards (policy_view ctx.cfg.now) ctx.krates.now (spans_view ctx.spans.now) key
    (crate_view key.place c.in-Some.krate.now) (sym c.in-Some.ensures) (sym c.in_default-manifest_at.ensures.is))

pub returns : goal.returns
returns c =
    let ctx = c.args.ctx.now in
    let key = c.args.key.now in
    let p = policy_view ctx.cfg.now in
    let g = ctx.krates.now in
    let view = spans_view ctx.spans.now in
    let krate = crate_view key.place c.in-Some.krate.now in
    let manifest = manifest_view c.in-Some-manifest_at.manifest.now in
    IfOk-weaker c.labels_of_wildcards.result (λ labels. labels ≡ wildcard_labels_in p g view krate manifest)
    (λ labels. labels ≡ wildcard_labels p g view key)
    (λ labels is. is ∙ sym (manifests_wildcards p g view key krate manifest (sym c.in-Some.ensures)
    (sym c.in-Some-manifest_at.ensures.is))) c.labels_of_wildcards.ensures
