use Rattle.std.proofs.Common.{◌≡◌, ◌∷◌, [], filter, map, ◌∙◌}
use Rattle.std.specs.Prelude.{codes, not}
use Rattle.std.specs.List.{list_any}
use Rattle.std.proofs.lemmas.Result.{IfOk-weaker}
use Rattle.deny_cfg.specs.PolicyView.{feature_view, policy_view}
use Rattle.deny_spec_report.specs.Features.{entry_and_crate, mismatch_labels}
use Rattle.deny_spec.specs.Text.{same_text}
use Rattle.deny_spec.specs.DiagParts.{primary}
use Rattle.deny_diags.proofs.FeatureLemmas.{labels_reported}
use Rattle.deny_diags.proofs.features.mismatch_labels.Goals as goal

pub returns : goal.returns
returns c =
    let p = policy_view c.args.writer.now.ctx.cfg.now in
    let g = c.args.writer.now.ctx.krates.now in
    let file = c.args.writer.now.ctx.cfg.now.file_id in
    let key = c.args.key.now in
    let e = feature_view c.args.entry.now in
    IfOk-weaker c.missing_labels.result
    (λ labels. labels ≡ primary file e.exact.span (codes "exact enabled here")
    ∷ map (λ w. primary file w.span (codes "allowed feature not present"))
    (filter (λ w. not (list_any (same_text w.value) c.enabled_at.result.now)) e.allow.value))
    (λ labels. labels ≡ entry_and_crate p g key (mismatch_labels file) [])
    (λ labels is. is ∙ labels_reported p g file key c.enabled_at.result.now c.requires c.in-Some.ensures
    c.enabled_at.ensures.enabled) c.missing_labels.ensures
