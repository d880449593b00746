use Rattle.std.proofs.Common.{◌∙◌}
use Rattle.deny_cfg.specs.PolicyView.{policy_view}
use Rattle.deny_spec_report.specs.Features.{mismatched_diag, with_features}
use Rattle.deny_diags.specs.private.Features.{with_notes}
use Rattle.deny_diags.proofs.FeatureLemmas.{noted}
use Rattle.deny_diags.proofs.features.with_unlisted.Goals as goal

pub returns : goal.returns
unfolding mismatched_diag
returns c =
    let writer = c.args.writer.now in
    let notes = noted (policy_view writer.ctx.cfg.now) writer.ctx.krates.now c.args.key.now c.args.features.now
    c.in_ok-notes.notes c.requires.features c.in_ok-notes.ensures in
    let diag = c.with_notes.ensures ∙ (λ i. with_notes (c.in_ok-diag.ensures i) (notes i)) in
    c.with_features.ensures ∙ (λ i. with_features (diag i) (c.in_ok-nodes.ensures i))
