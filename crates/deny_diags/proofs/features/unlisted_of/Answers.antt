use Rattle.std.proofs.Common.{◌≡◌, [], sym, ◌∙◌}
use Rattle.std.proofs.lemmas.Result.{IfOk-weaker}
use Rattle.deny_cfg.specs.PolicyView.{feature_view, policy_view}
use Rattle.deny_spec_report.specs.Features.{entry_and_crate, unlisted}
use Rattle.deny_rules_features.specs.Listed.{unlisted_at}
use Rattle.deny_diags.proofs.FeatureLemmas.{of_entry, unlisted_there}
use Rattle.deny_diags.proofs.features.unlisted_of.Goals as goal

pub returns : goal.returns
returns c =
    let p = policy_view c.args.writer.now.ctx.cfg.now in
    let g = c.args.writer.now.ctx.krates.now in
    let key = c.args.key.now in
    let e = feature_view c.args.entry.now in
    IfOk-weaker c.unlisted.result (λ features. features ≡ unlisted_at p g e key.place)
    (λ features. features ≡ entry_and_crate p g key (unlisted p g) [])
    (λ features is. is ∙ (unlisted_there p g e key.place c.are_placed.ensures
    ∙ sym (of_entry p g key (unlisted p g) [] e (sym c.requires)))) c.unlisted.ensures
