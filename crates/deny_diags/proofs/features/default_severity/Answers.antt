use Rattle.std.proofs.Common.{None, Some, refl, ◌∙◌}
use Rattle.deny_cfg.specs.PolicyView.{policy_view}
use Rattle.deny_diags.proofs.FeatureLemmas.{severity_reported}
use Rattle.deny_diags.proofs.features.default_severity.Goals as goal

pub returns-in-Some-default_level_at : goal.returns-in-Some-default_level_at
returns-in-Some-default_level_at c =
    let writer = c.args.writer.now in
    c.severity.ensures ∙ severity_reported (policy_view writer.ctx.cfg.now) writer.ctx.krates.now c.args.key.now
    (Some c.in-Some-default_level_at.at.now) c.in-Some.ensures refl c.in-Some-default_level_at.ensures

pub returns-in-None : goal.returns-in-None
returns-in-None c =
    let writer = c.args.writer.now in
    severity_reported (policy_view writer.ctx.cfg.now) writer.ctx.krates.now c.args.key.now None c.in-Some.ensures refl
    c.in-None.ensures
