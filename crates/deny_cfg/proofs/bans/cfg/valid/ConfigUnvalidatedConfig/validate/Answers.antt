use Rattle.deny_cfg.specs.Validating.{source_in}
use Rattle.deny_cfg.proofs.PolicyLaws.{on_error, reported_whole}
use Rattle.deny_cfg.proofs.bans.cfg.valid.ConfigUnvalidatedConfig.validate.Goals as goal

pub returns-clause-reported_in_part : goal.returns-clause-reported_in_part
returns-clause-reported_in_part c =
    let ctx = c.args.ctx in
    on_error c.valid_of.result _
    (reported_whole (source_in ctx.files.now ctx.cfg_id) c.source_in.result.now c.args.self ctx.cfg_id
    ctx.diagnostics.now c.report.new.reported c.source_in.ensures c.in_ok-report.ensures.ok)
