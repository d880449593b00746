use Rattle.deny_cli.proofs.status.status_of_run.Goals as goal

pub returns : goal.returns
returns g c = (
  c.run-ended.result.outcome,
  c.run-ended.ensures.status,
  c.run-ended.ensures.cause,
  c.run-ended.ensures.out,
  c.run-ended.ensures.err,
)
