use Rattle.deny_toml.specs.Calls.{value_at}
use Rattle.deny_cfg.specs.PolicyText.{bans_name}
use Rattle.deny_cfg.proofs.RootLaws.{bans_given}
use Rattle.deny_cfg.proofs.policy.bans_in.Goals as goal

pub returns-clause-reads : goal.returns-clause-reads
returns-clause-reads c = bans_given (value_at bans_name c.args.root.now.entries) c.in_ok-bans.bans c.new.result
    c.unwrap_or.result c.in_ok-bans.ensures.ok c.new.ensures c.unwrap_or.ensures
