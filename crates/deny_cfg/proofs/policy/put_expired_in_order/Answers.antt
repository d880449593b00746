use Rattle.deny_base.proofs.EntryEqual.{entry_cmp-exact}
use Rattle.deny_cfg.proofs.CurrentLaws.{put_in_order}
use Rattle.deny_cfg.proofs.policy.put_expired_in_order.Goals as goal

pub put_records_in_order-requires : goal.put_records_in_order-requires
put_records_in_order-requires c = entry_cmp-exact

pub returns : goal.returns
returns c =
    put_in_order c.put_records_in_order.result c.args.expired.now _ c.put_records_in_order.ensures.keys
    c.put_records_in_order.ensures.records
