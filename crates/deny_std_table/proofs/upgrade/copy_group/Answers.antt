use Rattle.std.proofs.Common.{sym}
use Rattle.deny_std_table.specs.Width.{width_of}
use Rattle.deny_std_table.specs.Region.{bounds}
use Rattle.deny_std_table.proofs.CopyEntryLemmas.{group-written}
use Rattle.deny_std_table.proofs.upgrade.copy_group.Goals as goal

pub returns-clause-written : goal.returns-clause-written
returns-clause-written c = λ r is. group-written
    (bounds (width_of c.args.region.now.width) c.args.region.now.bytes.now c.args.region.now.stop) c.args.at
    c.in_ok-head.head _ _ _ _ r (sym c.in_ok-head.ensures) c.put.ensures c.put-2.ensures
    (record { row = c.copy_replacements.ensures.written }) is
