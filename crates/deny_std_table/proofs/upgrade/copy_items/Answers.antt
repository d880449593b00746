use Rattle.std.proofs.Common.{sym}
use Rattle.deny_std_table.specs.Width.{width_of}
use Rattle.deny_std_table.specs.Region.{bounds}
use Rattle.deny_std_table.proofs.CopyEntryLemmas.{items-written}
use Rattle.deny_std_table.proofs.upgrade.copy_items.Goals as goal

pub returns-clause-written : goal.returns-clause-written
returns-clause-written c = λ r is. items-written
    (bounds (width_of c.args.region.now.width) c.args.region.now.bytes.now c.args.region.now.stop) c.args.at
    c.in_ok-counts.counts c.in_ok-unstable.unstable c.in_ok-unavailable.unavailable _ _ _ _ _ _ _ r
    (sym c.in_ok-counts.ensures)
    (record {
      groups_count = c.put.ensures;
      unstable_count = c.put-2.ensures;
      unavailable_count = c.put-3.ensures;
      groups_end = sym c.in_ok-unstable.ensures.value;
      groups = record { row = c.in_ok-unstable.ensures.written };
      unstable_end = sym c.in_ok-unavailable.ensures.value;
      unstable_row = record { row = c.in_ok-unavailable.ensures.written };
      unavailable_row = record { row = c.copy_apis.ensures.written };
    }) is
