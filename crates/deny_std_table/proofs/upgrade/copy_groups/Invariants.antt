use Rattle.std.proofs.Common.{◌-◌}
use Rattle.deny_std_table.specs.Width.{width_of}
use Rattle.deny_std_table.specs.Region.{bounds, group}
use Rattle.deny_std_table.specs.Spelling.{group_text, group_bytes}
use Rattle.deny_std_table.proofs.CopyLemmas.{Progress}
use Rattle.deny_std_table.proofs.upgrade.copy_groups.Given as goal

-- the rest of the groups is not written yet
abbrev pub invariant-loop-index : goal.invariant-loop-index
invariant-loop-index l =
    Progress (group (bounds (width_of l.region.width) l.region.bytes.now l.region.stop))
    (group_text l.region.bytes.now) group_bytes l.count l.at (l.count - l._index) l.next l.fn.draft l.draft
