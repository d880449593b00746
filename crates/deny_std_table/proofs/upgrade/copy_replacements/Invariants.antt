use Rattle.std.proofs.Common.{◌-◌}
use Rattle.deny_std_table.specs.Width.{width_of}
use Rattle.deny_std_table.specs.Region.{bounds, replacement}
use Rattle.deny_std_table.specs.Spelling.{replacement_text, replacement_bytes}
use Rattle.deny_std_table.proofs.CopyLemmas.{Progress}
use Rattle.deny_std_table.proofs.upgrade.copy_replacements.Given as goal

-- the rest of the replacements is not written yet
abbrev pub invariant-loop-index : goal.invariant-loop-index
invariant-loop-index l =
    Progress (replacement (bounds (width_of l.region.width) l.region.bytes.now l.region.stop))
    (replacement_text l.region.bytes.now) replacement_bytes l.count l.at (l.count - l._index) l.next l.fn.draft l.draft
