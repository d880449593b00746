use Rattle.std.proofs.Common.{◌-◌}
use Rattle.deny_std_table.specs.Width.{width_of}
use Rattle.deny_std_table.specs.Region.{bounds, api}
use Rattle.deny_std_table.specs.Spelling.{api_text, api_bytes}
use Rattle.deny_std_table.proofs.CopyLemmas.{Progress}
use Rattle.deny_std_table.proofs.upgrade.copy_apis.Given as goal

-- the rest of the APIs is not written yet
abbrev pub invariant-loop-index : goal.invariant-loop-index
invariant-loop-index l =
    Progress (api (bounds (width_of l.region.width) l.region.bytes.now l.region.stop))
    (api_text l.region.bytes.now) api_bytes l.count l.at (l.count - l._index) l.next l.fn.draft l.draft
