use Rattle.std.proofs.Common.{sym}
use Rattle.deny_std_table.specs.Width.{width_of}
use Rattle.deny_std_table.specs.Region.{bounds}
use Rattle.deny_std_table.proofs.DraftLemmas.{writes-text}
use Rattle.deny_std_table.proofs.CopyEntryLemmas.{entry-written, no-entry}
use Rattle.deny_std_table.proofs.upgrade.copy_entry.Goals as goal

pub returns-in_err-name : goal.returns-in_err-name
returns-in_err-name c = λ e is. absurd (no-entry
    (bounds (width_of c.args.region.now.width) c.args.region.now.bytes.now c.args.region.now.stop) c.args.start _ e
    (sym c.in_err-name.ensures.value) is)

pub returns : goal.returns
returns c = λ e is. entry-written
    (bounds (width_of c.args.region.now.width) c.args.region.now.bytes.now c.args.region.now.stop) c.args.start
    c.in_ok-name.name _ _ _ _ e (sym c.in_ok-name.ensures.value)
    (writes-text _ _ _ _ c.slice_at.ensures c.put_text.ensures)
    c.copy_items.ensures.value c.copy_items.ensures.written is
