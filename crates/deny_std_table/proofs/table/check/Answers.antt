use Rattle.std.proofs.Common.{rules, sym}
use Rattle.deny_std_table.proofs.TableLemmas.{table-header, table-count, table-offsets, table-bad, entries-read}
use Rattle.deny_std_table.proofs.TableLemmas.{offsets-all}
use Rattle.deny_std_table.proofs.table.check.Goals as goal

pub returns-in_err-width : goal.returns-in_err-width
returns-in_err-width c =
    let broken = table-header c.args.bytes.now _ c.in_err-width.ensures in search (rules, broken)

pub returns-in_err-count : goal.returns-in_err-count
returns-in_err-count c =
    let broken = table-count _ c.args.bytes.now _ c.in_ok-width.ensures (sym c.in_err-count.ensures) in
    search (rules, broken)

pub returns-in_err-check_offsets : goal.returns-in_err-check_offsets
returns-in_err-check_offsets c =
    let broken = table-offsets _ c.args.bytes.now c.in_ok-count.count _ c.in_ok-width.ensures
    (sym c.in_ok-count.ensures)
    (sym c.in_err-check_offsets.ensures) in
    search (rules, broken)

pub check_entries-requires : goal.check_entries-requires
check_entries-requires c = offsets-all c.args.bytes.now c.in_ok-count.count (sym c.in_ok-check_offsets.ensures)

pub returns-in_err-check_entries : goal.returns-in_err-check_entries
returns-in_err-check_entries c =
    let broken = table-bad _ c.args.bytes.now c.in_ok-count.count _ c.in_ok-width.ensures (sym c.in_ok-count.ensures)
    (sym c.in_ok-check_offsets.ensures) (sym c.in_err-check_entries.ensures) in
    search (rules, broken)

pub returns : goal.returns
returns c =
    entries-read _ c.args.bytes.now c.in_ok-count.count c.in_ok-width.ensures (sym c.in_ok-count.ensures)
    (sym c.in_ok-check_offsets.ensures) (sym c.in_ok-check_entries.ensures)
