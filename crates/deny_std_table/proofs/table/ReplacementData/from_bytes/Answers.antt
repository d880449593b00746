use Rattle.std.proofs.Common.{rules}
use Rattle.deny_std_table.proofs.BreakLemmas.{ok-no_break, break-no_table, break-no_memory}
use Rattle.deny_std_table.proofs.TableLaw.{table-sound}
use Rattle.deny_std_table.proofs.table.ReplacementData.from_bytes.Goals as goal

pub returns-in_err-width-clause-no_table : goal.returns-in_err-width-clause-no_table
returns-in_err-width-clause-no_table c = let none = break-no_table c.args.bytes.now _ c.in_err-width.ensures in
    search (rules, none)

pub returns-in_err-width-clause-no_memory : goal.returns-in_err-width-clause-no_memory
returns-in_err-width-clause-no_memory c = let never = break-no_memory c.args.bytes.now _ c.in_err-width.ensures in
    search (rules, never)

pub invariant_of-result : goal.invariant_of-result
invariant_of-result c = c.in_ok-width.ensures

pub returns-clause-table : goal.returns-clause-table
returns-clause-table c = table-sound c.args.bytes.now _ c.in_ok-width.ensures.whole

pub returns-clause-bad : goal.returns-clause-bad
returns-clause-bad c = λ offset. let other = ok-no_break c.args.bytes.now _ c.in_ok-width.ensures.whole offset in
    (λ is. cc, λ is. absurd (other is))
