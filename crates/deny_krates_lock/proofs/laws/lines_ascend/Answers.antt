use Rattle.deny_krates_lock.proofs.SpanLemmas.{lines-ascend}
use Rattle.deny_krates_lock.proofs.WritingLemmas.{are_own}
use Rattle.deny_krates_lock.proofs.laws.lines_ascend.Goals as goal

pub returns : goal.returns
returns c = lines-ascend c.args.krates.now.crates
    (are_own c.krates.result.now c.args.krates.now.crates c.krates.ensures.crates c.krates.ensures.orderly.ids)
