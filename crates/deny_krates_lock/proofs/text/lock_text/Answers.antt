use Rattle.std.proofs.Common.{arith, ap, length}
use Rattle.deny_krates_lock.proofs.TextLemmas.{length-lock_text}
use Rattle.deny_krates_lock.proofs.text.lock_text.Goals as goal

pub returns-clause-short : goal.returns-clause-short
returns-clause-short c =
    omega (arith, length-lock_text c.args.krates.now.crates, ap length c.in_ok-lock.ensures.text, c.krates.ensures.lock)
