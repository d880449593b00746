use Rattle.deny_krates_lock.proofs.WritingLemmas.{are_own, lines-hold}
use Rattle.deny_krates_lock.proofs.text.lie_in.Goals as goal

pub returns : goal.returns
returns c =
    lines-hold c.args.krates.now.crates
    (are_own c.krates.result.now c.args.krates.now.crates c.krates.ensures.crates c.krates.ensures.orderly.ids)
    c.args.text.now c.utf8.text c.requires
