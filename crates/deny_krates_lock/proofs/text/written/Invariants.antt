use Rattle.deny_krates_lock.proofs.WritingLemmas.{IsWriting}
use Rattle.deny_krates_lock.proofs.text.written.Given as goal

abbrev pub invariant-loop-line : goal.invariant-loop-line
invariant-loop-line l = IsWriting l.krates.crates l.line-index l.text l.spans.items
