use Rattle.std.proofs.Common.{length, ◌-◌}
use Rattle.deny_globs.proofs.GlobLemmas.{IsReadSo}
use Rattle.deny_globs.proofs.reader.read_glob.Given as goal

abbrev pub invariant-loop-next : goal.invariant-loop-next
invariant-loop-next l = IsReadSo l.characters l.next l.reading

abbrev pub decreases-loop-next : goal.decreases-loop-next
decreases-loop-next l = length l.characters - l.next
