use Rattle.std.proofs.Common.{length}
use Rattle.deny_base_disk.proofs.WritingLemmas.{IsWriting}
use Rattle.deny_base_disk.proofs.real_out.write_all.Given as goal

abbrev pub invariant-loop-rest : goal.invariant-loop-rest
invariant-loop-rest g l = IsWriting (g.W.Write.contents l.fn.writer) (g.W.Write.contents l.writer) l.bytes l.rest

abbrev pub decreases-loop-rest : goal.decreases-loop-rest
decreases-loop-rest g l = length l.rest
