use Rattle.deny_base_disk.proofs.WritingLemmas.{writing_more}
use Rattle.deny_base_disk.proofs.real_out.write_all.Goals as goal

pub loop-rest-preserved : goal.loop-rest-preserved
loop-rest-preserved g c =
    writing_more _ (g.W.Write.contents c.loop-rest.writer) _ _ c.loop-rest.rest.now c.in-Ok.n c.in-Ok.ensures.bound
    c.loop-rest.invariant c.in-Ok.ensures.bytes
