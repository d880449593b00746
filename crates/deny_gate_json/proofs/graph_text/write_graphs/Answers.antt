use Rattle.deny_gate_json.proofs.WritingLemmas.{all_written}
use Rattle.deny_gate_json.proofs.graph_text.write_graphs.Goals as goal

pub loop-top-preserved : goal.loop-top-preserved
loop-top-preserved c =
    all_written c.loop-top.out _ c.loop-top.below.items c.pop.new.self.items c.in-Some.top _ c.loop-top.invariant
    c.in-Some.ensures.items c.in_ok-write_next.ensures.text
