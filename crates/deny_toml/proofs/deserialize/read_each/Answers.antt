use Rattle.std.proofs.Common.{length-append, arith}
use Rattle.deny_toml.proofs.ArrayLaws.{faults_more, read_more}
use Rattle.deny_toml.proofs.deserialize.read_each.Goals as goal

pub elements-preserved : goal.elements-preserved
elements-preserved g c = record {
  count = simp length-append (omega (arith, c.elements.invariant.count));
  faults = faults_more g.T.Deserialize.faults_of _ c.elements.index _ c.elements.faults _ c.elements.invariant.count
      c.in_ok-read_element.ensures.faults c.elements.invariant.faults;
  items = read_more g.T.Deserialize.faults_of g.T.Deserialize.reads _ c.elements.index _ c.elements.faults _
      c.elements.items _ c.in_ok-read_element.ensures.faults c.elements.invariant.items
      c.in_ok-read_element.ensures.items;
}
