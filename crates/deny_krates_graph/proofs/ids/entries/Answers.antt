use Rattle.deny_krates_graph.proofs.IdsLemmas.{entries_done}
use Rattle.deny_krates_graph.proofs.ids.entries.Goals as goal

pub returns : goal.returns
returns c = entries_done c.args.krates.now c.loop-place.place c.loop-place.entries c.loop-place-test.false
    c.loop-place.invariant
