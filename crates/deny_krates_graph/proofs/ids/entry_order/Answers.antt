use Rattle.deny_krates_graph.proofs.IdsLemmas.{id_entry_cmp-exact, id_entry_cmp-total}
use Rattle.deny_krates_graph.proofs.ids.entry_order.Goals as goal

pub returns-clause-total : goal.returns-clause-total
returns-clause-total c = id_entry_cmp-total

pub returns-clause-equal : goal.returns-clause-equal
returns-clause-equal c = id_entry_cmp-exact
