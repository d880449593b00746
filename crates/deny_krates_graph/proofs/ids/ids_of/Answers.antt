use Rattle.std.proofs.Common.{List, subst}
use Rattle.std.specs.Prelude.{Contains}
use Rattle.deny_base_lists.specs.Ascending.{Lists}
use Rattle.deny_krates_graph.specs.IdEntries.{id_entry_cmp}
use Rattle.deny_krates_graph.specs.declared.ids.IdEntry.{IdEntry}
use Rattle.deny_krates_graph.proofs.ids.ids_of.Goals as goal

pub returns : goal.returns
returns c = subst (λ (xs : List IdEntry). Lists id_entry_cmp (Contains xs) c.put_in_order.new.list)
    c.in_ok-entries.ensures
    c.in_ok-put_in_order.ensures.ok
