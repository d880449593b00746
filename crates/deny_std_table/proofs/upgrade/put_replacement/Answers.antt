use Rattle.deny_std_table.specs.Spelling.{replacement_bytes}
use Rattle.deny_std_table.proofs.DraftLemmas.{writes-then}
use Rattle.deny_std_table.proofs.upgrade.put_replacement.Goals as goal

pub returns : goal.returns
unfolding replacement_bytes
returns c = writes-then _ _ _ _ _ c.put_api.ensures (writes-then _ _ _ _ _ c.put_api-2.ensures c.put_note.ensures)
