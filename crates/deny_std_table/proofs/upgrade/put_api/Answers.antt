use Rattle.deny_std_table.specs.Spelling.{api_bytes}
use Rattle.deny_std_table.proofs.DraftLemmas.{writes-then, writes-text}
use Rattle.deny_std_table.proofs.upgrade.put_api.Goals as goal

pub returns : goal.returns
unfolding api_bytes
returns c = writes-then _ _ _ _ _ (writes-text _ _ _ _ c.slice_at.ensures c.put_text.ensures)
    (writes-text _ _ _ _ c.slice_at-2.ensures c.put_text-2.ensures)
