use Rattle.std.proofs.Common.{[], ◌∷◌}
use Rattle.deny_std_table.proofs.DraftLemmas.{writes-then}
use Rattle.deny_std_table.proofs.upgrade.put_head.Goals as goal

pub returns : goal.returns
returns c =
    let first = writes-then _ _ _ (0xcd ∷ []) (0xcd ∷ []) c.put.ensures c.put-2.ensures in
    let mark = writes-then _ _ _ (0xcd ∷ 0xcd ∷ []) (0xcd ∷ []) first c.put-3.ensures in
    let version = writes-then _ _ _ (0xcd ∷ 0xcd ∷ 0xcd ∷ []) (2 ∷ []) mark c.put-4.ensures in
    writes-then _ _ _ (0xcd ∷ 0xcd ∷ 0xcd ∷ 2 ∷ []) _ version c.put_four.ensures
