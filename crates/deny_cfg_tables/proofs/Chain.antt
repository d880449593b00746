-- Keys that are read one after another, and the state behind the last of them.
use Rattle.std.proofs.Common.{◌≡◌, List, [], ◌∷◌, refl, ap, ◌∙◌}
use Rattle.deny_cfg_entries.specs.Table.{Field, TableState, after, after_all}

pub data Chain : List Field → TableState → TableState → Type 0 where
  ended : {s : TableState} → Chain [] s s
  ◌▸◌ : {f : Field} {fs : List Field} {s next end : TableState} → next ≡ after f s → Chain fs next end
      → Chain (f ∷ fs) s end

infixr 4 ◌▸◌
pub ends : (fs : List Field) (s end : TableState) → Chain fs s end → end ≡ after_all fs s
ends [] s end ended = refl
ends (f ∷ fs) s end (◌▸◌ {next = next} is more) = ends fs next end more ∙ ap (after_all fs) is
