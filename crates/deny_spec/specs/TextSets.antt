-- Sets of texts.
use Rattle.std.specs.Prelude.{◌≡◌, ℕ, Bool, List, is_some}
use Rattle.std.specs.FinMap as finite
use Rattle.std.specs.List.{list_any}
use Rattle.deny_base_lists.specs.TextMap.{TextFinMap}
use Rattle.deny_spec.specs.Text.{same_text}

-- a map has exactly these texts as keys
pub record IsSetOf (texts : List (List ℕ)) (set : TextFinMap Bool) : Type 0 where
  pub each : (text : List ℕ) → is_some (finite.get set text) ≡ list_any (same_text text) texts
