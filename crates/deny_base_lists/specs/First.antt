-- Maps that find the first of entries with equal keys.
use Rattle.std.specs.Prelude.{◌≡◌, Bool, List, Option, None, Some, cond}
use Rattle.std.specs.Map.{lookup}
use Rattle.std.specs.Option.{option_or}

-- the map has, at each key, the value of the first entry of that key
pub record FindsFirst {K V : Type 0} (same : K → K → Bool) (entries : List (K × V))
    (found : K → Option V) : Type 0 where
  pub at : (asked : K) → found asked ≡ lookup (same asked) entries

-- the map keeps its values, and has this value at this key where it had none
pub record GainsEntry {K V : Type 0} (same : K → K → Bool) (key : K) (value : V) (old new : K → Option V) : Type 0 where
  pub at : (asked : K) → new asked ≡ option_or (old asked) (cond (same asked key) (Some value) None)
