-- The days in the tree of a policy until which entries count, where it is not told which day it is.
use Rattle.std.specs.Prelude.{◌+◌, ◌++◌, ℕ, List, [], ◌∷◌, Option, None, Some, codes, is_some, option_and_then}
use Rattle.std.specs.Prelude.{if◌then◌else◌}
use Rattle.std.specs.Fmt.{decimal}
use Rattle.std.specs.Option.{option_map_or}
use Rattle.deny_toml.specs.Calls.{array_in, below_name, value_at_path}
use Rattle.deny_toml.specs.Faults.{fault_at}
use Rattle.deny_toml.specs.Value.{span_in}
use Rattle.deny_toml.specs.error.ConfigFault.{ConfigFault}
use Rattle.deny_toml.specs.error.FaultKind.TheVariants as fault
use Rattle.deny_toml.specs.value.Value.{Value}
use Rattle.deny_cfg_entries.specs.PolicyKey.{name_of}
use Rattle.deny_cfg_entries.specs.Waivers.{day_at}
use Rattle.deny_cfg_entries.specs.declared.day.Day.{Day}
use Rattle.deny_cfg_entries.specs.declared.policy_key.PolicyKey.TheVariants as key

-- the fault of a value of this path that names a day
abbrev pub waiting_at : List ℕ → Option Value → List ConfigFault
waiting_at path None = []
waiting_at path (Some v) = if is_some (day_at v) then fault_at fault.NoToday path (span_in v) ∷ [] else []

-- the path of the key `expires` of the entry at an index of an array
abbrev pub expires_path : List ℕ → ℕ → List ℕ
expires_path array index = array ++ (codes "." ++ (decimal index ++ codes ".expires"))

-- the faults of the entries of an array, from an index on
abbrev pub waiting_from : List ℕ → ℕ → List Value → List ConfigFault
waiting_from array index [] = []
waiting_from array index (v ∷ vs) =
    waiting_at (expires_path array index) (below_name (name_of key.Expires) v) ++ waiting_from array (index + 1) vs

abbrev pub waiting_of : List ℕ → Option Value → List ConfigFault
waiting_of array v = option_map_or (waiting_from array 0) (option_and_then array_in v) []

-- the days in the five arrays of a policy whose entries may expire
unfoldable pub waiting_in : Value → List ConfigFault
waiting_in v =
    waiting_of (codes "bans.skip") (value_at_path (codes "/bans/skip") v)
    ++ (waiting_of (codes "bans.skip-tree") (value_at_path (codes "/bans/skip-tree") v)
    ++ (waiting_of (codes "bans.std-replacements.ignore") (value_at_path (codes "/bans/std-replacements/ignore") v)
    ++ (waiting_of (codes "bans.build.bypass") (value_at_path (codes "/bans/build/bypass") v)
    ++ waiting_of (codes "licenses.exceptions") (value_at_path (codes "/licenses/exceptions") v))))

-- the faults of a tree for want of a day
abbrev pub no_today : Option Day → Value → List ConfigFault
no_today None v = waiting_in v
no_today (Some today) v = []
