-- The prefixes of a file that determine whether it is executable.
use Rattle.std.specs.Prelude.{◌≡◌, ◌⊎◌, ℕ, ◌&&◌, ◌||◌, Bool, true, not, nat_le, List, codes, length, take}
use Rattle.std.specs.List.{list_any}
use Rattle.deny_build_file.specs.Script.{begins, is_newline}

-- it begins as a script, and its first line has not ended
abbrev pub is_open_script : List ℕ → Bool
is_open_script prefix = begins prefix (codes "#!") && not (list_any is_newline prefix)

-- the prefix determines it, whatever follows
unfoldable pub is_enough : List ℕ → Bool
is_enough prefix = nat_le 256 (length prefix) || (nat_le 16 (length prefix) && not (is_open_script prefix))

-- all of a text, or a prefix of it that is enough
abbrev pub IsDecisivePrefix : List ℕ → List ℕ → Type 0
IsDecisivePrefix prefix text = (prefix ≡ text) ⊎ ((prefix ≡ take (length prefix) text) × (is_enough prefix ≡ true))
