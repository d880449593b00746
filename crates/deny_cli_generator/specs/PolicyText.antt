-- The generated policy: it denies one crate and several versions of any other, and skips one version of every tenth
-- name.
use Rattle.std.specs.Prelude.{◌++◌, ◌==◌, ◌/◌, ◌%◌, ◌+◌, ℕ, List, [], codes, flat_map, if◌then◌else◌}
use Rattle.deny_cli_generator.specs.Made.{below, name_of}

-- the divider before an element of a list; empty before the first element
abbrev pub divided : ℕ → List ℕ → List ℕ
divided number divider = if number == 0 then [] else divider

-- the entry of `skip` for the first version of a name, where ten divides the name's number
unfoldable pub skip_text : ℕ → List ℕ
skip_text number = if number % 10 == 0
    then divided number (codes ", ") ++ (codes "\"" ++ (name_of number ++ codes "@=1.0.0\"")) else []

-- the number of names: half the number of crates, rounded up
abbrev pub name_count : ℕ → ℕ
name_count crates = crates / 2 + crates % 2

-- the policy for a number of crates
unfoldable pub policy_text : ℕ → List ℕ
policy_text crates = codes "[bans]\nmultiple-versions = \"deny\"\ndeny = [\"c1\"]\nskip = ["
    ++ (flat_map skip_text (below (name_count crates)) ++ codes "]\n")
