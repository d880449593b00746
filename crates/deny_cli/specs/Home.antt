-- The home that an option names.
use Rattle.std.specs.Prelude.{ℕ, ◌==◌, List, Option, Some, None, codes, length, option_and_then, if◌then◌else◌}
use Rattle.deny_cli.specs.Options.{behind}

-- a home is not empty
abbrev pub nonempty_home : List ℕ → Option (List ℕ)
nonempty_home path = if length path == 0 then None else Some path

-- the home of `--home=PATH`
unfoldable pub home_of : List ℕ → Option (List ℕ)
home_of argument = option_and_then nonempty_home (behind (codes "--home=") argument)
