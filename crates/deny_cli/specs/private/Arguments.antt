-- Commands that ask for few crates.
use Rattle.std.specs.Prelude.{◌≤◌}
use Rattle.std.specs.Prelude.{⊤}
use Rattle.deny_cli.specs.Arguments.{most_crates, Command, check, generate}

-- a command asks for no more crates than are allowed
abbrev pub AsksForFew : Command → Type 0
AsksForFew (check asked) = ⊤
AsksForFew (generate crates) = crates ≤ most_crates
