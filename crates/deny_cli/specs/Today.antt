-- The day that an option names.
use Rattle.std.specs.Prelude.{ℕ, ℤ, List, Option, codes, option_and_then, option_map}
use Rattle.deny_cfg_entries.specs.Day.{day_in}
use Rattle.deny_cfg_entries.specs.declared.day.Day.{Day}
use Rattle.deny_cli.specs.Options.{behind}

-- the day with a number
abbrev pub day_numbered : ℤ → Day
day_numbered number = record { 0 = number }

-- the day of `--today=DAY`, which the calendar has
unfoldable pub today_of : List ℕ → Option Day
today_of argument = option_map day_numbered (option_and_then day_in (behind (codes "--today=") argument))
