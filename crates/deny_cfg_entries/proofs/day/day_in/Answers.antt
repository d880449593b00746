use Rattle.std.proofs.Common.{rules, drop, take}
use Rattle.deny_cfg_entries.specs.Day.{has_form}
use Rattle.deny_cfg_entries.proofs.DayLaws.{number_below}
use Rattle.deny_cfg_entries.proofs.day.day_in.Goals as goal

pub day_of-requires-clause-year : goal.day_of-requires-clause-year
unfolding has_form
day_of-requires-clause-year c = number_below (take 4 c.args.text.now) c.in_ok-year.year 4 (search rules) (search rules)

pub day_of-requires-clause-month : goal.day_of-requires-clause-month
unfolding has_form
day_of-requires-clause-month c =
    number_below (take 2 (drop 5 c.args.text.now)) c.in_ok-month.month 2 (search rules) (search rules)

pub day_of-requires-clause-day : goal.day_of-requires-clause-day
unfolding has_form
day_of-requires-clause-day c =
    number_below (take 2 (drop 8 c.args.text.now)) c.in_ok-day.day 2 (search rules) (search rules)
