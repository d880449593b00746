use Rattle.deny_rules.proofs.packages.reached_in.Given as goal

abbrev pub ghosts-reached_uncounted : goal.ghosts-reached_uncounted
ghosts-reached_uncounted a = record { name = a.blank.name; parts = a.blank.parts }
