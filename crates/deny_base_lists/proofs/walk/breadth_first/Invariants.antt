use Rattle.deny_base_lists.proofs.walk.breadth_first.Given as goal

abbrev pub ghosts-uncounted : goal.ghosts-uncounted
ghosts-uncounted g a = record { name = a.blank.name; parts = a.blank.parts }
