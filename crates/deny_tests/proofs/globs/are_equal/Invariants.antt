use Rattle.deny_tests.proofs.globs.are_equal.Given as goal

abbrev pub ghosts-put_equal : goal.ghosts-put_equal
ghosts-put_equal a = record { name = a.blank.name; parts = a.blank.parts }
