use Rattle.deny_tests.proofs.globs.fitting.Given as goal

abbrev pub ghosts-put_fitting : goal.ghosts-put_fitting
ghosts-put_fitting a = record { name = a.blank.name; parts = a.blank.parts }
