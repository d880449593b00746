use Rattle.deny_cfg_index.proofs.spec_index.SpecIndex.numbers_of.Given as goal

abbrev pub ghosts-find_uncounted : goal.ghosts-find_uncounted
ghosts-find_uncounted a = record { name = a.blank.name; parts = a.blank.parts }
