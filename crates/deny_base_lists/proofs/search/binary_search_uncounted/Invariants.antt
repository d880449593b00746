use Rattle.deny_base_lists.proofs.search.binary_search_uncounted.Given as goal

abbrev pub ghosts-uncounted : goal.ghosts-uncounted
ghosts-uncounted g a = record { name = a.blank.name; parts = a.blank.parts }
