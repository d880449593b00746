use Rattle.deny_build.proofs.hits.add_glob_hits.Goals as goal

pub add_glob_hit-requires : goal.add_glob_hit-requires
add_glob_hit-requires c = c.in_ok-firsts.ensures c.words_of.result.now.value
