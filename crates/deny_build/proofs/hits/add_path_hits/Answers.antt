use Rattle.deny_build.proofs.hits.add_path_hits.Goals as goal

pub add_path_hit-requires : goal.add_path_hit-requires
add_path_hit-requires c = c.in_ok-firsts.ensures c.path-item.result.path.span
