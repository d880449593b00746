use Rattle.deny_krates_trees.proofs.EnoughLemmas.{levels_enough}
use Rattle.deny_krates_trees.proofs.laws.levels_are_enough.Goals as goal

pub returns : goal.returns
returns c = levels_enough
