use Rattle.deny_krates_trees.proofs.build.add_repeat.Goals as goal

pub returns : goal.returns
returns c = rw (c.in_ok-inner_of.ensures, c.new.ensures) at c.push.ensures.ok
