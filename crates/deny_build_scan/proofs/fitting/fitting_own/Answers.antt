use Rattle.deny_build_scan.proofs.fitting.fitting_own.Goals as goal
use Rattle.deny_build_scan.specs.Globs.AreFitting.{none}

pub returns-in-None : goal.returns-in-None
returns-in-None c = rw (c.in-None.is, c.new.ensures) none
