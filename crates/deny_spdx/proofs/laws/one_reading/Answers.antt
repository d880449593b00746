use Rattle.deny_spdx.specs.Reads.{Read, BadAt}
use Rattle.deny_spdx.proofs.ReadsLemmas.{right_as}
use Rattle.deny_spdx.proofs.laws.one_reading.Goals as goal

pub returns-clause-read : goal.returns-clause-read
returns-clause-read c = λ text e is. right_as text (Read e) is

pub returns-clause-bad : goal.returns-clause-bad
returns-clause-bad c = λ text offset is. right_as text (BadAt offset) is
