use Rattle.std.proofs.Common.{arith}
use Rattle.deny_cfg_index.proofs.spec_index.SpecIndex.numbers_of.Goals as goal

pub find_uncounted-requires-clause-whole : goal.find_uncounted-requires-clause-whole
find_uncounted-requires-clause-whole c = omega (arith, c.new.ensures)
