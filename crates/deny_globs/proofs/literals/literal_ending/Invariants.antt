use Rattle.std.specs.Slice.Iter.{iter_rest}
use Rattle.deny_globs.proofs.LiteralLemmas.{IsReadBackTo}
use Rattle.deny_globs.proofs.literals.literal_ending.Given as goal

abbrev pub invariant-loop-token : goal.invariant-loop-token
invariant-loop-token l = IsReadBackTo l.tokens (iter_rest l.token-iterator.iter) l.literal.items
