use Rattle.std.proofs.Common.{drop}
use Rattle.deny_globs.proofs.LiteralLemmas.{IsReadTo}
use Rattle.deny_globs.proofs.literals.literal_beginning.Given as goal

abbrev pub invariant-loop-token : goal.invariant-loop-token
invariant-loop-token l = IsReadTo l.tokens (drop l.token-index l.tokens) l.literal.items
