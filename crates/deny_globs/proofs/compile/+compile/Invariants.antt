use Rattle.std.proofs.Common.{◌+◌, ◌*◌, take}
use Rattle.std.specs.Slice.Iter.{iter_rest}
use Rattle.deny_globs.specs.private.Compiled.{IsBuiltOver}
use Rattle.deny_globs.proofs.BuildLemmas.{IsBuiltBackTo}
use Rattle.deny_globs.proofs.compile.+compile.Given as goal

abbrev pub invariant-compile-loop-token : goal.invariant-compile-loop-token
invariant-compile-loop-token l = IsBuiltBackTo l.tokens (iter_rest l.token-iterator.iter) l.next l.fn.states.items
    l.states.items l.start

abbrev pub invariant-compile_one-loop-alternative : goal.invariant-compile_one-loop-alternative
invariant-compile_one-loop-alternative l = IsBuiltOver (take l.alternative-index l.alternatives) l.next
    l.fn.states.items l.states.items l.start

-- the depth of the tokens left to compile, and which of the functions is at them

abbrev pub decreases-compile_token : goal.decreases-compile_token
decreases-compile_token l = 4 * goal.size-compile_token l

abbrev pub decreases-compile : goal.decreases-compile
decreases-compile l = 4 * goal.size-compile l + 1

abbrev pub decreases-compile_alternative : goal.decreases-compile_alternative
decreases-compile_alternative l = 4 * goal.size-compile_alternative l + 2

abbrev pub decreases-compile_one : goal.decreases-compile_one
decreases-compile_one l = 4 * goal.size-compile_one l + 3
