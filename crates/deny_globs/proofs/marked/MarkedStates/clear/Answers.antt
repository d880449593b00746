use Rattle.std.proofs.Common.{sym, subst}
use Rattle.deny_globs.specs.private.Marked.{IsMarked}
use Rattle.deny_globs.proofs.MarkedLemmas.{contains_in, marked_inside, marked_cleared}
use Rattle.deny_globs.proofs.marked.MarkedStates.clear.Goals as goal

pub clear_marks-requires-clause-within : goal.clear_marks-requires-clause-within
clear_marks-requires-clause-within c n h = marked_inside c.self.inside.marks.items n
    ((c.self.invariant.each n).0 (contains_in c.deref.ensures.value h))

pub invariant_of-self : goal.invariant_of-self
invariant_of-self c = subst (λ l. IsMarked l c.clear_marks.new.marks.items) (sym c.clear.ensures.items)
    (marked_cleared c.clear_marks.new.marks.items c.clear_marks.ensures.none)
