use Rattle.std.proofs.Common.{sym, subst, rules}
use Rattle.std.proofs.Common.{[]}
use Rattle.deny_globs.specs.private.Marked.{IsMarked}
use Rattle.deny_globs.proofs.MarkedLemmas.{marked_none}
use Rattle.deny_globs.proofs.marked.MarkedStates.new.Goals as goal

pub invariant_of-result : goal.invariant_of-result
invariant_of-result c =
    subst (λ l. IsMarked l c.in_ok-marks.marks.items) (sym c.new.ensures.items)
    (subst (λ m. IsMarked [] m) (sym (c.in_ok-marks.ensures.items_if_clones_equal (λ y e. search rules)))
    (marked_none c.args.states))
