use Rattle.std.proofs.Common.{arith, ap, length}
use Rattle.deny_globs.proofs.MarkedLemmas.{marks_at_most}
use Rattle.deny_globs.proofs.marked.MarkedStates.count.Goals as goal

pub returns-clause-bound : goal.returns-clause-bound
returns-clause-bound c =
    omega (
      arith,
      c.self.invariant.once,
      marks_at_most c.self.inside.marks.items,
      ap (λ v. length v.0) c.self.view_is,
      ap (λ v. v.1) c.self.view_is,
    )
