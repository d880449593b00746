use Rattle.std.proofs.Common.{arith, ap, sym, subst}
use Rattle.std.specs.Prelude.{Contains}
use Rattle.deny_globs.proofs.MarkedLemmas.{marked_inside}
use Rattle.deny_globs.proofs.marked.MarkedStates.as_slice.Goals as goal

pub returns-clause-inside : goal.returns-clause-inside
returns-clause-inside c n h =
    omega (
      arith,
      marked_inside c.self.inside.marks.items n
          ((c.self.invariant.each n).0 (subst (λ v. Contains v.0 n) (sym c.self.view_is) h)),
      ap (λ v. v.1) c.self.view_is,
    )
