use Rattle.std.proofs.Common.{arith, ap, length, sym, ◌<◌}
use Rattle.std.specs.Prelude.{Contains}
use Rattle.deny_globs.proofs.MarkedLemmas.{marked_inside}
use Rattle.deny_globs.proofs.marked.MarkedStates.at.Goals as goal

pub returns-clause-inside : goal.returns-clause-inside
returns-clause-inside c =
    let order = c.self.inside.order.items in
    let less : c.args.index < length order = omega (arith, c.requires, ap (λ v. length v.0) c.self.view_is) in
    let is_there : Contains order c.index.result.now = (c.args.index, less, sym c.index.ensures) in
    omega (
      arith,
      marked_inside c.self.inside.marks.items c.index.result.now
          ((c.self.invariant.each c.index.result.now).0 is_there),
      ap (λ v. v.1) c.self.view_is,
    )
