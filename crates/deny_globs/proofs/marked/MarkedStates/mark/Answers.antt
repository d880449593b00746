use Rattle.std.proofs.Common.{false, true, arith, ap, sym, subst, ◌∙◌, ◌≡◌, ◌<◌, ◌++◌, ◌∷◌, [], length, get_or}
use Rattle.std.specs.Prelude.{slice_set}
use Rattle.std.proofs.lemmas.List.{get_or_default, length_push}
use Rattle.deny_globs.specs.private.Marked.{IsMarked}
use Rattle.deny_globs.proofs.MarkedLemmas.{marked_more, marks_new, marks_at_most}
use Rattle.deny_globs.proofs.marked.MarkedStates.mark.Goals as goal

pub invariant_of-self-2 : goal.invariant_of-self-2
invariant_of-self-2 g c =
    let marks = c.self.inside.marks.items in
    let inside : c.args.state < length marks = omega (arith, c.requires.inside, ap (λ v. v.1) c.self.view_is) in
    let fresh : get_or marks c.args.state false ≡ false = get_or_default marks c.args.state false c.index.result.now
    inside ∙ (sym c.index.ensures ∙ c.if-index.false) in
    subst (λ l. IsMarked l (slice_set marks c.args.state true)) (sym c.in_ok-push.ensures.items)
    (marked_more c.self.invariant inside fresh)

pub returns-clause-ok : goal.returns-clause-ok
returns-clause-ok g c = marks_new (c.in_ok-push.ensures.items ∙ ap (λ v. v.0 ++ c.args.state ∷ []) c.self.view_is)

pub returns-clause-bound : goal.returns-clause-bound
returns-clause-bound g c = omega (
  arith,
  (invariant_of-self-2 g c).once,
  marks_at_most (slice_set c.self.inside.marks.items c.args.state true),
)

pub returns-clause-steps : goal.returns-clause-steps
returns-clause-steps g c =
    omega (
      arith,
      c.tick.ensures,
      length_push c.self.inside.order.items c.args.state,
      ap length c.in_ok-push.ensures.items,
      ap (λ v. length v.0) c.self.view_is,
    )
