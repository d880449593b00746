use Rattle.std.proofs.Common.{arith, ap, subst, length, ◌≤◌, ◌+◌, ◌*◌}
use Rattle.std.proofs.lemmas.Result.{on_ok_weaker}
use Rattle.deny_globs.specs.private.Index.{BoundsSimple, NotesSimple}
use Rattle.deny_globs.specs.private.States.{SomeLeads}
use Rattle.deny_globs.specs.Sets.{FitsAt, KeepsBound}
use Rattle.deny_globs.specs.private.Walk.{Notes}
use Rattle.deny_globs.proofs.MarkedLemmas.{contains_in}
use Rattle.deny_globs.proofs.SetLemmas.{noted_fit, total_bound, simple_bound}
use Rattle.deny_globs.proofs.StartLemmas.{leads_from_starts}
use Rattle.deny_globs.proofs.WalkLemmas.{notes_same}
use Rattle.deny_globs.proofs.set.note_fitting.Goals as goal

pub walk-requires-clause-within : goal.walk-requires-clause-within
walk-requires-clause-within g c n h = omega (
  arith,
  c.set.invariant.1.within c.args.path.now n ((c.in_ok-starts.ensures n).0 (contains_in c.deref-3.ensures.value h)),
  ap length c.deref-2.ensures.value,
)

pub returns-in_err-note_simple-clause-steps : goal.returns-in_err-note_simple-clause-steps
returns-in_err-note_simple-clause-steps g c =
    let inside = c.set.inside in
    let path = c.args.path.now in
    let simple = subst (λ l. BoundsSimple l path c.args.steps.now c.note_simple.new.steps) c.deref.ensures.value
    c.note_simple.ensures.steps in
    subst (λ gs. KeepsBound gs path c.args.steps.now c.note_simple.new.steps) c.set.view_is
    (simple_bound inside.globs inside.extensions.items inside.states.items inside.starts path c.args.steps.now
    c.note_simple.new.steps c.set.invariant.0 c.set.invariant.1 simple)

pub returns-in_err-starts-clause-steps : goal.returns-in_err-starts-clause-steps
returns-in_err-starts-clause-steps g c =
    let inside = c.set.inside in
    let path = c.args.path.now in
    let simple = subst (λ l. BoundsSimple l path c.args.steps.now c.note_simple.new.steps) c.deref.ensures.value
    c.note_simple.ensures.steps in
    subst (λ gs. KeepsBound gs path c.args.steps.now c.note_simple.new.steps) c.set.view_is
    (simple_bound inside.globs inside.extensions.items inside.states.items inside.starts path c.args.steps.now
    c.note_simple.new.steps c.set.invariant.0 c.set.invariant.1 simple)

pub returns-clause-steps : goal.returns-clause-steps
returns-clause-steps g c =
    let inside = c.set.inside in
    let path = c.args.path.now in
    let simple = subst (λ l. BoundsSimple l path c.args.steps.now c.note_simple.new.steps) c.deref.ensures.value
    c.note_simple.ensures.steps in
    let walk = subst (λ l. c.walk.new.steps ≤ c.note_simple.new.steps + (length path + 1) * length l)
    c.deref-2.ensures.value c.walk.ensures.steps in
    subst (λ gs. KeepsBound gs path c.args.steps.now c.walk.new.steps) c.set.view_is
    (total_bound inside.globs inside.extensions.items inside.states.items inside.starts path c.args.steps.now
    c.note_simple.new.steps c.walk.new.steps c.set.invariant.0 c.set.invariant.1 simple walk)

pub returns-clause-ok : goal.returns-clause-ok
returns-clause-ok g c =
    let inside = c.set.inside in
    let path = c.args.path.now in
    let first = subst (λ l. NotesSimple l path c.args.fitting.now c.note_simple.new.fitting) c.deref.ensures.value
    c.in_ok-note_simple.ensures.notes in
    on_ok_weaker c.walk.result
    (λ n.
    let states_are = subst
    (λ l. Notes (λ i. SomeLeads l c.deref-3.result.now i path) c.note_simple.new.fitting c.walk.new.fitting)
    c.deref-2.ensures.value n in
    let second = subst (λ l. Notes (λ i. SomeLeads inside.states.items l i path) c.note_simple.new.fitting
    c.walk.new.fitting) c.deref-3.ensures.value states_are in
    subst (λ gs. Notes (λ i. FitsAt gs i path) c.args.fitting.now c.walk.new.fitting) c.set.view_is
    (noted_fit c.set.invariant.1 (first inside.globs c.set.invariant.0)
    (notes_same (leads_from_starts c.in_ok-starts.ensures) second)))
    c.walk.ensures.notes
