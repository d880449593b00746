use Rattle.std.proofs.Common.{arith, ap, length, refl, sym, subst}
use Rattle.std.specs.Prelude.{Contains}
use Rattle.std.proofs.lemmas.List.Elements.{Contains-get_or}
use Rattle.deny_base_lists.proofs.Members.{contains_none}
use Rattle.deny_globs.proofs.MarkedLemmas.{starts_only, starts_all, take_all}
use Rattle.deny_globs.proofs.walk.mark_starts.Goals as goal

pub loop-start-init : goal.loop-start-init
loop-start-init g c = record {
  only = λ n h. contains_none (subst (λ l. Contains l n) c.requires.none h);
  all = λ n h. contains_none h;
  room = refl;
  bound = omega (arith, ap length c.requires.none);
  steps = omega (arith, ap length c.requires.none);
}

pub mark-requires-clause-inside : goal.mark-requires-clause-inside
mark-requires-clause-inside g c =
    omega (
      arith,
      c.requires.within _ (Contains-get_or c.args.starts.now c.loop-start.start-index 0 (omega arith)),
      c.loop-start.invariant.room,
    )

pub mark-requires-clause-bound : goal.mark-requires-clause-bound
mark-requires-clause-bound g c = c.loop-start.invariant.bound

pub loop-start-preserved : goal.loop-start-preserved
loop-start-preserved g c =
    let m = c.in_ok-mark.ensures in
    record {
      only = starts_only c.args.starts.now c.loop-start.invariant.only
          (Contains-get_or c.args.starts.now c.loop-start.start-index 0 (omega arith)) m.ok;
      all = starts_all c.args.starts.now c.loop-start.start-index _ (omega arith) refl c.loop-start.invariant.all m.ok;
      room = omega (arith, m.room, c.loop-start.invariant.room);
      bound = m.bound;
      steps = omega (arith, m.steps, c.loop-start.invariant.steps);
    }

pub returns-clause-only : goal.returns-clause-only
returns-clause-only g c = c.loop-start.invariant.only

pub returns-clause-all : goal.returns-clause-all
returns-clause-all g c n h =
    c.loop-start.invariant.all n
    (subst (λ l. Contains l n) (sym (take_all c.args.starts.now c.loop-start.start-index (omega arith))) h)
