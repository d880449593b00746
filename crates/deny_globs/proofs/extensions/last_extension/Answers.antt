use Rattle.std.proofs.Common.{◌-◌, arith, sym, ◌∙◌, subst, None, ◌≡◌, drop}
use Rattle.deny_globs.specs.private.Index.{behind_last_dot}
use Rattle.deny_globs.proofs.SimpleLemmas.{found_dot, no_dot_yet, no_dot_at_end}
use Rattle.deny_globs.proofs.extensions.last_extension.Goals as goal

pub loop-index-init : goal.loop-index-init
loop-index-init c = record { inside = omega arith; none = no_dot_at_end c.args.path.now }

pub returns-then-is_dot_before-clause-found : goal.returns-then-is_dot_before-clause-found
returns-then-is_dot_before-clause-found c =
    let index = c.loop-index.index in
    found_dot c.args.path.now (index - 1) index 0 (omega (arith, c.loop-index-test.true))
    (omega (arith, c.loop-index-test.true, c.loop-index.invariant.inside))
    (sym c.is_dot_before.ensures ∙ c.if-is_dot_before.true) c.loop-index.invariant.none

pub loop-index-preserved : goal.loop-index-preserved
loop-index-preserved c =
    let index = c.loop-index.index in
    record {
      inside = omega (arith, c.loop-index.invariant.inside);
      none =
          no_dot_yet c.args.path.now (index - 1) index 0 (omega (arith, c.loop-index-test.true))
          (omega (arith, c.loop-index-test.true, c.loop-index.invariant.inside))
          (sym c.is_dot_before.ensures ∙ c.if-is_dot_before.false) c.loop-index.invariant.none;
    }

pub returns-clause-none : goal.returns-clause-none
returns-clause-none c =
    let at_start : c.loop-index.index ≡ 0 = omega (arith, c.loop-index-test.false) in
    subst (λ n. behind_last_dot (drop n c.args.path.now) ≡ None) at_start c.loop-index.invariant.none
