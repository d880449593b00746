use Rattle.std.proofs.Common.{◌∙◌, arith, refl, sym}
use Rattle.std.specs.Ordering.{nat_cmp}
use Rattle.deny_build_scan.proofs.OrderLemmas.{cmp_end, cmp_on, cmp_here}
use Rattle.deny_build_scan.proofs.order.rest_cmp.Goals as goal

pub loop-index-init : goal.loop-index-init
loop-index-init c = refl

pub returns-then-a-index : goal.returns-then-a-index
returns-then-a-index c =
    c.cmp.ensures ∙ (λ i. nat_cmp (c.rank.ensures i) (c.rank-then-a-index.ensures i))
    ∙ sym (c.loop-index.invariant ∙ cmp_here c.args.a.now c.args.b.now c.loop-index.index
    (omega (arith, c.loop-index-test.true, c.min-both.ensures))
    (omega (arith, c.loop-index-test.true, c.min-both.ensures)) c.if-a-index.true)

pub loop-index-preserved : goal.loop-index-preserved
loop-index-preserved c =
    c.loop-index.invariant ∙ cmp_on c.args.a.now c.args.b.now c.loop-index.index
    (omega (arith, c.loop-index-test.true, c.min-both.ensures))
    (omega (arith, c.loop-index-test.true, c.min-both.ensures)) c.if-a-index.false

pub returns : goal.returns
returns c =
    c.cmp-2.ensures ∙ sym (c.loop-index.invariant ∙ cmp_end c.args.a.now c.args.b.now c.loop-index.index
    (omega (arith, c.loop-index-test.false, c.loop-index.auto.index-end, c.min-both.ensures)))
