use Rattle.std.proofs.Common.{◌+◌, ◌-◌, ◌/◌, ◌<◌, arith, sym, ap, ◌∙◌}
use Rattle.std.specs.Cmp.Lexicographic.{slice_cmp}
use Rattle.std.specs.Ordering.{nat_cmp}
use Rattle.deny_std_table.specs.Width.{width_of}
use Rattle.deny_std_table.proofs.NamesLemmas.{below_found, above_found, found, not_found}
use Rattle.deny_std_table.proofs.names.find.Goals as goal

pub loop-low-preserved-in-Less : goal.loop-low-preserved-in-Less
loop-low-preserved-in-Less c =
    let middle = c.loop-low.low + (c.loop-low.high - c.loop-low.low) / 2 in
    let inside : middle < c.args.count = omega arith in
    record {
      ordered = omega arith;
      inside = c.loop-low.invariant.inside;
      below = below_found (width_of c.args.width) c.args.bytes.now c.args.count middle c.args.name.now c.requires inside
          (ap (λ n. slice_cmp nat_cmp n c.args.name.now) (sym c.name_at.ensures) ∙ sym c.in-Less.ensures);
      above = c.loop-low.invariant.above;
    }

pub returns-in-Equal : goal.returns-in-Equal
returns-in-Equal c = (
  omega arith,
  found _ _ (ap (λ n. slice_cmp nat_cmp n c.args.name.now) (sym c.name_at.ensures) ∙ sym c.in-Equal.ensures),
)

pub loop-low-preserved : goal.loop-low-preserved
loop-low-preserved c =
    let middle = c.loop-low.low + (c.loop-low.high - c.loop-low.low) / 2 in
    record {
      ordered = omega arith;
      inside = omega arith;
      below = c.loop-low.invariant.below;
      above = above_found (width_of c.args.width) c.args.bytes.now c.args.count middle c.args.name.now c.requires
          (ap (λ n. slice_cmp nat_cmp n c.args.name.now) (sym c.name_at.ensures) ∙ sym c.in-Greater.ensures);
    }

pub returns : goal.returns
returns c = not_found (width_of c.args.width) c.args.bytes.now c.args.count c.loop-low.low c.loop-low.high
    c.args.name.now (omega arith)
    c.loop-low.invariant.below c.loop-low.invariant.above
