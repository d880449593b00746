use Rattle.std.proofs.Common.{arith, sym, ◌∙◌, ◌+◌, ◌-◌, ◌/◌, ◌<◌, length}
use Rattle.deny_base_lists.proofs.SearchLemmas.{record_at, above_middle, below_middle, named_equal}
use Rattle.deny_base_lists.proofs.search.halve.Goals as goal

pub returns-in-Less-clause-ok : goal.returns-in-Less-clause-ok
returns-in-Less-clause-ok g c =
    let middle = c.args.low + (c.args.high - c.args.low) / 2 in
    let inside : middle < length c.args.records.now = omega (arith, c.requires.some, c.requires.between.inside) in
    record {
      between = above_middle c.requires.ascend (omega (arith, c.requires.some))
          (record_at c.args.records.now inside c.index-records-middle.is)
          (sym c.compare.ensures ∙ c.in-Less.is) c.requires.between;
      half = omega (arith, c.requires.some);
      fewer = omega (arith, c.requires.some);
    }

pub returns-in-Greater-clause-ok : goal.returns-in-Greater-clause-ok
returns-in-Greater-clause-ok g c =
    let middle = c.args.low + (c.args.high - c.args.low) / 2 in
    let inside : middle < length c.args.records.now = omega (arith, c.requires.some, c.requires.between.inside) in
    record {
      between = below_middle c.requires.ascend (omega (arith, c.requires.some)) (omega (arith, c.requires.some))
          (record_at c.args.records.now inside c.index-records-middle.is)
          (sym c.compare.ensures ∙ c.in-Greater.is) c.requires.between;
      half = omega (arith, c.requires.some);
      fewer = omega (arith, c.requires.some);
    }

pub returns-in-Equal-clause-ok : goal.returns-in-Equal-clause-ok
returns-in-Equal-clause-ok g c =
    let middle = c.args.low + (c.args.high - c.args.low) / 2 in
    let inside : middle < length c.args.records.now = omega (arith, c.requires.some, c.requires.between.inside) in
    named_equal (record_at c.args.records.now inside c.index-records-middle.is) (sym c.compare.ensures
    ∙ c.in-Equal.is)
