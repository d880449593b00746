use Rattle.std.proofs.Common.{◌∙◌, ap}
use Rattle.deny_std_table.specs.Width.{width_of}
use Rattle.deny_std_table.specs.Region.{bounds}
use Rattle.deny_std_table.specs.Item.{items_of}
use Rattle.deny_std_table.proofs.ReplacementLemmas.{iter_all}
use Rattle.deny_std_table.proofs.replacement.Replacement.iter.Goals as goal

pub invariant_of-result : goal.invariant_of-result
invariant_of-result c =
    let r = c.self.inside in
    (iter_all (bounds (width_of r.region.width) r.region.bytes.now r.region.stop) r.counts r.at c.self.invariant).0

pub returns-clause-items : goal.returns-clause-items
returns-clause-items c =
    let r = c.self.inside in
    (iter_all (bounds (width_of r.region.width) r.region.bytes.now r.region.stop) r.counts r.at c.self.invariant).1
    ∙ ap (λ v. items_of v.items) c.self.view_is
