use Rattle.std.proofs.Common.{◌∙◌, sym}
use Rattle.deny_std_table.specs.Width.{width_of}
use Rattle.deny_std_table.specs.Region.{bounds}
use Rattle.deny_std_table.proofs.ReplacementLemmas.{open_name, open_counts, open_items, open_holds}
use Rattle.deny_std_table.proofs.replacement.Replacement.open.Goals as goal

pub unwrap-name-requires : goal.unwrap-name-requires
unwrap-name-requires c =
    open_name (bounds (width_of c.args.region.now.width) c.args.region.now.bytes.now c.args.region.now.stop)
    c.args.start _ c.requires c.text.ensures.value

pub unwrap-counts-requires : goal.unwrap-counts-requires
unwrap-counts-requires c =
    open_counts (bounds (width_of c.args.region.now.width) c.args.region.now.bytes.now c.args.region.now.stop)
    c.args.start c.unwrap-name.result _ c.requires
    (sym c.text.ensures.value ∙ c.unwrap-name.ensures) c.counts.ensures

pub invariant_of-result : goal.invariant_of-result
invariant_of-result c =
    open_holds (bounds (width_of c.args.region.now.width) c.args.region.now.bytes.now c.args.region.now.stop)
    c.args.start c.unwrap-name.result c.unwrap-counts.result c.requires
    (sym c.text.ensures.value ∙ c.unwrap-name.ensures) (sym c.counts.ensures ∙ c.unwrap-counts.ensures)

pub returns-clause-items : goal.returns-clause-items
returns-clause-items c = λ e is.
    (open_items (bounds (width_of c.args.region.now.width) c.args.region.now.bytes.now c.args.region.now.stop)
    c.args.start c.unwrap-name.result c.unwrap-counts.result e is
    (sym c.text.ensures.value ∙ c.unwrap-name.ensures) (sym c.counts.ensures ∙ c.unwrap-counts.ensures)).1
