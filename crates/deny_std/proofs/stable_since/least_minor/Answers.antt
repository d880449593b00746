use Rattle.std.proofs.Common.{sym, ap, ◌∙◌}
use Rattle.deny_std_table.specs.Spelling.{items_text}
use Rattle.deny_std.proofs.SaidLemmas.{entry-said}
use Rattle.deny_std.proofs.StableLemmas.{all-stable, any_stable}
use Rattle.deny_std.proofs.stable_since.least_minor.Goals as goal

pub loop-item-init : goal.loop-item-init
loop-item-init c = λ minor.
    let e = c.args.replacement.now in
    sym (ap (any_stable minor) (entry-said e c.iter-items.result c.iter-items.ensures.bytes c.iter-items.ensures.items)
    ∙ all-stable minor (items_text e.bytes e.items))
