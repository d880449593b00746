use Rattle.std.proofs.Common.{sym, ap, ◌∙◌}
use Rattle.std.specs.FinMap as finite
use Rattle.deny_base_lists.proofs.TextMapLemmas.{get-map_of, remove-map_of}
use Rattle.deny_base_lists.proofs.text_map.TextMap.remove.Goals as goal

pub returns-clause-value : goal.returns-clause-value
returns-clause-value g c =
    c.remove.ensures.value ∙ sym (get-map_of c.self.inside.tree c.args.key.now)
    ∙ ap (λ m. finite.get m c.args.key.now) c.self.view_is

pub returns-clause-after : goal.returns-clause-after
returns-clause-after g c =
    remove-map_of c.self.inside.tree c.remove.new.self c.args.key.now c.remove.ensures.updates
    ∙ ap (λ m. finite.remove m c.args.key.now) c.self.view_is
