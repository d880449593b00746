use Rattle.std.proofs.Common.{sym, ap, ◌∙◌}
use Rattle.std.specs.FinMap as finite
use Rattle.deny_base_lists.proofs.TextMapLemmas.{get-map_of}
use Rattle.deny_base_lists.proofs.text_map.TextMap.get.Goals as goal

pub returns : goal.returns
returns g c =
    c.get.ensures.value ∙ sym (get-map_of c.self.inside.tree c.args.key.now)
    ∙ ap (λ m. finite.get m c.args.key.now) c.self.view_is
