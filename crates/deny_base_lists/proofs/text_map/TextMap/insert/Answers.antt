use Rattle.std.proofs.Common.{string_bytes, ◌∙◌}
use Rattle.std.specs.FinMap as finite
use Rattle.deny_base_lists.proofs.TextMapLemmas.{insert-map_of}
use Rattle.deny_base_lists.proofs.text_map.TextMap.insert.Goals as goal

pub returns-clause-ok : goal.returns-clause-ok
returns-clause-ok g c =
    insert-map_of c.self.inside.tree c.insert.new.self (string_bytes c.key.inside.string) c.args.value
    c.in_ok-insert.ensures.updates
    ∙ (λ i. finite.insert (c.self.view_is i) (c.key.view_is i) c.args.value)
