use Rattle.std.proofs.Common.{◌++◌, map, sym, ap, ◌∙◌, append-nil, string_bytes}
use Rattle.deny_rules_features.proofs.NameLemmas.{are_names}
use Rattle.deny_rules_features.proofs.steps.names_of.Goals as goal

pub returns : goal.returns
returns c =
    are_names c.features.inside.tree c.args.features.now c.loop-name.names c.features.view_is
    (sym (append-nil c.loop-name.names)
    ∙ (ap (λ ks. c.loop-name.names ++ map string_bytes ks) (sym c.in-None.ensures.steps.0)
    ∙ (c.loop-name.invariant
    ∙ ap (map string_bytes) (c.into_iter-name-iterator.ensures.into_iter_gives ∙ c.keys-name-items.ensures.rest))))
