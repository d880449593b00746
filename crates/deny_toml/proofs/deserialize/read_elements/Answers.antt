use Rattle.std.proofs.Common.{◌≡◌, [], sym, ◌∙◌}
use Rattle.deny_toml_tree.proofs.FaultLaws.{none_listed, in_order-none}
use Rattle.deny_toml.proofs.deserialize.read_elements.Goals as goal

pub returns-then-len-eq0-clause-ok : goal.returns-then-len-eq0-clause-ok
returns-then-len-eq0-clause-ok g c =
    let none : c.in_ok-items.faults ≡ [] = none_listed c.in_ok-items.faults _ _ c.in_ok-put_faults_in_order.ensures
    c.len.ensures c.if-len-eq0.true in
    (in_order-none _ (sym c.in_ok-items.ensures.faults ∙ none), c.in_ok-items.ensures.items none)
