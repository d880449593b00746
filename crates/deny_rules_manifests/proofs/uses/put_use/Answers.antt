use Rattle.std.proofs.Common.{◌++◌, ◌∷◌, [], ap, ◌∙◌}
use Rattle.std.proofs.lemmas.List.{get_or_read}
use Rattle.deny_rules_manifests.proofs.RowLemmas.{one_put}
use Rattle.deny_rules_manifests.proofs.uses.put_use.Goals as goal

pub returns-clause-put : goal.returns-clause-put
returns-clause-put c = λ uses crates are.
    let rows = c.args.rows.now.items in
    let place = c.args.one.dep.now.place in
    one_put crates uses rows c.push.new.self c.args.one c.requires
    (c.in_ok-push.ensures.ok ∙ ap (λ row. row ++ c.args.one ∷ [])
    (get_or_read rows place c.index_mut-row.result.now c.requires c.index_mut-row.ensures.value [])) are
