use Rattle.std.proofs.Common.{◌∙◌, sym}
use Rattle.deny_krates.proofs.NodeLemmas.{id_of_place, placed}
use Rattle.deny_krates.proofs.ParentLemmas.{to_crate_led, to_crate_not}
use Rattle.deny_krates.proofs.incoming.add_crate_edges_of_kind.Goals as goal

pub returns-in_ok-push_crate : goal.returns-in_ok-push_crate
returns-in_ok-push_crate c x p x_at p_at =
    let g = c.args.krates.now in
    let id = id_of_place g c.args.parent p (placed c.krates-placed.result.now g c.krates-placed.ensures.crates) p_at in
    to_crate_led g p id x c.args.kind c.args.parents.now c.push_crate.new.parents
    (sym c.if-leads_to_crate.true ∙ c.leads_to_crate.ensures x p x_at p_at) (c.in_ok-push_crate.ensures p p_at)

pub returns-else-leads_to_crate : goal.returns-else-leads_to_crate
returns-else-leads_to_crate c x p x_at p_at =
    let g = c.args.krates.now in
    let id = id_of_place g c.args.parent p (placed c.krates-placed.result.now g c.krates-placed.ensures.crates) p_at in
    to_crate_not g p id x c.args.kind c.args.parents.now
    (sym c.if-leads_to_crate.false ∙ c.leads_to_crate.ensures x p x_at p_at)
