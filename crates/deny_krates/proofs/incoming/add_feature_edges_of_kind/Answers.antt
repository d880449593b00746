use Rattle.deny_krates.proofs.NodeLemmas.{id_of_place, placed}
use Rattle.deny_krates.proofs.ParentLemmas.{to_feature}
use Rattle.deny_krates.proofs.incoming.add_feature_edges_of_kind.Goals as goal

pub returns : goal.returns
returns c x p x_at p_at =
    let g = c.args.krates.now in
    let id = id_of_place g c.args.parent p (placed c.krates-placed.result.now g c.krates-placed.ensures.crates) p_at in
    to_feature g p id x c.args.feature.now c.args.kind c.args.parents.now c.add_asking.new.parents
    c.add_features.new.parents (c.in_ok-add_asking.ensures x p x_at p_at) (c.in_ok-add_features.ensures x p x_at p_at)
