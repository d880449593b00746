use Rattle.std.proofs.Common.{ℕ, List, Contains, nat_cmp, subst}
use Rattle.deny_base_lists.specs.Ascending.{Lists}
use Rattle.deny_rules_crates.proofs.HitLemmas.{by_place}
use Rattle.deny_rules_crates.proofs.hits.dependents_by_place.Goals as goal

pub returns : goal.returns
returns c =
    let g = c.args.krates.now in
    by_place g c.args.place c.direct_dependents.result.now c.are_placed.ensures c.direct_dependents.ensures
    c.put_in_order.new.list (subst (λ (old : List ℕ). Lists nat_cmp
    (Contains old) c.put_in_order.new.list) c.in_ok-places.ensures c.in_ok-put_in_order.ensures.ok)
