use Rattle.std.proofs.Common.{◌≡◌, [], length, sym, ap, ◌∙◌, subst, arith, rules}
use Rattle.std.specs.Vec.Iter.{into_iter_items, into_iter_len}
use Rattle.deny_toml_tree.specs.Tree as spec
use Rattle.deny_toml_tree.specs.private.Gathered.{IsGrouped}
use Rattle.deny_toml_tree.proofs.TreeLaws.{grouped_none, taken_all}
use Rattle.deny_toml_tree.proofs.lines.groups.Goals as goal

pub steps-init : goal.steps-init
steps-init c = subst (λ es. IsGrouped [] es) (sym c.new-found.ensures.empty) grouped_none

pub steps-preserved : goal.steps-preserved
steps-preserved c = c.in_ok-add_to_group.ensures c.steps.yielded c.steps.invariant

pub returns : goal.returns
returns c =
    let at = c.steps in
    let all = c.into_iter-name-iterator.ensures.into_iter_gives.0 ∙ c.steps-2.view_is in
    let count : into_iter_len c.into_iter-name-iterator.result ≡ length
    (into_iter_items c.into_iter-name-iterator.result) = first_of (search rules, omega arith, grind arith) in
    let seen : at.yielded ≡ c.args.steps =
    taken_all c.into_iter-name-iterator.result at.yielded at.name-iterator c.args.steps at.yielded_by all
    (count ∙ ap length all) c.in-None.ensures.steps.0 in
    at.invariant.is ∙ ap spec.groups seen
