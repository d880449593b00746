use Rattle.std.proofs.Common.{◌≡◌, List, Bool, length, map, sym, ap, ◌∙◌, subst}
use Rattle.std.specs.Prelude.{option_and_then}
use Rattle.std.proofs.lemmas.Bool.{eqb-true}
use Rattle.std.proofs.lemmas.Result.{IfOk-weaker}
use Rattle.deny_rules_match.specs.private.Marks.{IsTreeOf, is_near}
use Rattle.deny_rules_match.proofs.FactLemmas.{roots_within, tree_by_distances, tree_of_none}
use Rattle.deny_rules_match.proofs.facts.tree_of.Goals as goal

pub returns-then-is_empty : goal.returns-then-is_empty
returns-then-is_empty c =
    let g = c.args.krates.now in
    let roots = c.args.roots.now in
    subst (λ (marks : List Bool). IsTreeOf g c.args.entry.now marks) (sym c.new.ensures)
    (tree_of_none g c.args.entry.now roots c.are_placed.ensures c.requires
    (eqb-true (length roots) 0 (sym c.is_empty.ensures ∙ c.if-is_empty.true)))

pub distances_from-requires : goal.distances_from-requires
distances_from-requires c =
    roots_within c.args.krates.now c.args.entry.now c.args.roots.now c.are_placed.ensures c.requires

pub returns : goal.returns
returns c =
    let g = c.args.krates.now in
    let entry = c.args.entry.now in
    let distances = c.in_ok-distances.distances in
    IfOk-weaker c.near.result (λ marks. marks ≡ map (is_near c.depth_of.result) c.as_slice.result.now)
    (IsTreeOf g entry)
    (λ marks is.
    tree_by_distances g entry c.args.roots.now c.are_placed.ensures c.requires distances marks c.in_ok-distances.ensures
    (is ∙ (ap (λ depth. map (is_near depth) c.as_slice.result.now) c.depth_of.ensures
    ∙ ap (map (is_near (option_and_then (λ skip. skip.depth) entry.inner))) c.as_slice.ensures)))
    c.near.ensures
