use Rattle.std.proofs.Common.{◌<◌, ◌∙◌, ap, sym, ℕ, List, [], length, subst}
use Rattle.std.specs.Prelude.{All, fold}
use Rattle.deny_krates_graph.specs.private.Direct.{AreDependents, with_incoming}
use Rattle.deny_krates_graph.specs.declared.direct.IncomingEdge.{IncomingEdge}
use Rattle.deny_krates_graph.proofs.DirectLemmas.{children_inside, rows_are_kept}
use Rattle.deny_base_lists.proofs.Results.{if_ok_both}
use Rattle.deny_krates_graph.proofs.direct.dependents_of.Goals as goal

pub direct_of-requires : goal.direct_of-requires
direct_of-requires c =
    subst (λ (xs : List IncomingEdge). All (λ a. a.child < length c.args.krates.now) xs) (sym c.as_slice.ensures)
    (children_inside c.args.krates.now c.args.ranks.now c.args.edges.now c.in_ok-incoming.incoming c.requires.children
    c.in_ok-incoming.ensures)

pub incoming_edges-requires : goal.incoming_edges-requires
incoming_edges-requires c = subst (λ (n : ℕ). All (λ e. e.parent < n) c.args.edges.now) (sym c.requires.ranks.long)
    c.requires.parents

pub returns : goal.returns
returns c =
    if_ok_both {R = AreDependents c.args.krates.now c.args.edges.now} c.direct_of.result c.direct_of.ensures.long
    c.direct_of.ensures.rows
    (λ rows long are. rows_are_kept c.args.krates.now c.args.ranks.now c.args.edges.now c.in_ok-incoming.incoming rows
    c.requires.ranks
    c.requires.parents c.in_ok-incoming.ensures long
    (λ child below. are child below ∙ ap (λ (xs : List IncomingEdge). fold (with_incoming child) [] xs)
    c.as_slice.ensures))
