-- Worked cases of chains: which crates count, and which lie in a tree.
use Rattle.std.proofs.Common.{◌≡◌, ◌∙◌, ℕ, zero, suc, List, [], ◌∷◌, true, false, inl, inr, Some, codes, refl}
use Rattle.std.proofs.Common.{sym, ap, arith, subst}
use Rattle.std.specs.Prelude.{Contains}
use Rattle.deny_base_lists.proofs.Members.{Contains-by_cases, Contains-first, Contains-rest, no_member}
use Rattle.deny_base.specs.Edge.{kind_number}
use Rattle.deny_base.specs.declared.edge.DepKind.TheVariants.{Build, Dev}
use Rattle.deny_base.specs.declared.edge.Edge.{Edge}
use Rattle.deny_spec.specs.Counting.{Chain, Counts, IsReachedWithout, edges_without, is_of_kind}
use Rattle.deny_spec.specs.Graph.{Crate, Graph}
use Rattle.deny_spec.specs.Match.{matches}
use Rattle.deny_spec.specs.Roots.{IsInTree}
use Rattle.deny_spec_report.proofs.Cases.{app, crate, crate_of, dev_edge, edge, graph, span, root_of, spec_at}

unfoldable pub x_kept : Crate
x_kept = crate 1 (codes "x") 1

unfoldable pub y_kept : Crate
y_kept = crate 2 (codes "y") 1

-- `app` needs `x` for its tests, and `x` needs `y`
unfoldable pub tested : Graph
tested = graph (x_kept ∷ y_kept ∷ []) (dev_edge 0 1 ∷ edge 1 2 ∷ [])

for_the_build : Edge
for_the_build = record (edge 0 1) { kind = Build }

-- `app` needs `x` to be built, and `x` needs `y`
built : Graph
built = graph (x_kept ∷ y_kept ∷ []) (for_the_build ∷ edge 1 2 ∷ [])

built_edges : edges_without Dev built ≡ for_the_build ∷ edge 1 2 ∷ []
unfolding built graph for_the_build edge is_of_kind kind_number
built_edges = refl

tested_edges : edges_without Dev tested ≡ edge 1 2 ∷ []
unfolding tested graph edge dev_edge is_of_kind kind_number
tested_edges = refl

-- a member counts, as no edge leads from it to itself
member_counts : Counts false tested app
unfolding tested graph app crate_of
member_counts = inr (record { member = 0; length = 0; is_member = Contains-first 0 []; chain = refl })

-- a chain of two edges, one of them of a build script
through_a_build : Chain (for_the_build ∷ edge 1 2 ∷ []) 0 2 2
unfolding for_the_build edge
through_a_build = (
  for_the_build,
  Contains-first for_the_build (edge 1 2 ∷ []),
  refl,
  (edge 1 2, Contains-rest for_the_build (edge 1 2 ∷ []) (edge 1 2) (Contains-first (edge 1 2) []), refl, refl),
)

y_counts : Counts false built y_kept
unfolding built graph y_kept crate crate_of
y_counts = inr (record {
  member = 0;
  length = 2;
  is_member = Contains-first 0 [];
  chain = subst (λ (edges : List Edge). Chain edges 0 2 2) (sym built_edges) through_a_build;
})

-- what is needed for tests alone counts only where that is asked for
begins_at_one : (e : Edge) → Contains (edge 1 2 ∷ []) e → e.parent ≡ 0 → ⊥
unfolding edge
begins_at_one e is from = Contains-by_cases (edge 1 2) [] e is
    (λ same. absurd (cc (sym (ap (λ (d : Edge). d.parent) same) ∙ refl, from)))
    (λ none. absurd (no_member e none))

no_chain : (member n place : ℕ) → member ≡ 0 → Chain (edge 1 2 ∷ []) member (suc place) n → ⊥
no_chain member zero place is_app is = omega (arith, is_app, is)
no_chain member (suc n) place is_app (e, is, from, rest) = begins_at_one e is (from ∙ is_app)

members_of : (reached : IsReachedWithout Dev tested 1) → Contains (0 ∷ []) reached.member
unfolding tested graph
members_of reached = reached.is_member

pub x_does_not : Counts false tested x_kept → ⊥
unfolding x_kept crate crate_of
x_does_not (inl asked) = absurd (cc asked)
x_does_not (inr reached) = no_chain reached.member reached.length 0
    (Contains-by_cases 0 [] reached.member (members_of reached) (λ e. sym e)
    (λ none. absurd (no_member reached.member none)))
    (subst (λ (edges : List Edge). Chain edges reached.member 1 reached.length) tested_edges reached.chain)

x_counts_too : Counts true tested x_kept
x_counts_too = inl refl

-- a tree reaches through edges of every kind
in_its_tree : IsInTree tested (record (root_of (codes "app") 20) { depth = Some 2 }) x_kept
unfolding tested graph root_of spec_at span app x_kept crate crate_of dev_edge matches
in_its_tree = record {
  root = app;
  known = Contains-first app (x_kept ∷ y_kept ∷ []);
  matched = refl;
  edges = 1;
  near = omega arith;
  chain = (dev_edge 0 1, Contains-first (dev_edge 0 1) (edge 1 2 ∷ []), refl, refl);
}
