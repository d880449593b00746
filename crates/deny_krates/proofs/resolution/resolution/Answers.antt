use Rattle.std.proofs.Common.{◌≡◌, ◌≤◌, ◌<◌, ◌∙◌, ℕ, List, true, ap, subst, sym}
use Rattle.std.specs.Prelude.{find, option_map}
use Rattle.std.specs.Option.{option_or}
use Rattle.deny_krates_graph.specs.Crates.{crates_from, dependency_view}
use Rattle.deny_spec.specs.Groups.{has_name}
use Rattle.deny_spec.specs.Resolution.{passes_at, suits}
use Rattle.deny_spec.specs.declared.target_edge.TargetEdge.{TargetEdge}
use Rattle.deny_krates.proofs.ResolutionLemmas.{resolution_is}
use Rattle.deny_krates.proofs.resolution.resolution.Goals as goal

pub returns-in-Some : goal.returns-in-Some
returns-in-Some c g same_crates same_edges =
    let own = c.edges_between-own.result.now in
    let crates = crates_from 0 c.args.krates.now in
    let d = dependency_view c.args.declaration.now in
    sym (resolution_is g c.args.parent c.run_of-named.result.start c.run_of-named.result.end d crates c.args.edges.now
    own same_crates same_edges
    c.edges_between-own.ensures (subst
    (λ (t : List ℕ). (place : ℕ) → passes_at (has_name t) crates place ≡ true
    → (c.run_of-named.result.start ≤ place) × (place < c.run_of-named.result.end)) c.as_str.ensures
    c.run_of-named.ensures.all)
    ∙ ap (λ o. option_or o (option_map (λ (e : TargetEdge). e.child) (find (suits crates d) own)))
    (sym c.in-Some.ensures))

pub returns-in-None : goal.returns-in-None
returns-in-None c g same_crates same_edges =
    let own = c.edges_between-own.result.now in
    let crates = crates_from 0 c.args.krates.now in
    let d = dependency_view c.args.declaration.now in
    c.first_suiting.ensures
    ∙ sym (resolution_is g c.args.parent c.run_of-named.result.start c.run_of-named.result.end d crates c.args.edges.now
    own same_crates same_edges
    c.edges_between-own.ensures (subst
    (λ (t : List ℕ). (place : ℕ) → passes_at (has_name t) crates place ≡ true
    → (c.run_of-named.result.start ≤ place) × (place < c.run_of-named.result.end)) c.as_str.ensures
    c.run_of-named.ensures.all)
    ∙ ap (λ o. option_or o (option_map (λ (e : TargetEdge). e.child) (find (suits crates d) own)))
    (sym c.in-None.ensures))
