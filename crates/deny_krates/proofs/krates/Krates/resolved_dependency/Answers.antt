use Rattle.std.proofs.Common.{◌≡◌, ◌<◌, ◌^◌, ◌∙◌, length, ap, sym, subst, ℕ, List, Option, Some, None}
use Rattle.std.specs.Prelude.{slice_get}
use Rattle.std.specs.Option.{option_and_then}
use Rattle.std.specs.List.Sorted.{IsSortedByKey, IsStrictlySortedBy}
use Rattle.std.specs.Cmp.Lexicographic.{slice_cmp}
use Rattle.std.specs.Ordering.{nat_cmp}
use Rattle.deny_spec.specs.Graph.{Crate, Dependency, Graph}
use Rattle.deny_spec.specs.Resolution.{declaration_at, resolution}
use Rattle.deny_spec.specs.TargetEdge.{target_edge_cmp}
use Rattle.deny_spec.specs.declared.target_edge.TargetEdge.{TargetEdge}
use Rattle.deny_krates_graph.specs.Crates.{crates_from, dependency_view, graph_of}
use Rattle.deny_krates_graph.specs.declared.krate.Krate.{Krate}
use Rattle.deny_krates.proofs.krates.Krates.resolved_dependency.Goals as goal

-- the clause of the call, for a graph
abbrev Answers : ℕ → ℕ → Option ℕ → Graph → Type 0
Answers place index r g = r ≡ option_and_then (resolution g place) (declaration_at g place index)

-- the declaration at an index of the crate at a place, by the crates in code
abbrev IsDeclaration : ℕ → ℕ → Option Dependency → List Krate → Type 0
IsDeclaration place index d ks =
    d ≡ option_and_then (λ (x : Crate). slice_get x.deps index) (slice_get (crates_from 0 ks) place)

pub returns-in_err-declaration : goal.returns-in_err-declaration
returns-in_err-declaration c =
    let k = c.self.inside in
    let g = graph_of k.target_edges k.root k.krates k.members k.edges in
    let none : IsDeclaration c.args.place c.args.index None k.krates = subst
    (λ (ks : List Krate). IsDeclaration c.args.place c.args.index None ks) c.as_slice-krates.ensures
    c.in_err-declaration.ensures in
    subst (λ (h : Graph). Answers c.args.place c.args.index c.from_residual.result h) c.self.view_is
    (c.from_residual.ensures ∙ ap (option_and_then (resolution g c.args.place)) none)

pub resolution-requires-clause-few : goal.resolution-requires-clause-few
resolution-requires-clause-few c = subst (λ (ks : List Krate). length ks < 2 ^ 28) (sym c.as_slice-krates.ensures)
    c.self.invariant.few

pub resolution-requires-clause-names : goal.resolution-requires-clause-names
resolution-requires-clause-names c =
    subst (λ (ks : List Krate). IsSortedByKey (λ k. k.name) (slice_cmp nat_cmp) ks) (sym c.as_slice-krates.ensures)
    c.self.invariant.names

pub resolution-requires-clause-edges : goal.resolution-requires-clause-edges
resolution-requires-clause-edges c =
    subst (λ (ts : List TargetEdge). IsStrictlySortedBy target_edge_cmp ts) (sym c.as_slice.ensures)
    c.self.invariant.orderly.target_edges_ascend

pub returns : goal.returns
returns c =
    let k = c.self.inside in
    let g = graph_of k.target_edges k.root k.krates k.members k.edges in
    let d = dependency_view c.in_ok-declaration.declaration.now in
    let is : IsDeclaration c.args.place c.args.index (Some d) k.krates = subst
    (λ (ks : List Krate). IsDeclaration c.args.place c.args.index (Some d) ks) c.as_slice-krates.ensures
    c.in_ok-declaration.ensures in
    subst (λ (h : Graph). Answers c.args.place c.args.index c.resolution.result h) c.self.view_is
    (c.resolution.ensures g (ap (λ (ks : List Krate). crates_from 0 ks) (sym c.as_slice-krates.ensures))
    (sym c.as_slice.ensures) ∙ ap (option_and_then (resolution g c.args.place)) is)
