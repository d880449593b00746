use Rattle.std.proofs.Common.{◌≡◌, ◌∙◌, ap, ℕ, List, None, Some, Option, subst}
use Rattle.std.specs.Prelude.{Contains, MatchOption, slice_get}
use Rattle.std.specs.Borrow.{Bor}
use Rattle.deny_spec.specs.Graph.{Graph}
use Rattle.deny_krates_graph.specs.Crates.{crate_view}
use Rattle.deny_krates_graph.specs.Ids.{crate_of}
use Rattle.deny_krates_graph.specs.declared.ids.IdEntry.{IdEntry}
use Rattle.deny_krates_graph.specs.declared.krate.Krate.{Krate}
use Rattle.deny_krates_graph.proofs.IdsLemmas.{krate_answers, no_crate}
use Rattle.deny_krates.proofs.GetLemmas.{got, match_none}
use Rattle.deny_krates_graph.proofs.OrderlyLemmas.{apart_of}
use Rattle.deny_krates.proofs.krates.Krates.node_for_kid.Goals as goal

-- the clause of the call, for a graph
abbrev Answers : List ℕ → Option (Bor Krate) → Graph → Type 0
Answers id r g = MatchOption r (crate_of g id ≡ None)
    (λ k. (place : ℕ) × (crate_of g id ≡ Some (crate_view place k.now)))

pub returns-in_err-place : goal.returns-in_err-place
returns-in_err-place c =
    let k = c.self.inside in
    let id = c.args.kid.now.0 in
    let none = subst (λ (t : List ℕ). (e : IdEntry) → Contains k.ids e → e.id ≡ t → ⊥) c.as_str.ensures
    (subst (λ (es : List IdEntry). (e : IdEntry) → Contains es e → e.id ≡ c.as_str.result.now → ⊥) c.as_slice.ensures
    c.in_err-place.ensures.none) in
    subst (λ (g : Graph). Answers id c.from_residual.result g) c.self.view_is
    (match_none _ _ c.from_residual.result c.from_residual.ensures
    (no_crate k.target_edges k.root k.krates k.members k.edges k.ids
    (apart_of k.target_edges k.root k.krates k.members k.edges c.self.invariant.orderly) c.self.invariant.ids id none))

pub returns : goal.returns
returns c =
    let k = c.self.inside in
    let id = c.args.kid.now.0 in
    let place = c.in_ok-place.place in
    let found = subst (λ (t : List ℕ). Contains k.ids (record { id = t; place = place })) c.as_str.ensures
    (subst (λ (es : List IdEntry). Contains es (record { id = c.as_str.result.now; place = place })) c.as_slice.ensures
    c.in_ok-place.ensures.found) in
    subst (λ (g : Graph). Answers id c.get.result g) c.self.view_is
    (krate_answers k.target_edges k.root k.krates k.members k.edges k.ids
    (apart_of k.target_edges k.root k.krates k.members k.edges c.self.invariant.orderly) c.self.invariant.ids id place
    c.get.result
    found
    (got c.as_slice-2.result.now place c.get.result c.get.ensures.lookup.3 ∙ ap
    (λ (ks : List Krate). slice_get ks place) c.as_slice-2.ensures))
