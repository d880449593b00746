-- The rows that are collected from edges are those of the graph, of dependents and of dependencies.
use Rattle.std.proofs.Common.{◌≡◌, ◌<◌, ℕ, List, [], ◌∷◌, Bool, true, false, length, map, refl, sym, ap, ◌∙◌, subst}
use Rattle.std.specs.Prelude.{◌==◌, ◌&&◌, ◌||◌, All, Contains, filter, fold, slice_index_or}
use mathlib.Core.Path.{fun_ext}
use Rattle.std.specs.List.{list_any}
use Rattle.std.proofs.lemmas.List.Elements.{All-contains, All-weaker}
use Rattle.std.proofs.lemmas.Option.{get_or_from_slice_get, slice_get_within, slice_get-get_or}
use Rattle.deny_base_lists.specs.Ascending.{Lists}
use Rattle.deny_base.specs.declared.edge.Edge.{Edge}
use Rattle.deny_spec.specs.Graph.{Crate, dependencies, dependents, leads}
use Rattle.deny_krates_graph.specs.Crates.{crates_from, graph_of}
use Rattle.deny_krates_graph.specs.Dependents.{AreDirectDependencies, AreDirectDependents, AreRows, IsLeastKind}
use Rattle.deny_krates_graph.specs.private.Direct.{AreRanks, incoming_cmp, incoming_of, reversed, with_incoming}
use Rattle.deny_krates_graph.specs.declared.direct.IncomingEdge.{IncomingEdge}
use Rattle.deny_krates_graph.specs.declared.krate.DirectDependent.{DirectDependent}
use Rattle.deny_krates_graph.specs.declared.krate.Krate.{Krate}
use Rattle.deny_krates_graph.proofs.DependentsLemmas.{dependents_are}
use Rattle.deny_base_lists.proofs.Members.{contains_map, from_contains_map, from_there}
use Rattle.deny_krates_graph.proofs.CratesLemmas.{length-crates_from}
use Rattle.deny_spec.specs.declared.target_edge.TargetEdge.{TargetEdge}

pub children_inside : (krates : List Krate) (ranks : List ℕ) (edges : List Edge) (incoming : List IncomingEdge)
    → All (λ e. e.child < length krates) edges → Lists incoming_cmp (Contains (map (incoming_of ranks) edges)) incoming
    → All (λ a. a.child < length krates) incoming
children_inside krates ranks edges incoming children lists k d inside =
    let a = slice_index_or incoming k d in
    let from = from_contains_map (incoming_of ranks) edges a
    (lists.sound a (from_there incoming k a (slice_get-get_or incoming k d inside))) in
    subst (λ (x : IncomingEdge). x.child < length krates) from.2
    (All-contains (λ e. e.child < length krates) edges from.0 children from.1)

-- rows of dependents
pub rows_are_kept : (krates : List Krate) (ranks : List ℕ) (edges : List Edge) (incoming : List IncomingEdge)
    (direct : List (List DirectDependent)) → AreRanks krates ranks → All (λ e. e.parent < length krates) edges
    → Lists incoming_cmp (Contains (map (incoming_of ranks) edges)) incoming → length direct ≡ length krates
    → ((child : ℕ) → child < length krates → slice_index_or direct child [] ≡ fold (with_incoming child) [] incoming)
    → (targeted : List TargetEdge) (root members : List ℕ)
    → AreRows (graph_of targeted root krates members edges)
    (AreDirectDependents (graph_of targeted root krates members edges)) direct
rows_are_kept krates ranks edges incoming direct are parents lists long rows targeted root members = record {
  length = long ∙ sym (length-crates_from 0 krates);
  each = λ place row at.
      let inside : place < length krates = subst (λ (n : ℕ). place < n) long (slice_get_within direct place row at) in
      subst (λ (r : List DirectDependent). AreDirectDependents (graph_of targeted root krates members edges) place r)
      (sym (rows place inside) ∙ get_or_from_slice_get direct place row [] at)
      (dependents_are targeted root krates members edges incoming ranks are lists parents place);
}

-- ---- rows of dependencies

and_comm : (a b : Bool) → (a && b) ≡ (b && a)
and_comm true true = refl
and_comm true false = refl
and_comm false true = refl
and_comm false false = refl

any_reversed : (a b : ℕ) (edges : List Edge) → list_any (leads a b) (map reversed edges) ≡ list_any (leads b a) edges
unfolding leads
any_reversed a b [] = refl
any_reversed a b (e ∷ edges) =
    ap (λ r. r || list_any (leads a b) (map reversed edges)) (and_comm (e.child == a) (e.parent == b))
    ∙ ap (λ r. ((e.parent == b) && (e.child == a)) || r) (any_reversed a b edges)

dependents_reversed : (targeted : List TargetEdge) (root : List ℕ) (krates : List Krate) (members : List ℕ)
    (edges : List Edge) (place : ℕ)
    → dependents (graph_of targeted root krates members (map reversed edges)) place ≡ dependencies
    (graph_of targeted root krates members edges) place
unfolding dependents dependencies
dependents_reversed targeted root krates members edges place =
    ap (λ (p : Crate → Bool). filter p (crates_from 0 krates))
    (fun_ext (λ (c : Crate). any_reversed c.place place edges))

reversed_back : (edges : List Edge) (e : Edge) → Contains (map reversed edges) (reversed e) → Contains edges e
reversed_back edges e holds =
    let from = from_contains_map reversed edges (reversed e) holds in
    subst (λ (x : Edge). Contains edges x) (ap reversed from.2) from.1

reversed_row : (targeted : List TargetEdge) (root : List ℕ) (krates : List Krate) (members : List ℕ) (edges : List Edge)
    (place : ℕ)
    (row : List DirectDependent)
    → AreDirectDependents (graph_of targeted root krates members (map reversed edges)) place row
    → AreDirectDependencies (graph_of targeted root krates members edges) place row
reversed_row targeted root krates members edges place row are =
    let same = dependents_reversed targeted root krates members edges place in
    record {
      ascending = are.ascending;
      whole = subst (λ (cs : List Crate). All (λ c. Contains (map (λ (d : DirectDependent). d.place) row) c.place) cs)
          same are.whole;
      sound = subst (λ (cs : List Crate). All (λ d. Contains (map (λ (c : Crate). c.place) cs) d.place) row) same
          are.sound;
      kinds = All-weaker (IsLeastKind (map reversed edges)
          (λ parent kind. record { parent = parent; child = place; kind = kind }))
          (IsLeastKind edges (λ child kind. record { parent = place; child = child; kind = kind }))
          (λ d is. record {
            holds = reversed_back edges (record { parent = place; child = d.place; kind = d.kind }) is.holds;
            least = λ kind there_is. is.least kind
                (contains_map reversed edges (record { parent = place; child = d.place; kind = kind }) there_is);
          }) row are.kinds;
    }

pub rows_reversed : (targeted : List TargetEdge) (root : List ℕ) (krates : List Krate) (members : List ℕ)
    (edges : List Edge)
    (rows : List (List DirectDependent))
    → AreRows (graph_of targeted root krates members (map reversed edges))
    (AreDirectDependents (graph_of targeted root krates members (map reversed edges))) rows
    → AreRows (graph_of targeted root krates members edges)
    (AreDirectDependencies (graph_of targeted root krates members edges)) rows
rows_reversed targeted root krates members edges rows are = record {
  length = are.length;
  each = λ place row at. reversed_row targeted root krates members edges place row (are.each place row at);
}
