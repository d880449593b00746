-- Edges of a graph, gathered by the crates that they lead to.
use Rattle.std.proofs.Common.{◌≡◌, ◌⊎◌, ◌<◌, ◌≤◌, ◌+◌, ◌++◌, ℕ, List, [], ◌∷◌, Option, Contains, length, take, map}
use Rattle.std.proofs.Common.{refl, sym, ap, ◌∙◌, subst, inl, inr, add-one}
use Rattle.std.specs.Prelude.{All, slice_index_or}
use Rattle.std.proofs.Math.Seq.{take-suc}
use Rattle.std.proofs.lemmas.List.{map-append, take_all, take_more}
use Rattle.std.proofs.lemmas.List.Elements.{All-contains_itself, All-weaker, Contains-append_left, Contains-push}
use Rattle.std.proofs.lemmas.List.Elements.{Contains-push_cases}
use Rattle.deny_base_lists.specs.Ascending.{Adds, Lists}
use Rattle.deny_base.specs.Edge.{edge_cmp}
use Rattle.deny_base.specs.declared.edge.DepKind.{DepKind}
use Rattle.deny_base.specs.declared.edge.DepKind.TheVariants.{Normal, Dev, Build}
use Rattle.deny_base.specs.declared.edge.Edge.{Edge}
use Rattle.deny_krates.specs.Dependents.{AreDirectDependents}
use Rattle.deny_krates.specs.Orderly.{IsOrderly}
use Rattle.deny_krates.specs.krate.DirectDependent.{DirectDependent}
use Rattle.deny_spec.specs.Graph.{Graph}
use Rattle.deny_rules_dup_edges.specs.private.Above.{AreAbove}
use Rattle.deny_rules_dup_edges.specs.DupEdges.{IsAboveOne}
use Rattle.deny_rules_dup_edges.specs.private.EdgeLists.{IsBetween, IsGivenEdge, IsTo, IsToOne}
use Rattle.deny_rules_match.specs.Placed.{ArePlaced}
use Rattle.deny_base_lists.proofs.Adding.{adds_same, adds_then}
use Rattle.deny_krates.proofs.NeighbourLemmas.{child_holds}
use Rattle.deny_krates.proofs.NeighbourLemmas.{each_needing}
use Rattle.deny_base_lists.proofs.Members.{no_member}

-- ---- the edges from one crate to another: one of each kind at most

abbrev edge_of : ℕ → ℕ → DepKind → Edge
edge_of parent child kind = record { parent = parent; child = child; kind = kind }

edge_is : (e : Edge) (parent child : ℕ) (kind : DepKind) → e.parent ≡ parent → e.child ≡ child → e.kind ≡ kind
    → e ≡ edge_of parent child kind
edge_is e parent child kind from to of = ap (λ n. edge_of n e.child e.kind) from ∙ (ap (λ n. edge_of parent n e.kind) to
    ∙ ap (edge_of parent child) of)

by_kind : (kind : DepKind) → (kind ≡ Normal) ⊎ ((kind ≡ Dev) ⊎ (kind ≡ Build))
by_kind Normal = inl refl
by_kind Dev = inr (inl refl)
by_kind Build = inr (inr refl)

module _ (g : Graph) (parent child : ℕ) where
  between : (kind : DepKind) (e : Edge) → IsGivenEdge g (edge_of parent child kind) e → IsBetween g parent child e
  between kind e is = record {
    holds = is.holds;
    from = ap (λ (d : Edge). d.parent) is.is;
    to = ap (λ (d : Edge). d.child) is.is;
  }

  of_kind : (kind : DepKind) (e : Edge) → IsBetween g parent child e → e.kind ≡ kind
      → IsGivenEdge g (edge_of parent child kind) e
  of_kind kind e is of = record { holds = is.holds; is = edge_is e parent child kind is.from is.to of }

  abbrev OfKind : DepKind → Edge → Type 0
  OfKind kind e = IsGivenEdge g (edge_of parent child kind) e

  pub adds_between : (old one two new : List Edge) → Adds (IsGivenEdge g (edge_of parent child Normal)) old one
      → Adds (IsGivenEdge g (edge_of parent child Dev)) one two
      → Adds (IsGivenEdge g (edge_of parent child Build)) two new
      → Adds (IsBetween g parent child) old new
  adds_between old one two new normal dev build =
      adds_same (λ e. OfKind Normal e ⊎ (OfKind Dev e ⊎ OfKind Build e)) (IsBetween g parent child) old new
      (adds_then (OfKind Normal) (λ e. OfKind Dev e ⊎ OfKind Build e) old one new normal
      (adds_then (OfKind Dev) (OfKind Build) one two new dev build))
      (λ e is. elim is as (λ _. IsBetween g parent child e) [
        | inl n ↦ between Normal e n
        | inr rest ↦ elim rest as
            (λ _. IsBetween g parent child e) [ inl d ↦ between Dev e d | inr b ↦ between Build e b ]
      ])
      (λ e is. elim (by_kind e.kind) as (λ _. OfKind Normal e ⊎ (OfKind Dev e ⊎ OfKind Build e)) [
        | inl n ↦ inl (of_kind Normal e is n)
        | inr rest ↦ elim rest as (λ _. OfKind Normal e ⊎ (OfKind Dev e ⊎ OfKind Build e)) [
          | inl d ↦ inr
              (inl (of_kind Dev e is d))
          | inr b ↦ inr (inr (of_kind Build e is b))
        ]
      ])

-- ---- the edges to a crate, from one of its direct dependents after another

pub record IsFromOne (g : Graph) (child : ℕ) (parents : List ℕ) (e : Edge) : Type 0 where
  pub holds : Contains g.edges e
  pub to : e.child ≡ child
  pub from : Contains parents e.parent

abbrev pub FromFirst : Graph → ℕ → List DirectDependent → ℕ → Edge → Type 0
FromFirst g child ds i = IsFromOne g child (map (λ d. d.place) (take i ds))

from_push : (g : Graph) (child parent : ℕ) (parents : List ℕ) (old mid new : List Edge)
    → Adds (IsFromOne g child parents) old mid → Adds (IsBetween g parent child) mid new
    → Adds (IsFromOne g child (parents ++ parent ∷ [])) old new
from_push g child parent parents old mid new before here =
    adds_same (λ e. IsFromOne g child parents e ⊎ IsBetween g parent child e)
    (IsFromOne g child (parents ++ parent ∷ [])) old new
    (adds_then (IsFromOne g child parents) (IsBetween g parent child) old mid new before here)
    (λ e is. elim is as (λ _. IsFromOne g child (parents ++ parent ∷ []) e) [
      | inl of ↦ record {
        holds = of.holds;
        to = of.to;
        from = Contains-append_left parents (parent ∷ []) e.parent of.from;
      }
      | inr of ↦ record {
        holds = of.holds;
        to = of.to;
        from = subst (Contains (parents ++ parent ∷ [])) (sym of.from) (Contains-push parents parent);
      }
    ])
    (λ e is. elim (Contains-push_cases parents parent e.parent is.from) as
    (λ _. IsFromOne g child parents e ⊎ IsBetween g parent child e) [
      | inl before ↦ inl record { holds = is.holds; to = is.to; from = before }
      | inr last ↦ inr record { holds = is.holds; to = is.to; from = sym last }
    ])

pub from_more : (g : Graph) (child : ℕ) (ds : List DirectDependent) (i : ℕ) (d : DirectDependent)
    (old mid new : List Edge) → i < length ds → d ≡ slice_index_or ds i d
    → Adds (FromFirst g child ds i) old mid → Adds (IsBetween g d.place child) mid new
    → Adds (FromFirst g child ds (i + 1)) old new
from_more g child ds i d old mid new inside is before here =
    let more : map (λ (x : DirectDependent). x.place) (take (i + 1) ds) ≡ map (λ (x : DirectDependent). x.place)
    (take i ds) ++ d.place ∷ [] =
    rw (add-one, take-suc ds i d inside, ← is) (map-append (λ (x : DirectDependent). x.place) (take i ds) (d ∷ [])) in
    subst (λ (ps : List ℕ). Adds (IsFromOne g child ps) old new) (sym more)
    (from_push g child d.place (map (λ x. x.place) (take i ds)) old mid new before here)

pub from_all : (g : Graph) (child : ℕ) (ds : List DirectDependent) (i : ℕ) (old new : List Edge) → ArePlaced g.crates
    → IsOrderly g → AreDirectDependents g child ds → length ds ≤ i
    → Adds (FromFirst g child ds i) old new → Adds (IsTo g child) old new
from_all g child ds i old new placed orderly are past adds =
    adds_same (FromFirst g child ds i) (IsTo g child) old new adds
    (λ e is. record { holds = is.holds; to = is.to })
    (λ e is. record {
      holds = is.holds;
      to = is.to;
      from = subst (λ (xs : List DirectDependent). Contains (map (λ d. d.place) xs) e.parent) (sym (take_all i ds past))
          ((each_needing g placed orderly child ds are e.parent).0 (e, is.holds, refl, is.to));
    })

-- ---- the edges to some crates, crate by crate

to_push : (g : Graph) (child : ℕ) (children : List ℕ) (old mid new : List Edge) → Adds (IsToOne g children) old mid
    → Adds (IsTo g child) mid new → Adds (IsToOne g (children ++ child ∷ [])) old new
to_push g child children old mid new before here =
    adds_same (λ e. IsToOne g children e ⊎ IsTo g child e) (IsToOne g (children ++ child ∷ [])) old new
    (adds_then (IsToOne g children) (IsTo g child) old mid new before here)
    (λ e is. elim is as (λ _. IsToOne g (children ++ child ∷ []) e) [
      | inl of ↦ record { holds = of.holds; to = Contains-append_left children (child ∷ []) e.child of.to }
      | inr of ↦ record {
        holds = of.holds;
        to = subst (Contains (children ++ child ∷ [])) (sym of.to)
            (Contains-push children child);
      }
    ])
    (λ e is. elim (Contains-push_cases children child e.child is.to) as (λ _. IsToOne g children e ⊎ IsTo g child e) [
      | inl before ↦ inl record { holds = is.holds; to = before }
      | inr last ↦ inr record { holds = is.holds; to = sym last }
    ])

pub to_more : (g : Graph) (children : List ℕ) (i : ℕ) (child : ℕ) (old mid new : List Edge) → i < length children
    → child ≡ slice_index_or children i child
    → Adds (IsToOne g (take i children)) old mid → Adds (IsTo g child) mid new
    → Adds (IsToOne g (take (i + 1) children)) old new
to_more g children i child old mid new inside is before here =
    let more : take (i + 1) children ≡ take i children ++ child ∷ [] =
    take_more children i child inside ∙ ap (λ c. take i children ++ c ∷ []) (sym is) in
    subst (λ (cs : List ℕ). Adds (IsToOne g cs) old new) (sym more)
    (to_push g child (take i children) old mid new before here)

pub to_all : (g : Graph) (children : List ℕ) (i : ℕ) (old new : List Edge) → length children ≤ i
    → Adds (IsToOne g (take i children)) old new → Adds (IsToOne g children) old new
to_all g children i old new past adds =
    subst (λ (cs : List ℕ). Adds (IsToOne g cs) old new) (take_all i children past) adds

-- ---- these edges, put in order, are the edges above the crates that were followed

pub edges_listed : (g : Graph) (places : List ℕ) (distances : List (Option ℕ)) (reached : List ℕ) (old new : List Edge)
    → IsOrderly g → AreAbove g places distances reached → Adds (IsToOne g reached) [] old
    → Lists edge_cmp (Contains old) new
    → Lists edge_cmp (IsAboveOne g places) new
edges_listed g places distances reached old new orderly above adds listed = record {
  ascending = listed.ascending;
  whole = λ e is.
      let marked = (above.each e.child (child_holds g orderly e is.above.holds)).1 record {
        place = is.place;
        is_one = is.is_one;
        leads = is.above.leads;
      } in
      listed.whole e (adds.whole e record { holds = is.above.holds; to = (above.those.each e.child).0 marked });
  sound = λ e is. elim (adds.sound e (listed.sound e is)) as (λ _. IsAboveOne g places e) [
    | inl none ↦ absurd (no_member e none)
    | inr to ↦
        let leads = (above.each e.child (child_holds g orderly e to.holds)).0 ((above.those.each e.child).1 to.to) in
        record {
          place = leads.place;
          is_one = leads.is_one;
          above = record { holds = to.holds; leads = leads.leads };
        }
  ];
}

-- the edges above some crates are edges of the graph
pub above_hold : (g : Graph) (places : List ℕ) (edges : List Edge) → Lists edge_cmp (IsAboveOne g places) edges
    → All (λ e. Contains g.edges e) edges
above_hold g places edges listed = All-weaker (Contains edges) (λ e. Contains g.edges e)
    (λ e is. (listed.sound e is).above.holds) edges (All-contains_itself edges)
