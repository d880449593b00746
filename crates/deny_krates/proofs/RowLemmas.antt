-- The sources of a node, as they are collected from the rows of direct dependents.
use Rattle.std.proofs.Common.{◌≡◌, ◌<◌, ◌≤◌, ◌+◌, ◌∙◌, ℕ, List, [], ◌∷◌, ◌++◌, Some, Option, drop, length, map, refl}
use Rattle.std.proofs.Common.{slice_index_or, sym, ap, subst}
use Rattle.std.specs.Prelude.{◌↔◌, Contains, slice_get}
use Rattle.std.specs.List.{flat_map}
use Rattle.std.specs.Option.{option_map_or}
use Rattle.std.proofs.lemmas.List.{map-append}
use Rattle.std.proofs.lemmas.List.Elements.{All-contains}
use Rattle.deny_base_lists.proofs.Loops.{flat-step, pushed_all}
use Rattle.deny_base_lists.proofs.Members.{Contains-from_map}
use Rattle.deny_base.specs.declared.edge.DepKind.{DepKind}
use Rattle.deny_krates_graph.specs.Dependents.{AreDirectDependents}
use Rattle.deny_krates.specs.Nodes.{Incoming, of_parents}
use Rattle.deny_krates.specs.private.Sources.{parent_of}
use Rattle.deny_krates.specs.declared.incoming.Parent.{Parent}
use Rattle.deny_krates_graph.specs.declared.krate.DirectDependent.{DirectDependent}
use Rattle.deny_krates.proofs.NumberLemmas.{HavePlaces}
use Rattle.deny_krates.proofs.SourceLemmas.{by_kinds, dependent_at, gathered_are, of_row}
use Rattle.deny_spec.specs.Graph.{Crate, Graph, dependents}

-- the sources that a direct dependent gives
abbrev pub row_parents : Graph → (Crate → DepKind → List Incoming) → DirectDependent → List Parent
row_parents g sources d = map (parent_of g) (of_row g (by_kinds sources) d)

module _ (g : Graph) (placed : HavePlaces g) where
  pub row_inside : (place : ℕ) (ds : List DirectDependent) (d : DirectDependent) → AreDirectDependents g place ds
      → Contains ds d → (p : Crate) × (slice_get g.crates d.place ≡ Some p)
  row_inside place ds d rows is =
      let among = All-contains
      (λ (e : DirectDependent). Contains (map (λ (p : Crate). p.place) (dependents g place)) e.place) ds d rows.sound
      is in
      let p = Contains-from_map (λ (p : Crate). p.place) (dependents g place) d.place among in (
        p.from,
        subst (λ (n : ℕ). slice_get g.crates n ≡ Some p.from) p.is (dependent_at g placed place p.from p.member),
      )

  map-flat : (f : DirectDependent → List Incoming) (ds : List DirectDependent)
      → map (parent_of g) (flat_map f ds) ≡ flat_map (λ d. map (parent_of g) (f d)) ds
  map-flat f [] = refl
  map-flat f (d ∷ ds) = map-append (parent_of g) (f d) (flat_map f ds)
      ∙ ap (λ ps. map (parent_of g) (f d) ++ ps) (map-flat f ds)

  pub parents_done : (own : List Incoming) (x : Crate) (ds : List DirectDependent)
      (sources : Crate → DepKind → List Incoming) (parents : List Parent) → AreDirectDependents g x.place ds
      → parents ≡ map (parent_of g) own ++ flat_map (row_parents g sources) ds → (p : Parent)
      → Contains parents p ↔ Contains (map (parent_of g) (own ++ of_parents g x sources)) p
  parents_done own x ds sources parents rows is p =
      let whole : parents ≡ map (parent_of g) (own ++ flat_map (of_row g (by_kinds sources)) ds) =
      is ∙ (ap (λ ps. map (parent_of g) own ++ ps) (sym (map-flat (of_row g (by_kinds sources)) ds))
      ∙ sym (map-append (parent_of g) own (flat_map (of_row g (by_kinds sources)) ds))) in
      let same = gathered_are g placed own x ds sources rows p in (
        (λ holds. same.0 (subst (λ (ps : List Parent). Contains ps p) whole holds)),
        (λ holds. subst (λ (ps : List Parent). Contains ps p) (sym whole) (same.1 holds)),
      )

-- one direct dependent more
pub row_more : (g : Graph) (sources : Crate → DepKind → List Incoming) (ds : List DirectDependent) (d : DirectDependent)
    (p : Crate) (i : ℕ) (old new whole : List Parent) → i < length ds → d ≡ slice_index_or ds i d
    → slice_get g.crates d.place ≡ Some p → new ≡ old ++ map (parent_of g) (by_kinds sources p)
    → old ++ flat_map (row_parents g sources) (drop i ds) ≡ whole
    → new ++ flat_map (row_parents g sources) (drop (i + 1) ds) ≡ whole
row_more g sources ds d p i old new whole inside is at added so =
    let row : row_parents g sources d ≡ map (parent_of g) (by_kinds sources p) =
    ap (λ (o : Option Crate). map (parent_of g) (option_map_or (by_kinds sources) o [])) at in
    let step : new ≡ old ++ row_parents g sources d = added ∙ ap (λ ps. old ++ ps) (sym row) in
    subst (λ (es : List DirectDependent). new ++ flat_map (row_parents g sources) es ≡ whole) (map-id (drop (i + 1) ds))
    (flat-step (row_parents g sources) (λ (e : DirectDependent). e) ds d i old new whole inside is step
    (subst (λ (es : List DirectDependent). old ++ flat_map (row_parents g sources) es ≡ whole)
    (sym (map-id (drop i ds))) so))
  where
    map-id : (es : List DirectDependent) → map (λ (e : DirectDependent). e) es ≡ es
    map-id [] = refl
    map-id (e ∷ es) = ap (λ xs. e ∷ xs) (map-id es)

pub rows_done : (g : Graph) (sources : Crate → DepKind → List Incoming) (ds : List DirectDependent) (i : ℕ)
    (new whole : List Parent) → length ds ≤ i → new ++ flat_map (row_parents g sources) (drop i ds) ≡ whole
    → new ≡ whole
rows_done g sources ds i new whole past so =
    pushed_all (flat_map (row_parents g sources)) ds i new whole refl past so
