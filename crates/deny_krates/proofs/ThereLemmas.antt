-- The sources of edges are nodes of the graph.
use Rattle.std.proofs.Common.{◌≡◌, ◌∙◌, ℕ, List, [], ◌∷◌, Bool, true, false, None, Some, Option, inl, inr, refl, ap}
use Rattle.std.proofs.Common.{subst}
use Rattle.std.specs.Prelude.{◌||◌, ◌↔◌, All, Contains, cond, filter, map, slice_get, slice_index_or}
use Rattle.std.specs.List.{flat_map}
use Rattle.std.specs.Option.{option_and_then}
use Rattle.std.proofs.lemmas.List.Elements.{Contains-append_cases}
use Rattle.std.proofs.lemmas.Option.{slice_get-get_or}
use Rattle.std.proofs.lemmas.Slice.Eq.{bytes_eq-Decides}
use Rattle.deny_base_lists.specs.Ascending.{Lists}
use Rattle.deny_base_lists.proofs.Members.{Contains-by_cases, Contains-from_filter, Contains-from_flat_map}
use Rattle.deny_base_lists.proofs.Members.{Contains-from_map, any_from, from_there, no_member}
use Rattle.deny_base.specs.declared.edge.DepKind.{DepKind}
use Rattle.deny_krates.specs.Nodes.{Incoming, all_kinds, feature_leads, from_crate, from_feature, from_own, holds_plain}
use Rattle.deny_krates.specs.Nodes.{is_enabled, leads_by_asking, leads_in_vain, leads_undeclared, node_in, of_parents}
use Rattle.deny_krates.specs.Nodes.{own_features, own_leading, sources_at, sources_of_crate, sources_of_feature}
use Rattle.deny_krates.specs.private.Sources.{IsThere, node_here, parent_cmp, parent_of}
use Rattle.deny_krates.specs.declared.incoming.Parent.{Parent}
use Rattle.deny_krates.proofs.NumberLemmas.{HavePlaces}
use Rattle.deny_krates.proofs.SourceLemmas.{dependent_at}
use Rattle.deny_spec.specs.Graph.{Crate, Graph, dependents}
use Rattle.deny_spec.specs.Text.{same_text}

abbrev IsSource : Graph → Incoming → Type 0
IsSource g i = node_here g i.node.place i.node.feature ≡ Some i.node

module _ (g : Graph) (placed : HavePlaces g) where
  crate_there : (p : Crate) (kind : DepKind) → slice_get g.crates p.place ≡ Some p → IsSource g (from_crate p kind)
  unfolding node_in
  crate_there p kind at = ap (option_and_then (node_in None)) at

  feature_there : (p : Crate) (kind : DepKind) (f : List ℕ) → slice_get g.crates p.place ≡ Some p
      → Contains p.enabled f → IsSource g (from_feature p kind f)
  unfolding node_in is_enabled
  feature_there p kind f at holds = ap (option_and_then (node_in (Some f))) at
      ∙ ap (λ b. cond b (Some (record { place = p.place; feature = Some f })) None)
      (any_from (same_text f) p.enabled f holds ((bytes_eq-Decides f f).1 refl))

  own_there : (p : Crate) (f : List ℕ) → slice_get g.crates p.place ≡ Some p → Contains p.enabled f
      → IsSource g (from_own p f)
  unfolding node_in is_enabled
  own_there p f at holds = ap (option_and_then (node_in (Some f))) at
      ∙ ap (λ b. cond b (Some (record { place = p.place; feature = Some f })) None)
      (any_from (same_text f) p.enabled f holds ((bytes_eq-Decides f f).1 refl))

  one_crate : (b : Bool) (p : Crate) (kind : DepKind) (i : Incoming) → slice_get g.crates p.place ≡ Some p
      → Contains (cond b (from_crate p kind ∷ []) []) i → IsSource g i
  one_crate true p kind i at is = Contains-by_cases (from_crate p kind) [] i is
      (λ same. subst (λ (j : Incoming). IsSource g j) same (crate_there p kind at)) (λ none. absurd (no_member i none))
  one_crate false p kind i at is = absurd (no_member i is)

  to_crate_there : (c p : Crate) (kind : DepKind) (i : Incoming) → slice_get g.crates p.place ≡ Some p
      → Contains (sources_of_crate g c p kind) i → IsSource g i
  unfolding sources_of_crate
  to_crate_there c p kind i at is = one_crate (leads_in_vain g c p kind || leads_undeclared g c p kind) p kind i at is

  to_feature_there : (c : Crate) (feature : List ℕ) (p : Crate) (kind : DepKind) (i : Incoming)
      → slice_get g.crates p.place ≡ Some p → Contains (sources_of_feature g c feature p kind) i → IsSource g i
  unfolding sources_of_feature
  to_feature_there c feature p kind i at is =
      elim (Contains-append_cases (cond (leads_by_asking g c feature p kind) (from_crate p kind ∷ []) [])
      (map (from_feature p kind) (filter (feature_leads g c feature p kind) p.enabled)) i is) as (λ _. IsSource g i) [
        | inl asking ↦ one_crate (leads_by_asking g c feature p kind) p kind i at asking
        | inr led ↦
            let of = Contains-from_map (from_feature p kind)
            (filter (feature_leads g c feature p kind) p.enabled) i led in
            subst (λ (j : Incoming). IsSource g j) of.is (feature_there p kind of.from at
            (Contains-from_filter (feature_leads g c feature p kind) p.enabled of.from of.member).0)
      ]

  parents_there : (c : Crate) (sources : Crate → DepKind → List Incoming) (i : Incoming)
      → ((p : Crate) (kind : DepKind) → slice_get g.crates p.place ≡ Some p → Contains (sources p kind) i
      → IsSource g i)
      → Contains (of_parents g c sources) i → IsSource g i
  unfolding of_parents
  parents_there c sources i each is =
      let of = Contains-from_flat_map (λ (p : Crate). flat_map (sources p) all_kinds) (dependents g c.place) i is in
      let kind = Contains-from_flat_map (sources of.from) all_kinds i of.of in
      each of.from kind.from (dependent_at g placed c.place of.from of.member) kind.of

  sources_there : (c : Crate) (feature : Option (List ℕ)) (i : Incoming) → slice_get g.crates c.place ≡ Some c
      → Contains (sources_at g feature c) i → IsSource g i
  unfolding sources_at own_features own_leading
  sources_there c None i at is =
      elim (Contains-append_cases (map (from_own c) c.enabled) (of_parents g c (sources_of_crate g c)) i is) as
      (λ _. IsSource g i) [
        | inl own ↦ let of = Contains-from_map (from_own c) c.enabled i own in
            subst (λ (j : Incoming). IsSource g j) of.is (own_there c of.from at of.member)
        | inr later ↦ parents_there c (sources_of_crate g c) i
            (λ p kind p_at here. to_crate_there c p kind i p_at here) later
      ]
  sources_there c (Some f) i at is =
      elim (Contains-append_cases (map (from_own c) (filter (holds_plain c f) c.enabled))
      (of_parents g c (sources_of_feature g c f)) i is) as (λ _. IsSource g i) [
        | inl own ↦ let of = Contains-from_map (from_own c) (filter (holds_plain c f) c.enabled) i own in
            subst (λ (j : Incoming). IsSource g j) of.is (own_there c of.from at
            (Contains-from_filter (holds_plain c f) c.enabled of.from of.member).0)
        | inr later ↦ parents_there c (sources_of_feature g c f) i
            (λ p kind p_at here. to_feature_there c f p kind i p_at here) later
      ]

  -- the collected sources are nodes of the graph
  pub all_there : (c : Crate) (feature : Option (List ℕ)) (old ps : List Parent) → slice_get g.crates c.place ≡ Some c
      → Lists parent_cmp (Contains old) ps
      → ((p : Parent) → Contains old p ↔ Contains (map (parent_of g) (sources_at g feature c)) p)
      → All (IsThere g) ps
  all_there c feature old ps at listed same k d inside =
      let p = slice_index_or ps k d in
      let of = Contains-from_map (parent_of g) (sources_at g feature c) p
      ((same p).0 (listed.sound p (from_there ps k p (slice_get-get_or ps k d inside)))) in
      subst (λ (q : Parent). IsThere g q) of.is (sources_there c feature of.from at of.member)
