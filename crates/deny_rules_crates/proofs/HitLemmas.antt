-- The first witnesses of entries, and the wrapped edges of wrappers that give theirs.
use Rattle.std.proofs.Common.{◌≡◌, ℕ, List, [], ◌∷◌, Bool, true, false, Option, None, Some, Contains, length, filter}
use Rattle.std.proofs.Common.{find, map, refl, sym, ap, ◌∙◌, subst, inl, inr}
use Rattle.std.specs.Prelude.{◌&&◌, filter_map, option_and_then, option_map, slice_get}
use Rattle.std.specs.BTreeMap.{BTreeMap}
use Rattle.std.specs.Cmp.{nat_cmp_total}
use Rattle.std.specs.List.{list_any, range_with_len, flat_map}
use Rattle.std.proofs.lemmas.List.Folds.{flat_map-map}
use Rattle.std.specs.List.Sorted.{IsStrictlySortedBy}
use Rattle.std.specs.Option.{option_map_or}
use Rattle.std.specs.Ordering.{nat_cmp}
use Rattle.std.proofs.Math.Bool.{and_comm}
use Rattle.std.proofs.lemmas.Bool.{cases_Bool}
use Rattle.std.proofs.lemmas.List.Elements.{All-contains}
use Rattle.std.proofs.lemmas.List.Kept.{IsStrictlySortedBy-filter}
use Rattle.std.proofs.lemmas.Option.{slice_get-map}
use Rattle.deny_base_lists.specs.Ascending.{Lists}
use Rattle.deny_base_lists.proofs.Sorted.{one_list}
use Rattle.deny_base.specs.declared.entry.EntryKind.TheVariants.{Skip, SkipRoot, Wrapper}
use Rattle.deny_base.specs.declared.entry.Witness.TheVariants.{Krate, Parent}
use Rattle.deny_base_lists.specs.TextMap.{TextFinMap}
use Rattle.deny_base.specs.declared.span.Span.{Span}
use Rattle.deny_krates.specs.Dependents.{AreDirectDependents}
use Rattle.deny_krates.specs.krate.DirectDependent.{DirectDependent}
use Rattle.deny_base_lists.proofs.Members.{Contains-first, Contains-rest, from_contains_map}
use Rattle.deny_spec.specs.Bans.{concerns, wrapper_of}
use Rattle.deny_spec.specs.Facts.{Facts}
use Rattle.deny_spec.specs.Graph.{Crate, Graph, dependents, kid_of, leads}
use Rattle.deny_spec.specs.Hits.{hit_of, root_hit, skip_hit, wrapper_hit, wrapper_hit_at}
use Rattle.deny_spec.specs.Match.{matches}
use Rattle.deny_spec.specs.Policy.{Ban, Policy, SpannedText}
use Rattle.deny_spec.specs.Skips.{is_skipped}
use Rattle.deny_spec.specs.DiagParts.{crate_at}
use Rattle.deny_spec.specs.Wrappers.{hits_wrapper, same_span, wraps}
use Rattle.deny_spec.proofs.SpanLemmas.{same-span}
use Rattle.deny_base_lists.proofs.Agreement.{filter_map_on, find_on, found_on, list_any_on}
use Rattle.deny_rules_match.specs.Wrappers.{AreFirstSpans, span_at, span_of}
use Rattle.deny_rules_crates.specs.private.WrappedEdges.{LeadToFirsts, first_wrapped_edge, hit_at, hit_by_edge}
use Rattle.deny_rules_crates.specs.private.WrappedEdges.{wrapped_edge_at, wrapped_edges_at, wrapper_hits}
use Rattle.deny_rules_crates.specs.declared.hits.WrappedEdge.{WrappedEdge}
use Rattle.deny_base_lists.proofs.Filters.{and_then-and_then, any-filter_map, filter-map, filter_map-map, find-filter}
use Rattle.deny_base_lists.proofs.Filters.{find-filter_map, find-flat_map, first-filter, map-and_then, passes}
use Rattle.deny_base_lists.proofs.Numbers.{range_with_len-ascends}
use Rattle.deny_rules_match.proofs.WrapperLemmas.{span-wrapper}
use Rattle.deny_rules_match.specs.Placed.{ArePlaced}
use Rattle.deny_krates.proofs.PlaceLemmas.{place_of}
use Rattle.deny_krates.proofs.NeighbourLemmas.{dependent_holds}
use Rattle.deny_rules_match.specs.Matches.{places_concerned, root_match, skip_match}
use Rattle.deny_rules_match.specs.declared.entry_match.EntryMatch.{EntryMatch}
use Rattle.deny_rules_crates.specs.private.EntryHits.{entry_hit}

-- the crate that is found first, looked up at its place
scan-up-in : (crates xs : List Crate) (p : Crate → Bool) → ((c : Crate) → Contains xs c
    → slice_get crates c.place ≡ Some c)
    → option_and_then (slice_get crates) (option_map place_of (find p xs)) ≡ find p xs
scan-up-in crates [] p at = refl
scan-up-in crates (c ∷ cs) p at = elim (cases_Bool (p c)) as
    (λ _. option_and_then (slice_get crates) (option_map place_of (find p (c ∷ cs))) ≡ find p (c ∷ cs)) [
      | inl e ↦ rw e (at c (Contains-first c cs))
      | inr e ↦ rw e (scan-up-in crates cs p (λ d is. at d (Contains-rest c cs d is)))
    ]

scan-up : (g : Graph) (p : Crate → Bool) → ArePlaced g.crates
    → option_and_then (crate_at g) (option_map place_of (find p g.crates)) ≡ find p g.crates
scan-up g p placed = scan-up-in g.crates g.crates p placed.at

-- the first of some crates
first-of : (g : Graph) (p : Crate → Bool) → ArePlaced g.crates
    → option_and_then (crate_at g) (slice_get (map place_of (filter p g.crates)) 0) ≡ find p g.crates
first-of g p placed =
    ap (option_and_then (crate_at g)) (slice_get-map place_of (filter p g.crates) 0
    ∙ ap (option_map place_of) (first-filter p g.crates))
    ∙ scan-up g p placed

-- the places of a crate's dependents in ascending order, whatever the order in which they are kept
pub by_place : (g : Graph) (place : ℕ) (ds : List DirectDependent) → ArePlaced g.crates → AreDirectDependents g place ds
    → (places : List ℕ) → Lists nat_cmp (Contains (map (λ d. d.place) ds)) places
    → places ≡ map place_of (dependents g place)
unfolding dependents
by_place g place ds placed direct places listed = one_list nat_cmp_total places (map place_of
    (dependents g place)) listed (record {
      ascending = subst (IsStrictlySortedBy nat_cmp)
          (ap (filter leads_here) (sym placed.places) ∙ filter-map leads_here place_of g.crates)
          (IsStrictlySortedBy-filter nat_cmp leads_here (range_with_len 0 (length g.crates))
          (range_with_len-ascends 0 (length g.crates)));
      whole = λ n is. let of = from_contains_map (λ (d : DirectDependent). d.place) ds n is in
          subst (λ (m : ℕ). Contains (map place_of (dependents g place)) m) of.2
          (All-contains (λ (d : DirectDependent). Contains
          (map place_of (dependents g place)) d.place) ds of.0 direct.sound of.1);
      sound = λ n is. let of = from_contains_map place_of (dependents g place) n is in
          subst (λ (m : ℕ). Contains (map (λ d. d.place) ds) m) of.2
          (All-contains (λ (c : Crate). Contains (map (λ d. d.place) ds) c.place)
          (dependents g place) of.0 direct.whole of.1);
    })
  where
    leads_here : ℕ → Bool
    leads_here = λ n. list_any (leads n place) g.edges

-- the edge from a dependent whose name has a span
abbrev edge_from : Crate → Crate → Span → WrappedEdge
edge_from c d span = record { span = span; place = c.place; parent = d.place }

abbrev wrapped : TextFinMap Span → Crate → Crate → Option WrappedEdge
wrapped spans c d = option_map (edge_from c d) (span_of spans d)

-- the edge from a dependent, as it is kept by the places of the two crates
wrapped-at : (g : Graph) (spans : TextFinMap Span) (c d : Crate) → ArePlaced g.crates → Contains g.crates d
    → wrapped_edge_at g spans c.place d.place ≡ wrapped spans c d
unfolding wrapped_edge_at span_at
wrapped-at g spans c d placed holds = ap (λ (o : Option Crate). option_map (edge_from c d)
    (option_and_then (span_of spans) o)) (placed.at d holds)

wrapped-dependents : (g : Graph) (spans : TextFinMap Span) (c : Crate) → ArePlaced g.crates
    → wrapped_edges_at g spans c.place ≡ filter_map (wrapped spans c) (dependents g c.place)
unfolding wrapped_edges_at
wrapped-dependents g spans c placed =
    filter_map-map (wrapped_edge_at g spans c.place) place_of (dependents g c.place)
    ∙ filter_map_on (λ d. wrapped_edge_at g spans c.place d.place) (wrapped spans c) (dependents g c.place)
    (λ d is. wrapped-at g spans c d placed (dependent_holds g c.place d is))

-- a wrapped edge has a wrapper's span where the wrapper has the dependent's name
abbrev is_of : SpannedText → WrappedEdge → Bool
is_of w m = same_span m.span w.span

span-wraps : (wrappers : List SpannedText) (spans : TextFinMap Span) (w : SpannedText) (c d : Crate)
    → AreFirstSpans wrappers spans
    → passes (is_of w) (wrapped spans c) d ≡ wraps wrappers w d
unfolding wraps
span-wraps wrappers spans w c d first =
    ap (λ (o : Option Span). option_map_or (is_of w) (option_map (edge_from c d) o) false)
    (span-wrapper wrappers spans d first) ∙ by_first (wrapper_of wrappers d)
  where
    by_first : (o : Option SpannedText) → option_map_or (is_of w)
        (option_map (edge_from c d) (option_map (λ (f : SpannedText). f.span) o)) false ≡ option_map_or
        (λ (f : SpannedText). same_span f.span w.span) o false
    by_first None = refl
    by_first (Some f) = refl

-- the hit by a wrapped edge of two crates
hit-by : (g : Graph) (c d : Crate) (this_span : Span) → ArePlaced g.crates → Contains g.crates c → Contains g.crates d
    → hit_by_edge g (edge_from c d this_span) ≡ Some (hit_of Wrapper this_span (Parent (kid_of c) (kid_of d)))
unfolding hit_by_edge
hit-by g c d this_span placed c_holds d_holds =
    ap (option_and_then (λ (b : Crate). option_map
    (λ (e : Crate). hit_of Wrapper this_span (Parent (kid_of b) (kid_of e)))
    (crate_at g d.place))) (placed.at c c_holds)
    ∙ ap (option_map (λ (e : Crate). hit_of Wrapper this_span (Parent (kid_of c) (kid_of e)))) (placed.at d d_holds)

-- where a wrapper has the name of a dependent, their wrapped edge makes the wrapper's hit
wrapped-hit : (g : Graph) (wrappers : List SpannedText) (spans : TextFinMap Span) (w : SpannedText) (c d : Crate)
    → ArePlaced g.crates → AreFirstSpans wrappers spans → Contains g.crates c → Contains g.crates d
    → wraps wrappers w d ≡ true → option_and_then (hit_by_edge g) (wrapped spans c d) ≡ Some
    (hit_of Wrapper w.span (Parent (kid_of c) (kid_of d)))
unfolding wraps
wrapped-hit g wrappers spans w c d placed first c_holds d_holds is =
    ap (λ (o : Option Span). option_and_then (hit_by_edge g) (option_map (edge_from c d) o))
    (span-wrapper wrappers spans d first) ∙ by_first (wrapper_of wrappers d) is
  where
    by_first : (o : Option SpannedText) → option_map_or (λ (f : SpannedText). same_span f.span w.span) o false ≡ true
        → option_and_then (hit_by_edge g) (option_map (edge_from c d) (option_map (λ (f : SpannedText). f.span) o))
        ≡ Some
        (hit_of Wrapper w.span (Parent (kid_of c) (kid_of d)))
    by_first None is = cc
    by_first (Some f) is = ap (λ (span : Span). hit_by_edge g (edge_from c d span)) (same-span f.span w.span is)
        ∙ hit-by g c d w.span placed c_holds d_holds

-- the first wrapped edge of a wrapper at a crate
first-at : (g : Graph) (ban : Ban) (spans : TextFinMap Span) (w : SpannedText) (c : Crate) → ArePlaced g.crates
    → AreFirstSpans ban.wrappers spans → Contains g.crates c
    → option_and_then (hit_by_edge g) (find (is_of w) (wrapped_edges_at g spans c.place)) ≡ wrapper_hit_at g ban w c
unfolding wrapper_hit_at
first-at g ban spans w c placed first holds =
    ap (λ (es : List WrappedEdge). option_and_then (hit_by_edge g) (find (is_of w) es))
    (wrapped-dependents g spans c placed)
    ∙ (ap (option_and_then (hit_by_edge g)) (find-filter_map (is_of w) (wrapped spans c) (dependents g c.place)
    ∙ ap (option_and_then (wrapped spans c)) (find_on (passes (is_of w) (wrapped spans c)) (wraps ban.wrappers w)
    (dependents g c.place) (λ d _. span-wraps ban.wrappers spans w c d first)))
    ∙ (and_then-and_then (hit_by_edge g) (wrapped spans c) (find (wraps ban.wrappers w) (dependents g c.place))
    ∙ (found_on (λ d. option_and_then (hit_by_edge g) (wrapped spans c d))
    (λ (d : Crate). Some (hit_of Wrapper w.span (Parent (kid_of c) (kid_of d)))) (wraps ban.wrappers w)
    (dependents g c.place)
    (λ d is wrapped. wrapped-hit g ban.wrappers spans w c d placed first holds
    (dependent_holds g c.place d is) wrapped)
    ∙ sym (map-and_then (λ (d : Crate). hit_of Wrapper w.span (Parent (kid_of c) (kid_of d)))
    (find (wraps ban.wrappers w) (dependents g c.place))))))

any-at : (g : Graph) (ban : Ban) (spans : TextFinMap Span) (w : SpannedText) (c : Crate) → ArePlaced g.crates
    → AreFirstSpans ban.wrappers spans
    → list_any (is_of w) (wrapped_edges_at g spans c.place) ≡ list_any (wraps ban.wrappers w) (dependents g c.place)
any-at g ban spans w c placed first =
    ap (list_any (is_of w)) (wrapped-dependents g spans c placed)
    ∙ (any-filter_map (is_of w) (wrapped spans c) (dependents g c.place)
    ∙ list_any_on (passes (is_of w) (wrapped spans c)) (wraps ban.wrappers w) (dependents g c.place)
    (λ d _. span-wraps ban.wrappers spans w c d first))

-- a wrapper's first wrapped edge makes its hit
module _ (p : Policy) (g : Graph) (placed : ArePlaced g.crates) where
  tested : (ban : Ban) (spans : TextFinMap Span) (w : SpannedText) → AreFirstSpans ban.wrappers spans → (c : Crate)
      → (list_any (is_of w) (wrapped_edges_at g spans c.place) && concerns p g ban c) ≡ hits_wrapper p g ban w c
  unfolding hits_wrapper
  tested ban spans w first c =
      ap (λ b. b && concerns p g ban c) (any-at g ban spans w c placed first)
      ∙ and_comm (list_any (wraps ban.wrappers w) (dependents g c.place)) (concerns p g ban c)

  first-hit : (ban : Ban) (spans : TextFinMap Span) (w : SpannedText) → AreFirstSpans ban.wrappers spans
      → option_and_then (hit_by_edge g)
      (first_wrapped_edge (flat_map (wrapped_edges_at g spans) (places_concerned p g ban)) w.span)
      ≡ wrapper_hit p g ban w
  unfolding places_concerned wrapper_hit
  first-hit ban spans w first =
      let met_by = λ (c : Crate). wrapped_edges_at g spans c.place in
      let any = λ (c : Crate). list_any (is_of w) (wrapped_edges_at g spans c.place) in
      let met = filter (concerns p g ban) g.crates in
      ap (λ (es : List WrappedEdge). option_and_then (hit_by_edge g) (find (is_of w) es))
      (flat_map-map (wrapped_edges_at g spans) place_of met)
      ∙ (ap (option_and_then (hit_by_edge g)) (find-flat_map (is_of w) met_by met
      ∙ ap (option_and_then (λ (c : Crate). find (is_of w) (met_by c)))
      (find-filter any (concerns p g ban) g.crates
      ∙ find_on (λ c. any c && concerns p g ban c) (hits_wrapper p g ban w) g.crates
      (λ c _. tested ban spans w first c)))
      ∙ (and_then-and_then (hit_by_edge g) (λ (c : Crate). find (is_of w) (met_by c))
      (find (hits_wrapper p g ban w) g.crates)
      ∙ found_on (λ (c : Crate). option_and_then (hit_by_edge g) (find (is_of w) (met_by c))) (wrapper_hit_at g ban w)
      (hits_wrapper p g ban w) g.crates (λ c holds _. first-at g ban spans w c placed first holds)))

  -- the hits of a ban's wrappers
  pub hits-made : (ban : Ban) (spans : TextFinMap Span) (places : List ℕ) (firsts : BTreeMap Span WrappedEdge)
      → places ≡ places_concerned p g ban → AreFirstSpans ban.wrappers spans
      → LeadToFirsts (flat_map (wrapped_edges_at g spans) places) firsts
      → filter_map (hit_at g firsts) ban.wrappers ≡ wrapper_hits p g ban
  unfolding hit_at
  hits-made ban spans places firsts are first leads =
      filter_map_on (hit_at g firsts) (wrapper_hit p g ban) ban.wrappers
      (λ w _. ap (option_and_then (hit_by_edge g)) (leads.at w.span
      ∙ ap (λ (ps : List ℕ). first_wrapped_edge (flat_map (wrapped_edges_at g spans) ps) w.span) are)
      ∙ first-hit ban spans w first)

  -- the hits of skips, and of skipped trees
  pub skip_hits_are : (facts : Facts) (ms : List EntryMatch) → ms ≡ map (skip_match g facts) p.skip
      → filter_map (entry_hit g Skip) ms ≡ filter_map (skip_hit g facts) p.skip
  unfolding entry_hit skip_hit
  skip_hits_are facts ms are =
      ap (filter_map (entry_hit g Skip)) are
      ∙ (filter_map-map (entry_hit g Skip) (skip_match g facts) p.skip
      ∙ filter_map_on (λ s. entry_hit g Skip (skip_match g facts s)) (skip_hit g facts) p.skip
      (λ s _. ap (option_map (λ c. hit_of Skip s.spec.span (Krate (kid_of c))))
      (first-of g (is_skipped facts s) placed)))

  pub root_hits_are : (ms : List EntryMatch) → ms ≡ map (root_match g) p.skip_tree
      → filter_map (entry_hit g SkipRoot) ms ≡ filter_map (root_hit g) p.skip_tree
  unfolding entry_hit root_hit
  root_hits_are ms are =
      ap (filter_map (entry_hit g SkipRoot)) are
      ∙ (filter_map-map (entry_hit g SkipRoot) (root_match g) p.skip_tree
      ∙ filter_map_on (λ t. entry_hit g SkipRoot (root_match g t)) (root_hit g) p.skip_tree
      (λ t _. ap (option_map (λ c. hit_of SkipRoot t.spec.span (Krate (kid_of c))))
      (first-of g (matches t.spec) placed)))
