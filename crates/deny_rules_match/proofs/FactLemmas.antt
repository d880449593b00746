-- Marks that are worked out from chains are facts of the graph.
use Rattle.std.proofs.Common.{◌≡◌, ℕ, suc, ◌+◌, ◌-◌, ◌<◌, ◌≤◌, Bool, true, false, List, [], ◌∷◌, Option, None, Some}
use Rattle.std.proofs.Common.{length, map, filter, Contains, inl, inr, refl, sym, ap, ◌∙◌, subst, arith}
use Rattle.std.specs.Prelude.{◌↔◌, All, IsTrue, max, option_and_then, replicate, slice_index_or}
use Rattle.std.specs.List.{AllZip}
use Rattle.std.proofs.lemmas.Bool.{false≢true, lt-ltb, ltb-true}
use Rattle.std.proofs.lemmas.List.{get_or-map, get_or-replicate}
use Rattle.deny_base.specs.declared.edge.DepKind.TheVariants.{Dev}
use Rattle.deny_cfg.specs.PolicyView.{root_view, roots_from}
use Rattle.deny_cfg.specs.SpecView.{spec_view}
use Rattle.deny_cfg.specs.TreeSkipExtended.{TreeSkipExtended}
use Rattle.deny_cfg.specs.PackageSpecOrExtended.{PackageSpecOrExtended}
use Rattle.deny_krates.specs.Filtered.{AreMarks}
use Rattle.deny_spec.specs.Counting.{Chain, Counts, IsReachedWithout}
use Rattle.deny_spec.specs.Graph.{Crate, Graph}
use Rattle.deny_spec.specs.Match.{matches}
use Rattle.deny_spec.specs.Policy.{Root}
use Rattle.deny_spec.specs.Roots.{IsNear, IsInTree}
use Rattle.deny_base_lists.specs.Walk.{distance_at}
use Rattle.deny_krates.specs.Distances.{IsLedFromRoot, IsCrateDistance, AreCrateDistances}
use Rattle.deny_rules_match.specs.Marks.{marked, AreCounted}
use Rattle.deny_rules_match.specs.private.Marks.{is_near, IsTreeOf}
use Rattle.deny_rules_match.specs.Placed.{ArePlaced}
use Rattle.deny_rules_match.proofs.MarkLemmas.{places_within}
use Rattle.deny_krates.proofs.PlaceLemmas.{place_within}
use Rattle.deny_base_lists.proofs.Members.{Contains-by_cases, Contains-filter, Contains-from_filter, Contains-from_map}
use Rattle.deny_base_lists.proofs.Members.{contains_map, no_member}

-- which crates count

counts_not : (g : Graph) (c : Crate) → Counts false g c → IsReachedWithout Dev g c.place
counts_not g c (inl all) = absurd (false≢true all)
counts_not g c (inr reached) = reached

pub counted_without_dev : (g : Graph) (marks : List Bool) → ArePlaced g.crates → AreMarks Dev g marks
    → AreCounted false g marks
counted_without_dev g marks placed are = record {
  each = λ c is.
      let each = are.each c.place (place_within g.crates placed c is) in
      (λ on. inr (each.0 on), λ counts. each.1 (counts_not g c counts));
}

pub all_counted : (g : Graph) (marks : List Bool) (size : ℕ) → ArePlaced g.crates → size ≡ length g.crates
    → marks ≡ replicate size true → AreCounted true g marks
all_counted g marks size placed long all = record {
  each = λ c is.
      let inside : c.place < size = omega (arith, place_within g.crates placed c is) in
      (λ on. inl refl, λ counts. ap (λ ms. marked ms c) all ∙ get_or-replicate size c.place true false inside);
}

-- which crates lie in an entry's tree

none_near : (depth : Option ℕ) → is_near depth None ≡ false
unfolding is_near
none_near None = refl
none_near (Some depth) = refl

near_enough : (depth : Option ℕ) (n : ℕ) → is_near depth (Some n) ≡ true → IsNear depth n
unfolding is_near
near_enough None n near = tt
near_enough (Some depth) n near = ltb-true n (max depth 1) near

nearer_too : (depth : Option ℕ) (n m : ℕ) → n ≤ m → IsNear depth m → is_near depth (Some n) ≡ true
unfolding is_near
nearer_too None n m up near = refl
nearer_too (Some depth) n m up near = lt-ltb n (max depth 1) (omega (arith, near, up))

module _ (g : Graph) (entry : PackageSpecOrExtended TreeSkipExtended) (roots : List ℕ) (placed : ArePlaced g.crates)
    (are_roots : roots ≡ map (λ c. c.place) (filter (matches (spec_view entry.spec)) g.crates)) where
  -- the crates that an entry matches are in the graph
  pub roots_within : All (λ root. root < length g.crates) roots
  roots_within = places_within g.crates placed (matches (spec_view entry.spec)) roots (length g.crates) are_roots refl

  led_by : (number : ℕ) (c : Crate) (t : IsInTree g (root_view number entry) c) → IsLedFromRoot g roots c.place t.edges
  led_by number c t = record {
    root = t.root.place;
    is_root = subst (λ (rs : List ℕ). Contains rs t.root.place) (sym are_roots)
        (contains_map (λ (c : Crate). c.place) (filter (matches (spec_view entry.spec)) g.crates) t.root
        (Contains-filter (matches (spec_view entry.spec)) g.crates t.root t.known t.matched));
    chain = t.chain;
  }

  in_tree : (number : ℕ) (c : Crate) (n : ℕ) → IsLedFromRoot g roots c.place n → IsNear (root_view number entry).depth n
      → IsInTree g (root_view number entry) c
  in_tree number c n led near =
      let made = Contains-from_map (λ (c : Crate). c.place) (filter (matches (spec_view entry.spec)) g.crates) led.root
      (subst (λ (rs : List ℕ). Contains rs led.root) are_roots led.is_root) in
      let kept = Contains-from_filter (matches (spec_view entry.spec)) g.crates made.from made.member in
      record {
        root = made.from;
        known = kept.0;
        matched = kept.1;
        edges = n;
        near = near;
        chain = subst (λ (a : ℕ). Chain g.edges a c.place n) (sym made.is) led.chain;
      }

  by_distance : (number : ℕ) (c : Crate) (d : Option ℕ) → IsCrateDistance g roots c.place d
      → IsTrue (is_near (root_view number entry).depth d) ↔ IsInTree g (root_view number entry) c
  by_distance number c None none = (
    λ near. absurd (false≢true (sym (none_near (root_view number entry).depth) ∙ near)),
    λ t. absurd (none t.edges (led_by number c t)),
  )
  by_distance number c (Some d) is = (
    λ near. in_tree number c d is.0 (near_enough (root_view number entry).depth d near),
    λ t. nearer_too (root_view number entry).depth d t.edges (is.1 t.edges (led_by number c t)) t.near,
  )

  pub tree_by_distances : (distances : List (Option ℕ)) (marks : List Bool) → AreCrateDistances g roots distances
      → marks ≡ map (is_near (option_and_then (λ skip. skip.depth) entry.inner)) distances → IsTreeOf g entry marks
  tree_by_distances distances marks are are_marks = record {
    each = λ number c is.
        let inside = place_within g.crates placed c is in
        let at : marked marks c ≡ is_near (root_view number entry).depth (distance_at distances c.place) =
        ap (λ ms. marked ms c) are_marks ∙ get_or-map
        (is_near (root_view number entry).depth) distances c.place None false (omega (arith, are.long, inside)) in
        subst (λ (b : Bool). IsTrue b ↔ IsInTree g (root_view number entry) c) (sym at)
        (by_distance number c (distance_at distances c.place) (are.each c.place inside));
  }

  -- an entry that matches no crate has no tree
  pub tree_of_none : length roots ≡ 0 → IsTreeOf g entry []
  tree_of_none none = record {
    each = λ number c is. (
      λ on. absurd (false≢true on),
      λ t. let here = (led_by number c t).is_root in absurd (omega (arith, here.1, none)),
    );
  }

-- the trees of entries, by their numbers

record HasTree (g : Graph) (at : ℕ) (trees : List (List Bool)) (t : Root) : Type 0 where
  pub entry : PackageSpecOrExtended TreeSkipExtended
  pub viewed : root_view t.number entry ≡ t
  pub from : at ≤ t.number
  pub is_tree : IsTreeOf g entry (slice_index_or trees (t.number - at) [])

has_tree : (g : Graph) (at : ℕ) (es : List (PackageSpecOrExtended TreeSkipExtended)) (trees : List (List Bool))
    (t : Root) → AllZip (IsTreeOf g) es trees → Contains (roots_from at es) t → HasTree g at trees t
has_tree g at [] trees t are is = absurd (no_member t is)
has_tree g at (e ∷ es) [] t are is = absurd are
has_tree g at (e ∷ es) (tree ∷ trees) t are is =
    Contains-by_cases (root_view at e) (roots_from (at + 1) es) t is
    (λ same.
    let number : at ≡ t.number = ap (λ (r : Root). r.number) same in
    let none : t.number - at ≡ 0 = omega arith in
    record {
      entry = e;
      viewed = ap (λ n. root_view n e) (sym number) ∙ same;
      from = omega arith;
      is_tree = subst (λ (k : ℕ). IsTreeOf g e (slice_index_or (tree ∷ trees) k [])) (sym none) are.0;
    })
    (λ later.
    let rest = has_tree g (at + 1) es trees t are.1 later in
    let next : t.number - at ≡ suc (t.number - (at + 1)) = omega (arith, rest.from) in
    record {
      entry = rest.entry;
      viewed = rest.viewed;
      from = omega (arith, rest.from);
      is_tree = subst (λ (k : ℕ). IsTreeOf g rest.entry (slice_index_or (tree ∷ trees) k [])) (sym next) rest.is_tree;
    })

pub in_trees : (g : Graph) (es : List (PackageSpecOrExtended TreeSkipExtended)) (trees : List (List Bool))
    → AllZip (IsTreeOf g) es trees
    → (t : Root) → Contains (roots_from 0 es) t → (c : Crate) → Contains g.crates c
    → IsTrue (marked (slice_index_or trees t.number []) c) ↔ IsInTree g t c
in_trees g es trees are t written c is =
    let has = has_tree g 0 es trees t are written in
    let same : t.number - 0 ≡ t.number = omega arith in
    subst (λ (r : Root). IsTrue (marked (slice_index_or trees t.number []) c) ↔ IsInTree g r c) has.viewed
    (subst (λ (k : ℕ). IsTrue (marked (slice_index_or trees k []) c) ↔ IsInTree g (root_view t.number has.entry) c) same
    (has.is_tree.each t.number c is))
