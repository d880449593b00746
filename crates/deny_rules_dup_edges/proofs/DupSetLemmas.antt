-- The numbers of edges, set by set, and the set with the fewest edges.
use Rattle.std.proofs.Common.{◌≡◌, ◌<◌, ◌+◌, ◌++◌, ℕ, zero, suc, List, [], ◌∷◌, Bool, true, false, Option, Some}
use Rattle.std.proofs.Common.{Contains, length, take, filter, slice_get, refl, sym, ap, ◌∙◌, subst, arith}
use Rattle.std.specs.Prelude.{All, cond, slice_index_or}
use Rattle.std.specs.List.{AllByRecursion, AllZip}
use Rattle.std.specs.List.Sorted.{IsStrictlySortedBy}
use Rattle.std.specs.Ordering.{nat_cmp}
use Rattle.std.specs.Cmp.{nat_cmp_is}
use Rattle.std.specs.declared.cmp.Ordering.TheVariants.{Less}
use Rattle.std.proofs.lemmas.Bool.{cond-true, cond-false}
use Rattle.std.proofs.lemmas.List.{append-nil}
use Rattle.std.proofs.lemmas.List.Elements.{All-contains, filter_more}
use Rattle.deny_base_lists.specs.Ascending.{Lists}
use Rattle.deny_base.specs.declared.edge.Edge.{Edge}
use Rattle.deny_krates.specs.Orderly.{IsOrderly}
use Rattle.deny_base_lists.proofs.Members.{Contains-by_cases, Contains-first, Contains-rest, from_there, no_member}
use Rattle.deny_base_lists.proofs.Members.{zip_push}
use Rattle.deny_spec.specs.Counting.{Chain}
use Rattle.deny_spec.specs.Graph.{Graph}
use Rattle.deny_rules_dup_edges.specs.private.Above.{AreAbove}
use Rattle.deny_base_lists.specs.Walk.{has_distance}
use Rattle.deny_rules_dup_edges.specs.DupEdges.{IsNumberOf}
use Rattle.deny_rules_dup_edges.specs.private.EdgeLists.{IsReachedNumber}
use Rattle.deny_krates.proofs.NeighbourLemmas.{child_holds}

-- ---- the numbers of the edges to crates that have a distance

-- the numbers of edges to crates that have a distance, in a list whose first edge has this number
abbrev pub numbers_from : List (Option ℕ) → ℕ → List Edge → List ℕ
numbers_from distances number [] = []
numbers_from distances number (e ∷ edges) = cond (has_distance distances e.child)
    (number ∷ numbers_from distances (number + 1) edges) (numbers_from distances (number + 1) edges)

module _ (distances : List (Option ℕ)) where
  above_all : (edges : List Edge) (low number : ℕ) → low < number
      → AllByRecursion (λ n. nat_cmp low n ≡ Less) (numbers_from distances number edges)
  above_all [] low number below = tt
  above_all (e ∷ edges) low number below = by_reached (has_distance distances e.child) (above_all edges low (number + 1)
      (omega arith))
    where
      by_reached : (b : Bool) → AllByRecursion (λ n. nat_cmp low n ≡ Less) (numbers_from distances (number + 1) edges)
          → AllByRecursion (λ n. nat_cmp low n ≡ Less) (cond b (number ∷ numbers_from distances (number + 1) edges)
          (numbers_from distances (number + 1) edges))
      by_reached true rest = (sym (nat_cmp_is low number Less below), rest)
      by_reached false rest = rest

  ascending : (edges : List Edge) (number : ℕ) → IsStrictlySortedBy nat_cmp (numbers_from distances number edges)
  unfolding IsStrictlySortedBy
  ascending [] number = tt
  ascending (e ∷ edges) number = by_reached (has_distance distances e.child) (ascending edges (number + 1))
    where
      by_reached : (b : Bool) → IsStrictlySortedBy nat_cmp (numbers_from distances (number + 1) edges)
          → IsStrictlySortedBy nat_cmp (cond b (number ∷ numbers_from distances (number + 1) edges)
          (numbers_from distances (number + 1) edges))
      by_reached true rest = (above_all edges number (number + 1) (omega arith), rest)
      by_reached false rest = rest

  -- a number is that of an edge at this offset from the first
  record IsNumberFrom (number : ℕ) (edges : List Edge) (n : ℕ) : Type 0 where
    pub offset : ℕ
    pub at : n ≡ number + offset
    pub edge : Edge
    pub numbered : slice_get edges offset ≡ Some edge
    pub reached : has_distance distances edge.child ≡ true

  sound_from : (edges : List Edge) (number n : ℕ) → Contains (numbers_from distances number edges) n
      → IsNumberFrom number edges n
  sound_from [] number n is = absurd (no_member n is)
  sound_from (e ∷ edges) number n is =
      by_reached (has_distance distances e.child) refl is (sound_from edges (number + 1) n)
    where
      later : IsNumberFrom (number + 1) edges n → IsNumberFrom number (e ∷ edges) n
      later of = record {
        offset = suc of.offset;
        at = omega (arith, of.at);
        edge = of.edge;
        numbered = of.numbered;
        reached = of.reached;
      }

      by_reached : (b : Bool) → has_distance distances e.child ≡ b
          → Contains (cond b (number ∷ numbers_from distances (number + 1) edges)
          (numbers_from distances (number + 1) edges)) n
          → (Contains (numbers_from distances (number + 1) edges) n → IsNumberFrom (number + 1) edges n)
          → IsNumberFrom number (e ∷ edges) n
      by_reached true reached is rest = Contains-by_cases number (numbers_from distances (number + 1) edges) n is
          (λ here. record { offset = 0; at = omega (arith, here); edge = e; numbered = refl; reached = reached })
          (λ there. later (rest there))
      by_reached false reached is rest = later (rest is)

  whole_from : (edges : List Edge) (number offset : ℕ) (edge : Edge) → slice_get edges offset ≡ Some edge
      → has_distance distances edge.child ≡ true → Contains (numbers_from distances number edges) (number + offset)
  whole_from [] number offset edge numbered reached = cc
  whole_from (e ∷ edges) number zero edge numbered reached =
      let same : e ≡ edge = cc in
      let here : has_distance distances e.child ≡ true =
      ap (λ (d : Edge). has_distance distances d.child) same ∙ reached in
      let first : number ≡ number + 0 = omega arith in
      subst (λ (ns : List ℕ). Contains ns (number + 0)) (sym (cond-true (has_distance distances e.child)
      (number ∷ numbers_from distances (number + 1) edges) (numbers_from distances (number + 1) edges) here))
      (subst (Contains (number ∷ numbers_from distances (number + 1) edges)) first
      (Contains-first number (numbers_from distances (number + 1) edges)))
  whole_from (e ∷ edges) number (suc offset) edge numbered reached =
      by_reached (has_distance distances e.child) (whole_from edges (number + 1) offset edge numbered reached)
    where
      same : (number + 1) + offset ≡ number + suc offset
      same = omega arith

      by_reached : (b : Bool) → Contains (numbers_from distances (number + 1) edges) ((number + 1) + offset)
          → Contains (cond b (number ∷ numbers_from distances (number + 1) edges)
          (numbers_from distances (number + 1) edges)) (number + suc offset)
      by_reached true rest = Contains-rest number (numbers_from distances (number + 1) edges) (number + suc offset)
          (subst (Contains (numbers_from distances (number + 1) edges)) same rest)
      by_reached false rest = subst (Contains (numbers_from distances (number + 1) edges)) same rest

  pub numbers_listed : (edges : List Edge) → Lists nat_cmp (IsReachedNumber distances edges)
      (numbers_from distances 0 edges)
  numbers_listed edges = record {
    ascending = ascending edges 0;
    whole = λ n is.
        let same : 0 + n ≡ n = omega arith in
        subst (Contains (numbers_from distances 0 edges)) same (whole_from edges 0 n is.edge is.numbered is.reached);
    sound = λ n is.
        let of = sound_from edges 0 n is in
        let same : of.offset ≡ n = omega (arith, of.at) in
        record { edge = of.edge; numbered = ap (slice_get edges) (sym same) ∙ of.numbered; reached = of.reached };
  }

-- ---- the set of one crate

pub set_numbers : (g : Graph) (edges : List Edge) (place : ℕ) (distances : List (Option ℕ)) (reached : List ℕ)
    (numbers : List ℕ) → IsOrderly g → All (λ e. Contains g.edges e) edges → AreAbove g (place ∷ []) distances reached
    → Lists nat_cmp (IsReachedNumber distances edges) numbers → Lists nat_cmp (IsNumberOf g edges place) numbers
set_numbers g edges place distances reached numbers orderly all above listed = record {
  ascending = listed.ascending;
  whole = λ n is.
      let inside = child_holds g orderly is.edge is.above.holds in
      listed.whole n record {
        edge = is.edge;
        numbered = is.numbered;
        reached = (above.each is.edge.child inside).1 record {
          place = place;
          is_one = Contains-first place [];
          leads = is.above.leads;
        };
      };
  sound = λ n is.
      let of = listed.sound n is in
      let holds = All-contains (λ e. Contains g.edges e) edges of.edge all (from_there edges n of.edge of.numbered) in
      let leads = (above.each of.edge.child (child_holds g orderly of.edge holds)).0 of.reached in
      let here : place ≡ leads.place = Contains-by_cases place [] leads.place leads.is_one (λ same. same)
      (λ none. absurd (no_member leads.place none)) in
      record {
        edge = of.edge;
        numbered = of.numbered;
        above = record {
          holds = holds;
          leads = record {
            length = leads.leads.length;
            chain = subst (λ (to : ℕ). Chain g.edges of.edge.child to leads.leads.length)
                (sym here) leads.leads.chain;
          };
        };
      };
}

-- ---- pairs of lists that grow together

one_more : {A : Type 0} (p : A → Bool) (xs : List A) (i : ℕ) (x : A) → i < length xs → x ≡ slice_index_or xs i x
    → filter p (take (i + 1) xs) ≡ filter p (take i xs) ++ cond (p x) (x ∷ []) []
one_more p xs i x inside is = filter_more p xs i x inside ∙ ap (λ y. filter p (take i xs) ++ cond (p y)
    (y ∷ []) []) (sym is)

-- one more element that passes keeps the lists in step
pub zip_kept : {A B : Type 0} (R : A → B → Type 0) (p : A → Bool) (xs : List A) (ys : List B) (i : ℕ) (x : A) (y : B)
    → i < length xs → x ≡ slice_index_or xs i x → p x ≡ true
    → AllZip R (filter p (take i xs)) ys → R x y → AllZip R (filter p (take (i + 1) xs)) (ys ++ y ∷ [])
zip_kept {A} {B} R p xs ys i x y inside is passes zip of =
    let more = one_more p xs i x inside is ∙ ap (λ (zs : List A). filter p (take i xs) ++ zs)
    (cond-true (p x) (x ∷ []) [] passes) in
    subst (λ (zs : List A). AllZip R zs (ys ++ y ∷ [])) (sym more) (zip_push R (filter p (take i xs)) ys x y zip of)

-- one more element that does not pass keeps the lists in step
pub zip_passed : {A B : Type 0} (R : A → B → Type 0) (p : A → Bool) (xs : List A) (ys : List B) (i : ℕ) (x : A)
    → i < length xs → x ≡ slice_index_or xs i x → p x ≡ false
    → AllZip R (filter p (take i xs)) ys → AllZip R (filter p (take (i + 1) xs)) ys
zip_passed {A} {B} R p xs ys i x inside is fails zip =
    let more = one_more p xs i x inside is ∙ (ap (λ (zs : List A). filter p (take i xs) ++ zs)
    (cond-false (p x) (x ∷ []) [] fails) ∙ append-nil (filter p (take i xs))) in
    subst (λ (zs : List A). AllZip R zs ys) (sym more) zip
