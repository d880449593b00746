-- The direct dependents that are collected from the incoming edges are those of the graph.
use Rattle.deny_base_lists.proofs.Members.{contains_map, filter_keeps, from_contains_map, from_there, there}
use Rattle.std.proofs.Common.{◌≡◌, ◌⊎◌, ◌<◌, ◌≤◌, ◌+◌, ◌++◌, ℕ, zero, suc, inl, inr, List, [], ◌∷◌, Bool, true, false}
use Rattle.std.proofs.Common.{Some, length, map, refl, sym, ap, ◌∙◌, subst, arith, add-zero, append_assoc, append-nil}
use Rattle.std.specs.Prelude.{◌==◌, ◌||◌, All, Contains, cond, fold, slice_get, slice_index_or}
use mathlib.Core.Path.{fun_ext}
use Rattle.std.specs.Cmp.{nat_cmp_total}
use Rattle.std.specs.Cmp.Lexicographic.{slice_cmp}
use Rattle.std.specs.FinMap.{nat_cmp-IsAntisymmetric}
use Rattle.std.specs.List.{AllByRecursion, list_any}
use Rattle.std.specs.List.Sorted.{IsStrictlySortedBy}
use Rattle.std.specs.Option.{option_map_or}
use Rattle.std.specs.Ordering.{nat_cmp, on, ordering_then}
use Rattle.std.specs.declared.cmp.Ordering.{Ordering}
use Rattle.std.specs.declared.cmp.Ordering.TheVariants.{Less, Equal, Greater}
use Rattle.std.proofs.lemmas.Bool.{and_parts, cases_eq, cases_lt, eq-eqb, eqb-true, ne_eqb}
use Rattle.std.proofs.lemmas.Bool.Decides.{nat_tests}
use Rattle.std.proofs.lemmas.List.Elements.{All-contains, Contains-append_left, Contains-append_right, Contains-push}
use Rattle.std.proofs.lemmas.List.Elements.{Contains-push_cases, filter_passes}
use Rattle.std.proofs.lemmas.List.{map-id}
use Rattle.std.proofs.lemmas.Option.{none-some, get_or_from_slice_get, slice_get_within, slice_get-get_or}
use Rattle.std.proofs.lemmas.Map.Keys.{any_passes_from_place}
use Rattle.deny_base_lists.specs.Ascending.{Lists}
use Rattle.deny_base.specs.Edge.{kind_cmp, kind_number}
use Rattle.deny_base.specs.declared.edge.DepKind.{DepKind}
use Rattle.deny_base.specs.declared.edge.Edge.{Edge}
use Rattle.deny_spec.specs.Graph.{Crate, dependents, leads}
use Rattle.deny_krates_graph.specs.Crates.{crate_view, crates_from, graph_of}
use Rattle.deny_krates_graph.specs.Dependents.{AreDirectDependents, IsLeastKind}
use Rattle.deny_krates_graph.specs.private.Direct.{AreRanks, incoming_cmp, incoming_of, id_in, is_last, rank_in}
use Rattle.deny_krates_graph.specs.private.Direct.{with_incoming}
use Rattle.deny_krates_graph.specs.declared.direct.IncomingEdge.{IncomingEdge}
use Rattle.deny_krates_graph.specs.declared.krate.DirectDependent.{DirectDependent}
use Rattle.deny_krates_graph.specs.declared.krate.Krate.{Krate}
use Rattle.deny_base_lists.proofs.Orders.{below_or_tie, not_below_itself}
use Rattle.deny_krates_graph.proofs.GraphLemmas.{last_is}
use Rattle.deny_base_lists.proofs.Sorted.{ascends_at, ascends_map}
use Rattle.deny_base_lists.proofs.Indices.{slice_get-append_some}
use Rattle.deny_base_lists.proofs.Numbers.{less_from_nat_cmp}
use Rattle.deny_spec.specs.declared.target_edge.TargetEdge.{TargetEdge}

abbrev pub rank_order : (ℕ → ℕ) → DirectDependent → DirectDependent → Ordering
rank_order rank = on (λ d. rank d.place) nat_cmp

nat_same : (m n : ℕ) → m ≡ n → nat_cmp m n ≡ Equal
nat_same m n same = grind (arith, nat_tests)

-- a dependent in a row is the parent of an incoming edge, with the least kind
pub record HasIncoming (child : ℕ) (done : List IncomingEdge) (d : DirectDependent) : Type 0 where
  pub edge : IncomingEdge
  pub holds : Contains done edge
  pub own : edge.child ≡ child
  pub parent : edge.parent ≡ d.place
  pub kind : edge.kind ≡ d.kind
  pub least : (b : IncomingEdge) → Contains done b → b.child ≡ child → b.parent ≡ d.place
      → kind_number d.kind ≤ kind_number b.kind

pub record HasDependent (row : List DirectDependent) (place : ℕ) : Type 0 where
  pub dependent : DirectDependent
  pub holds : Contains row dependent
  pub is : dependent.place ≡ place

-- the row of a child, after these incoming edges
pub record IsRow (rank : ℕ → ℕ) (child : ℕ) (done : List IncomingEdge) (row : List DirectDependent) : Type 0 where
  pub ascending : IsStrictlySortedBy (rank_order rank) row
  pub sound : (d : DirectDependent) → Contains row d → HasIncoming child done d
  pub whole : (a : IncomingEdge) → Contains done a → a.child ≡ child → HasDependent row a.parent

kind_below : (a b : DepKind) → (kind_cmp a b ≡ Less) ⊎ (kind_cmp a b ≡ Equal) → kind_number a ≤ kind_number b
kind_below a b e = numbers (kind_number a) (kind_number b) e
  where
    numbers : (m n : ℕ) → (nat_cmp m n ≡ Less) ⊎ (nat_cmp m n ≡ Equal) → m ≤ n
    numbers m n e = grind (arith, nat_tests)

sorted_push : {A : Type 0} (cmp : A → A → Ordering) (xs : List A) (y : A) → IsStrictlySortedBy cmp xs
    → ((x : A) → Contains xs x → cmp x y ≡ Less) → IsStrictlySortedBy cmp (xs ++ y ∷ [])
unfolding IsStrictlySortedBy
sorted_push cmp [] y up below = (tt, tt)
sorted_push {A} cmp (x ∷ xs) y up below = (
  all_push xs up.0,
  sorted_push cmp xs y up.1
      (λ z is. below z (from_there (x ∷ xs) (suc (there xs z is).0) z (there xs z is).1)),
)
  where
    all_push : (zs : List A) → AllByRecursion (λ z. cmp x z ≡ Less) zs
        → AllByRecursion (λ z. cmp x z ≡ Less) (zs ++ y ∷ [])
    all_push [] all = (below x (from_there (x ∷ xs) 0 x refl), tt)
    all_push (z ∷ zs) all = (all.0, all_push zs all.1)

-- a dependent in a row is the last, or is below another
last_or_below : (rank : ℕ → ℕ) (row : List DirectDependent) (k : ℕ) (d : DirectDependent)
    → IsStrictlySortedBy (rank_order rank) row → slice_get row k ≡ Some d
    → (is_last row d.place ≡ true) ⊎ ((e : DirectDependent) × Contains row e × (rank_order rank d e ≡ Less))
last_or_below rank row k d up at =
    elim (cases_lt (suc k) (length row)) as (λ _. (is_last row d.place ≡ true)
    ⊎ ((e : DirectDependent) × Contains row e × (rank_order rank d e ≡ Less))) [
      | inl more ↦ inr (after more)
      | inr no_more ↦ inl (last_is row k d.place d (omega (arith, no_more, slice_get_within row k d at)) at ∙ eq-eqb
          d.place
          d.place refl)
    ]
  where
    after : suc k < length row → (e : DirectDependent) × Contains row e × (rank_order rank d e ≡ Less)
    after more =
        let e = slice_index_or row (suc k) d in
        let there_is = slice_get-get_or row (suc k) d more in (
          e,
          from_there row (suc k) e there_is,
          ascends_at (rank_order rank) row k (suc k) d e up (omega arith) at there_is,
        )

-- a row that ends with a dependent has it
ends : (row : List DirectDependent) (place : ℕ) → is_last row place ≡ true → HasDependent row place
ends [] place is = cc
ends (d ∷ []) place is = record { dependent = d; holds = from_there (d ∷ []) 0 d refl; is = eqb-true d.place place is }
ends (d ∷ e ∷ ds) place is =
    let later = ends (e ∷ ds) place is in
    let at = there (e ∷ ds) later.dependent later.holds in
    record {
      dependent = later.dependent;
      holds = from_there (d ∷ e ∷ ds) (suc at.0) later.dependent at.1;
      is = later.is;
    }

module _ (rank : ℕ → ℕ) (child : ℕ) (done : List IncomingEdge) (row : List DirectDependent) (a : IncomingEdge)
    (is : IsRow rank child done row)
    (named : (b : IncomingEdge) → Contains done b → b.rank ≡ rank b.parent) (named_too : a.rank ≡ rank a.parent)
    (apart : (b : IncomingEdge) → Contains done b → rank b.parent ≡ rank a.parent → b.parent ≡ a.parent)
    (above : (b : IncomingEdge) → Contains done b → incoming_cmp b a ≡ Less) where
  -- another crate's incoming edge
  other_child : (a.child ≡ child → ⊥) → IsRow rank child (done ++ a ∷ []) row
  other_child other = record {
    ascending = is.ascending;
    sound = λ d holds. let had = is.sound d holds in record {
      edge = had.edge;
      holds = Contains-append_left done (a ∷ []) had.edge had.holds;
      own = had.own;
      parent = had.parent;
      kind = had.kind;
      least = λ b there_is own same. elim (Contains-push_cases done a b there_is) as (λ _. kind_number d.kind
          ≤ kind_number b.kind) [
            | inl before ↦ had.least b before own same
            | inr here ↦ absurd (other (ap (λ (x : IncomingEdge). x.child) here ∙ own))
          ];
    };
    whole = λ b there_is own. elim (Contains-push_cases done a b there_is) as (λ _. HasDependent row b.parent) [
      | inl before ↦ is.whole b before own
      | inr here ↦ absurd (other (ap (λ (x : IncomingEdge). x.child) here ∙ own))
    ];
  }

  -- an incoming edge of the same child before it has a lower rank, or the same and no greater kind
  after_child : (b : IncomingEdge) → Contains done b → b.child ≡ a.child
      → ordering_then (nat_cmp b.rank a.rank) (ordering_then (kind_cmp b.kind a.kind) (nat_cmp b.parent a.parent))
      ≡ Less
  after_child b holds same = second_less (nat_cmp b.child a.child) _ (above b holds) (nat_same b.child a.child same)
    where
      second_less : (o p : Ordering) → ordering_then o p ≡ Less → o ≡ Equal → p ≡ Less
      second_less Less p e h = cc
      second_less Equal p e h = e
      second_less Greater p e h = cc

  same_parent_kind : (b : IncomingEdge) → Contains done b → b.child ≡ a.child → b.parent ≡ a.parent
      → kind_number b.kind ≤ kind_number a.kind
  same_parent_kind b holds own same =
      kind_below b.kind a.kind (below_or_tie (kind_cmp b.kind a.kind) (nat_cmp b.parent a.parent)
      (tie_then (nat_cmp b.rank a.rank) _ (after_child b holds own)
      (nat_same b.rank a.rank (named b holds ∙ (ap rank same ∙ sym named_too)))))
    where
      tie_then : (o p : Ordering) → ordering_then o p ≡ Less → o ≡ Equal → p ≡ Less
      tie_then Less p e h = cc
      tie_then Equal p e h = e
      tie_then Greater p e h = cc

  -- the row has the incoming edge's parent at its end already
  known_parent : a.child ≡ child → is_last row a.parent ≡ true → IsRow rank child (done ++ a ∷ []) row
  known_parent own last = record {
    ascending = is.ascending;
    sound = λ d holds. let had = is.sound d holds in record {
      edge = had.edge;
      holds = Contains-append_left done (a ∷ []) had.edge had.holds;
      own = had.own;
      parent = had.parent;
      kind = had.kind;
      least = λ b there_is own_too same. elim (Contains-push_cases done a b there_is) as (λ _. kind_number d.kind
          ≤ kind_number b.kind) [
            | inl before ↦ had.least b before own_too same
            | inr here ↦
                let lower = same_parent_kind had.edge had.holds (had.own ∙ sym own)
                (had.parent ∙ (sym same ∙ ap (λ (x : IncomingEdge). x.parent) (sym here))) in
                subst (λ (x : IncomingEdge). kind_number d.kind ≤ kind_number x.kind) here
                (subst (λ (kind : DepKind). kind_number kind ≤ kind_number a.kind) had.kind lower)
          ];
    };
    whole = λ b there_is own_too. elim (Contains-push_cases done a b there_is) as (λ _. HasDependent row b.parent) [
      | inl before ↦ is.whole b before own_too
      | inr here ↦ subst (λ (x : IncomingEdge). HasDependent row x.parent) here (ends row a.parent last)
    ];
  }

  -- all of the row are below the incoming edge's parent, if that is not its last
  rank_upto : (d : DirectDependent) → Contains row d → a.child ≡ child
      → (nat_cmp (rank d.place) (rank a.parent) ≡ Less) ⊎ (nat_cmp (rank d.place) (rank a.parent) ≡ Equal)
  rank_upto d holds own =
      let had = is.sound d holds in
      let named_d : had.edge.rank ≡ rank d.place = named had.edge had.holds ∙ ap rank had.parent in
      let le = below_or_tie (nat_cmp had.edge.rank a.rank) _
      (after_child had.edge had.holds (had.own ∙ sym own)) in
      subst (λ (t : ℕ). (nat_cmp (rank d.place) t ≡ Less) ⊎ (nat_cmp (rank d.place) t ≡ Equal))
      named_too
      (subst (λ (t : ℕ). (nat_cmp t a.rank ≡ Less) ⊎ (nat_cmp t a.rank ≡ Equal)) named_d le)

  all_below : a.child ≡ child → is_last row a.parent ≡ false → (d : DirectDependent) → Contains row d
      → nat_cmp (rank d.place) (rank a.parent) ≡ Less
  all_below own not_last d holds =
      elim (rank_upto d holds own) as (λ _. nat_cmp (rank d.place) (rank a.parent) ≡ Less) [
        | inl below ↦ below
        | inr tie ↦ absurd (tied tie)
      ]
    where
      tied : nat_cmp (rank d.place) (rank a.parent) ≡ Equal → ⊥
      tied tie =
          let had = is.sound d holds in
          let place : d.place ≡ a.parent = sym had.parent ∙ apart had.edge had.holds
          (ap rank had.parent ∙ nat_cmp-IsAntisymmetric (rank d.place) (rank a.parent) tie) in
          let at = there row d holds in
          elim (last_or_below rank row at.0 d is.ascending at.1) as (λ _. ⊥) [
            | inl last ↦ true-false (sym (subst (λ (p : ℕ). is_last row p ≡ true) place last) ∙ not_last)
            | inr above_it ↦ not_back above_it (nat_cmp-IsAntisymmetric (rank d.place) (rank a.parent) tie)
          ]
        where
          true-false : true ≡ false → ⊥
          true-false e = absurd (cc)

          not_back : (e : DirectDependent) × Contains row e × (rank_order rank d e ≡ Less)
              → rank d.place ≡ rank a.parent → ⊥
          not_back up same = elim (rank_upto up.0 up.1 own) as (λ _. ⊥) [
            | inl below ↦ not_below_itself nat_cmp nat_cmp_total (rank d.place) (rank a.parent) same
                (nat_cmp_total.trans (rank d.place) (rank up.0.place) (rank a.parent) up.2 below)
            | inr level ↦ not_below_itself nat_cmp nat_cmp_total (rank d.place) (rank up.0.place)
                (same ∙ sym (nat_cmp-IsAntisymmetric (rank up.0.place) (rank a.parent) level)) up.2
          ]

  new_dependent : DirectDependent
  new_dependent = record { place = a.parent; kind = a.kind }

  new_parent : a.child ≡ child → is_last row a.parent ≡ false
      → IsRow rank child (done ++ a ∷ []) (row ++ new_dependent ∷ [])
  unfolding new_dependent
  new_parent own not_last = record {
    ascending = sorted_push (rank_order rank) row new_dependent is.ascending (all_below own not_last);
    sound = λ d holds. elim (Contains-push_cases row new_dependent d holds) as (λ _. HasIncoming child
        (done ++ a ∷ []) d) [
          | inl before ↦ old d before
          | inr here ↦ subst (λ (x : DirectDependent). HasIncoming child (done ++ a ∷ []) x) here fresh
        ];
    whole = λ b there_is own_too. elim (Contains-push_cases done a b there_is) as (λ _. HasDependent
        (row ++ new_dependent ∷ []) b.parent) [
          | inl before ↦ let had = is.whole b before own_too in
              record {
                dependent = had.dependent;
                holds = Contains-append_left row (new_dependent ∷ []) had.dependent
                    had.holds;
                is = had.is;
              }
          | inr here ↦ record {
            dependent = new_dependent;
            holds = Contains-push row new_dependent;
            is = ap
                (λ (x : IncomingEdge). x.parent) here;
          }
        ];
  }
    where
      differ : (d : DirectDependent) → Contains row d → d.place ≡ a.parent → ⊥
      differ d holds same = not_below_itself nat_cmp nat_cmp_total (rank d.place) (rank a.parent)
          (ap rank same) (all_below own not_last d holds)

      old : (d : DirectDependent) → Contains row d → HasIncoming child (done ++ a ∷ []) d
      old d holds = let had = is.sound d holds in record {
        edge = had.edge;
        holds = Contains-append_left done (a ∷ []) had.edge had.holds;
        own = had.own;
        parent = had.parent;
        kind = had.kind;
        least = λ b there_is own_too same. elim (Contains-push_cases done a b there_is) as (λ _. kind_number d.kind
            ≤ kind_number b.kind) [
              | inl before ↦ had.least b before own_too same
              | inr here ↦ absurd (differ d holds (sym same ∙ ap (λ (x : IncomingEdge). x.parent) (sym here)))
            ];
      }

      fresh : HasIncoming child (done ++ a ∷ []) new_dependent
      fresh = record {
        edge = a;
        holds = Contains-push done a;
        own = own;
        parent = refl;
        kind = refl;
        least = λ b there_is own_too same. elim (Contains-push_cases done a b there_is) as (λ _. kind_number a.kind
            ≤ kind_number b.kind) [
              | inl before ↦ absurd (let had = is.whole b before own_too in differ had.dependent had.holds
                  (had.is ∙ same))
              | inr here ↦ subst (λ (x : IncomingEdge). kind_number a.kind ≤ kind_number x.kind) here (omega arith)
            ];
      }

  next_row : IsRow rank child (done ++ a ∷ []) (with_incoming child row a)
  unfolding new_dependent
  next_row = elim (cases_eq a.child child) as (λ _. IsRow rank child (done ++ a ∷ []) (with_incoming child row a)) [
    | inl own ↦ rw (eq-eqb a.child child own) (by_last own (is_last row a.parent) refl)
    | inr other ↦ rw (ne_eqb a.child child other) (other_child other)
  ]
    where
      by_last : a.child ≡ child → (b : Bool) → is_last row a.parent ≡ b
          → IsRow rank child (done ++ a ∷ []) (cond b row (row ++ (record { place = a.parent; kind = a.kind }) ∷ []))
      by_last own true last = known_parent own last
      by_last own false last = new_parent own last

-- ---- all incoming edges

no_row : (rank : ℕ → ℕ) (child : ℕ) → IsRow rank child [] []
unfolding IsStrictlySortedBy
no_row rank child = record {
  ascending = tt;
  sound = λ d holds. absurd (none-some d (there [] d holds).1);
  whole = λ a holds own. absurd (none-some a (there [] a holds).1);
}

get_seam : {A : Type 0} (xs : List A) (y : A) (ys : List A) → slice_get (xs ++ y ∷ ys) (length xs) ≡ Some y
get_seam [] y ys = refl
get_seam (x ∷ xs) y ys = get_seam xs y ys

rows_on : (rank : ℕ → ℕ) (child : ℕ) (done rest : List IncomingEdge) (row : List DirectDependent)
    → IsRow rank child done row
    → ((b : IncomingEdge) → Contains (done ++ rest) b → b.rank ≡ rank b.parent)
    → ((b c : IncomingEdge) → Contains (done ++ rest) b → Contains (done ++ rest) c → rank b.parent ≡ rank c.parent
    → b.parent ≡ c.parent)
    → IsStrictlySortedBy incoming_cmp (done ++ rest)
    → IsRow rank child (done ++ rest) (fold (with_incoming child) row rest)
rows_on rank child done [] row is named apart up =
    subst (λ (prefix : List IncomingEdge). IsRow rank child prefix row) (sym (append-nil done)) is
rows_on rank child done (a ∷ rest) row is named apart up =
    let whole : (done ++ a ∷ []) ++ rest ≡ done ++ a ∷ rest = append_assoc done (a ∷ []) rest in
    let here : Contains (done ++ a ∷ rest) a = Contains-append_right done (a ∷ rest) a
    (from_there (a ∷ rest) 0 a refl) in
    let before = λ (b : IncomingEdge) (holds : Contains done b). Contains-append_left done (a ∷ rest) b holds in
    let next = next_row rank child done row a is (λ b holds. named b (before b holds)) (named a here)
    (λ b holds same. apart b a (before b holds) here same)
    (λ b holds. let at = there done b holds in
    ascends_at incoming_cmp (done ++ a ∷ rest) at.0 (length done) b a up (slice_get_within done at.0 b at.1)
    (slice_get-append_some done (a ∷ rest) at.0 b at.1) (get_seam done a rest)) in
    let P : List IncomingEdge → Type 0 = λ xs. IsRow rank child xs
    (fold (with_incoming child) (with_incoming child row a) rest) in
    subst P whole (rows_on rank child (done ++ a ∷ []) rest (with_incoming child row a) next
    (λ b holds. named b (subst (λ (xs : List IncomingEdge). Contains xs b) whole holds))
    (λ b c holds holds' same. apart b c (subst (λ (xs : List IncomingEdge). Contains xs b) whole holds)
    (subst (λ (xs : List IncomingEdge). Contains xs c) whole holds') same)
    (subst (λ (xs : List IncomingEdge). IsStrictlySortedBy incoming_cmp xs) (sym whole) up))

rows_are : (rank : ℕ → ℕ) (child : ℕ) (incoming : List IncomingEdge)
    → ((b : IncomingEdge) → Contains incoming b → b.rank ≡ rank b.parent)
    → ((b c : IncomingEdge) → Contains incoming b → Contains incoming c → rank b.parent ≡ rank c.parent → b.parent
    ≡ c.parent)
    → IsStrictlySortedBy incoming_cmp incoming → IsRow rank child incoming (fold (with_incoming child) [] incoming)
rows_are rank child incoming named apart up = rows_on rank child [] incoming [] (no_row rank child) named apart up

-- ---- the rows are those of the graph

id_in_graph : (first : ℕ) (ks : List Krate) (place : ℕ)
    → option_map_or (λ (c : Crate). c.id) (slice_get (crates_from first ks) place) [] ≡ id_in ks place
id_in_graph first [] place = refl
id_in_graph first (k ∷ ks) zero = refl
id_in_graph first (k ∷ ks) (suc place) = id_in_graph (first + 1) ks place

any_one : {A : Type 0} (p : A → Bool) (xs : List A) → list_any p xs ≡ true → (x : A) × Contains xs x × (p x ≡ true)
any_one p [] is = cc
any_one {A} p (x ∷ xs) is = by_test (any_one p xs) (p x) refl is
  where
    by_test : (list_any p xs ≡ true → (y : A) × Contains xs y × (p y ≡ true)) → (b : Bool) → p x ≡ b
        → (b || list_any p xs) ≡ true → (y : A) × Contains (x ∷ xs) y × (p y ≡ true)
    by_test rest true passes e = (x, from_there (x ∷ xs) 0 x refl, passes)
    by_test rest false fails e = let later =
        rest e in let at = there xs later.0 later.1 in (later.0, from_there (x ∷ xs) (suc at.0) later.0 at.1, later.2)

leads_from : (parent child : ℕ) (e : Edge) → leads parent child e ≡ true → (e.parent ≡ parent) × (e.child ≡ child)
unfolding leads
leads_from parent child e is = (
  eqb-true e.parent parent ((and_parts _ _ is).0),
  eqb-true e.child child
      ((and_parts (e.parent == parent) (e.child == child) is).1),
)

leads_to : (parent child : ℕ) (e : Edge) → e.parent ≡ parent → e.child ≡ child → leads parent child e ≡ true
unfolding leads
leads_to parent child e a b = rw (eq-eqb e.parent parent a, eq-eqb e.child child b) refl

pub crate_place : (first : ℕ) (ks : List Krate) (place : ℕ) → place < length ks
    → (c : Crate) × (slice_get (crates_from first ks) place ≡ Some c) × (c.place ≡ first + place)
crate_place first [] place inside = absurd (omega (arith, inside))
crate_place first (k ∷ ks) zero inside = (crate_view first k, refl, sym (add-zero first))
crate_place first (k ∷ ks) (suc place) inside =
    let later = crate_place (first + 1) ks place (omega (arith, inside)) in
    let moved : (first + 1) + place ≡ first + suc place = omega arith in
    (later.0, later.1, later.2 ∙ moved)

edge_again : ℕ → ℕ → DepKind → Edge
edge_again parent child kind = record { parent = parent; child = child; kind = kind }

edge_again-is : (x : Edge) → edge_again x.parent x.child x.kind ≡ x
unfolding edge_again
edge_again-is x = refl

edge_is : (e : Edge) (parent child : ℕ) (kind : DepKind) → e.parent ≡ parent → e.child ≡ child → e.kind ≡ kind
    → e ≡ record { parent = parent; child = child; kind = kind }
unfolding edge_again
edge_is e parent child kind a b c =
    let same : edge_again e.parent e.child e.kind ≡ edge_again parent child kind = cc in
    sym (edge_again-is e) ∙ same

module _ (targeted : List TargetEdge) (root : List ℕ) (krates : List Krate) (members : List ℕ) (edges : List Edge)
    (incoming : List IncomingEdge)
    (ranks : List ℕ) (are : AreRanks krates ranks)
    (lists : Lists incoming_cmp (Contains (map (incoming_of ranks) edges)) incoming)
    (parents : All (λ e. e.parent < length krates) edges) where
  incoming_edge : (a : IncomingEdge) → Contains incoming a → (e : Edge) × Contains edges e × (incoming_of ranks e ≡ a)
  incoming_edge a holds = from_contains_map (incoming_of ranks) edges a (lists.sound a holds)

  edge_incoming : (e : Edge) → Contains edges e → Contains incoming (incoming_of ranks e)
  edge_incoming e holds = lists.whole (incoming_of ranks e) (contains_map (incoming_of ranks) edges e holds)

  incoming_named : (b : IncomingEdge) → Contains incoming b → b.rank ≡ rank_in ranks b.parent
  incoming_named b holds = let from = incoming_edge b holds in sym (ap (λ (x : IncomingEdge). x.rank) from.2) ∙ ap
      (λ (x : IncomingEdge). rank_in ranks x.parent) from.2

  incoming_inside : (b : IncomingEdge) → Contains incoming b → b.parent < length krates
  incoming_inside b holds =
      let from = incoming_edge b holds in
      subst (λ (x : IncomingEdge). x.parent < length krates) from.2
      (All-contains (λ e. e.parent < length krates) edges from.0 parents from.1)

  pub dependents_are : (child : ℕ)
      → AreDirectDependents (graph_of targeted root krates members edges) child (fold (with_incoming child) [] incoming)
  unfolding dependents
  dependents_are child = record {
    ascending = subst (λ (f : ℕ → List ℕ). IsStrictlySortedBy (on (λ d. f d.place) (slice_cmp nat_cmp))
        (fold (with_incoming child) [] incoming)) (sym (fun_ext (λ p. id_in_graph 0 krates p))) by_ids;
    whole = λ k d inside. crate_there
        (slice_index_or (dependents (graph_of targeted root krates members edges) child) k d)
        (from_there (dependents (graph_of targeted root krates members edges) child) k _
        (slice_get-get_or (dependents (graph_of targeted root krates members edges) child) k d inside));
    sound = λ k d inside. dependent_there (slice_index_or (fold (with_incoming child) [] incoming) k d)
        (from_there (fold (with_incoming child) [] incoming) k _
        (slice_get-get_or (fold (with_incoming child) [] incoming) k d inside));
    kinds = λ k d inside. least_kind (slice_index_or (fold (with_incoming child) [] incoming) k d)
        (from_there (fold (with_incoming child) [] incoming) k _
        (slice_get-get_or (fold (with_incoming child) [] incoming) k d inside));
  }
    where
      row : IsRow (rank_in ranks) child incoming (fold (with_incoming child) [] incoming)
      row = rows_are (rank_in ranks) child incoming incoming_named
          (λ b c holds holds' same. are.apart b.parent c.parent (incoming_inside b holds)
          (incoming_inside c holds') same) lists.ascending

      inside : (d : DirectDependent) → Contains (fold (with_incoming child) [] incoming) d → d.place < length krates
      inside d holds =
          let had = row.sound d holds in
          subst (λ (n : ℕ). n < length krates) had.parent (incoming_inside had.edge had.holds)

      by_ids : IsStrictlySortedBy (on (λ d. id_in krates d.place) (slice_cmp nat_cmp))
          (fold (with_incoming child) [] incoming)
      by_ids = subst (λ (ds : List DirectDependent). IsStrictlySortedBy
          (on (λ d. id_in krates d.place) (slice_cmp nat_cmp)) ds) (map-id (fold (with_incoming child) [] incoming))
          (ascends_map (rank_order (rank_in ranks)) (on (λ d. id_in krates d.place) (slice_cmp nat_cmp))
          (λ (d : DirectDependent). d) (λ d. d.place < length krates) (fold (with_incoming child) [] incoming)
          (λ d e in_d in_e below. are.below d.place e.place in_d in_e
          (less_from_nat_cmp (rank_in ranks d.place) (rank_in ranks e.place) below)) inside row.ascending)

      crate_there : (c : Crate) → Contains (dependents (graph_of targeted root krates members edges) child) c
          → Contains (map (λ d. d.place) (fold (with_incoming child) [] incoming)) c.place
      crate_there c holds =
          let at = there (dependents (graph_of targeted root krates members edges) child) c holds in
          let passes : list_any (leads c.place child) edges ≡ true = subst
          (λ (x : Crate). list_any (leads x.place child) edges ≡ true)
          (get_or_from_slice_get (dependents (graph_of targeted root krates members edges) child) at.0 c c at.1)
          (filter_passes (λ (p : Crate). list_any (leads p.place child) edges) (crates_from 0 krates) at.0 c
          (slice_get_within (dependents (graph_of targeted root krates members edges) child) at.0 c at.1)) in
          let edge = any_one (leads c.place child) edges passes in
          let ends_at = leads_from c.place child edge.0 edge.2 in
          let had = row.whole (incoming_of ranks edge.0) (edge_incoming edge.0 edge.1) ends_at.1 in
          subst (λ (p : ℕ). Contains (map (λ d. d.place) (fold (with_incoming child) [] incoming)) p)
          (had.is ∙ ends_at.0) (contains_map (λ (d : DirectDependent). d.place) (fold (with_incoming child) [] incoming)
          had.dependent had.holds)

      dependent_there : (d : DirectDependent) → Contains (fold (with_incoming child) [] incoming) d
          → Contains (map (λ (c : Crate). c.place) (dependents (graph_of targeted root krates members edges) child))
          d.place
      dependent_there d holds =
          let had = row.sound d holds in
          let edge = incoming_edge had.edge had.holds in
          let parent : edge.0.parent ≡ d.place = ap (λ (x : IncomingEdge). x.parent) edge.2 ∙ had.parent in
          let own : edge.0.child ≡ child = ap (λ (x : IncomingEdge). x.child) edge.2 ∙ had.own in
          let c = crate_place 0 krates d.place
          (subst (λ (n : ℕ). n < length krates) had.parent (incoming_inside had.edge had.holds)) in
          let place : c.0.place ≡ d.place = c.2 ∙ zero_plus d.place in
          let at = there edges edge.0 edge.1 in
          let passes : list_any (leads c.0.place child) edges ≡ true =
          any_passes_from_place (leads c.0.place child) edges at.0 edge.0
          at.1 (leads_to c.0.place child edge.0 (parent ∙ sym place) own) in
          subst (λ (p : ℕ). Contains (map (λ (c : Crate). c.place)
          (dependents (graph_of targeted root krates members edges) child)) p) place
          (contains_map (λ (c : Crate). c.place) (dependents (graph_of targeted root krates members edges) child) c.0
          (filter_keeps (λ (p : Crate). list_any (leads p.place child) edges) (crates_from 0 krates) d.place c.0 c.1
          passes))
        where
          zero_plus : (n : ℕ) → 0 + n ≡ n
          zero_plus n = omega arith

      least_kind : (d : DirectDependent) → Contains (fold (with_incoming child) [] incoming) d
          → IsLeastKind edges (λ parent kind. record { parent = parent; child = child; kind = kind }) d
      least_kind d holds =
          let had = row.sound d holds in
          let edge = incoming_edge had.edge had.holds in
          record {
            holds = subst (λ (e : Edge). Contains edges e)
                (edge_is edge.0 d.place child d.kind (ap (λ (x : IncomingEdge). x.parent) edge.2 ∙ had.parent)
                (ap (λ (x : IncomingEdge). x.child) edge.2 ∙ had.own)
                (ap (λ (x : IncomingEdge). x.kind) edge.2 ∙ had.kind)) edge.1;
            least = λ kind there_is. had.least
                (incoming_of ranks (record { parent = d.place; child = child; kind = kind }))
                (edge_incoming (record { parent = d.place; child = child; kind = kind }) there_is) refl refl;
          }
