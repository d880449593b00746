-- The crates of ids, and the ranks of crates by their ids.
use Rattle.std.proofs.Common.{◌≡◌, ◌<◌, ◌≤◌, ◌+◌, ◌++◌, ℕ, zero, suc, inl, inr, List, [], ◌∷◌, Bool, true, false}
use Rattle.std.proofs.Common.{Option, Some, None, length, drop, map, refl, sym, ap, ◌∙◌, subst, arith}
use Rattle.std.proofs.Common.{add-zero, append-nil}
use Rattle.std.specs.Prelude.{◌≢◌, All, AllPairs, Contains, IfNone, IfSome, MatchOption, cond, find, option_copied}
use Rattle.std.specs.Prelude.{option_map, slice_get, slice_index_or}
use Rattle.std.specs.Borrow.{Bor}
use Rattle.std.specs.Cmp.{IsTotalOrder, nat_cmp_total, on_total, then_total}
use Rattle.std.specs.Cmp.Lexicographic.{slice_cmp, nat_list_cmp_total}
use Rattle.std.specs.FinMap.{IsAntisymmetric, nat_cmp-IsAntisymmetric}
use Rattle.std.specs.List.Sorted.{IsSortedBy, IsStrictlySortedBy}
use Rattle.std.specs.Ordering.{is_lt, nat_cmp}
use Rattle.std.specs.declared.cmp.Ordering.TheVariants.{Less, Equal, Greater}
use Rattle.std.proofs.Math.ListN.{drop_of_length-le}
use Rattle.std.proofs.lemmas.Bool.{cases_lt}
use Rattle.std.proofs.lemmas.Option.{none-some, slice_get-get_or, slice_get_within, same_Some}
use Rattle.std.proofs.lemmas.Slice.Eq.{bytes_eq-Decides}
use Rattle.deny_base.specs.declared.edge.Edge.{Edge}
use Rattle.deny_spec.specs.Graph.{Crate}
use Rattle.deny_spec.specs.Text.{same_text}
use Rattle.deny_krates_graph.specs.Crates.{crate_view, crates_from, graph_of}
use Rattle.deny_krates_graph.specs.private.Direct.{AreApart, AreRanks, id_in, rank_in}
use Rattle.deny_krates_graph.specs.IdEntries.{AreIds, entries_from, id_entry_cmp}
use Rattle.deny_krates_graph.specs.Ids.{crate_of}
use Rattle.deny_krates_graph.specs.private.Graph.{IsInverse}
use Rattle.deny_krates_graph.specs.declared.ids.IdEntry.{IdEntry}
use Rattle.deny_krates_graph.specs.declared.krate.Krate.{Krate}
use Rattle.deny_base_lists.proofs.Orders.{below_or_tie, not_below_itself, not_less, text_cmp-exact, then_first}
use Rattle.deny_base_lists.proofs.Orders.{then_second}
use Rattle.deny_krates_graph.proofs.SearchLemmas.{not_above_itself}
use Rattle.deny_base_lists.proofs.Sorted.{ascends_at, length-ascending}
use Rattle.deny_base_lists.proofs.Members.{from_map_at, from_there, map_at, one_there, some_at, there}
use Rattle.deny_krates_graph.proofs.GraphLemmas.{id_of_krate}
use Rattle.deny_spec.specs.declared.target_edge.TargetEdge.{TargetEdge}

entry_from : List ℕ → ℕ → IdEntry
entry_from id place = record { id = id; place = place }

entry_from-is : (e : IdEntry) → entry_from e.id e.place ≡ e
unfolding entry_from
entry_from-is e = refl

pub id_entry_cmp-exact : IsAntisymmetric id_entry_cmp
id_entry_cmp-exact a b e =
    let id : a.id ≡ b.id = text_cmp-exact a.id b.id (then_first _ _ e) in
    let place : a.place ≡ b.place = nat_cmp-IsAntisymmetric a.place b.place
    (then_second (slice_cmp nat_cmp a.id b.id) _ e) in
    cc (entry_from-is a, entry_from-is b)

pub id_entry_cmp-total : IsTotalOrder id_entry_cmp
id_entry_cmp-total = then_total (on_total (λ (e : IdEntry). e.id) nat_list_cmp_total)
    (on_total (λ (e : IdEntry). e.place) nat_cmp_total)

-- entries that ascend do so by id
pub ids_sorted : (entries : List IdEntry) → IsStrictlySortedBy id_entry_cmp entries
    → IsSortedBy (λ x y. is_lt (slice_cmp nat_cmp x.id y.id)) entries
ids_sorted entries up k d low inside =
    let x = slice_index_or entries k d in
    let y = slice_index_or entries (k + 1) d in
    let below = below_or_tie (slice_cmp nat_cmp x.id y.id) (nat_cmp x.place y.place)
    (ascends_at id_entry_cmp entries k (k + 1) x y up (omega arith)
    (slice_get-get_or entries k d (omega (arith, inside)))
    (slice_get-get_or entries (k + 1) d inside)) in
    not_less x.id y.id below

-- the result of a search by id: a place of an entry with the id, or none where there is no such entry
pub record FoundIn (entries : List IdEntry) (id : List ℕ) (result : Option ℕ) : Type 0 where
  pub found : IfSome result (λ place. Contains entries (record { id = id; place = place }))
  pub none : IfNone result ((e : IdEntry) → Contains entries e → e.id ≡ id → ⊥)

-- the entry that a search by id finds has the id
pub entry_found : (entries : List IdEntry) (at : ℕ) (id : List ℕ) (d : IdEntry) → at < length entries
    → slice_cmp nat_cmp (slice_index_or entries at d).id id ≡ Equal
    → Contains entries (record { id = id; place = (slice_index_or entries at d).place })
entry_found entries at id d inside tie =
    let e = slice_index_or entries at d in
    subst (λ (t : List ℕ). Contains entries (record { id = t; place = e.place })) (text_cmp-exact e.id id tie)
    (from_there entries at e (slice_get-get_or entries at d inside))

pub no_entry : (entries : List IdEntry) (id : List ℕ) (i : ℕ)
    → ((k : ℕ) (d : IdEntry) → k < i → slice_cmp nat_cmp (slice_index_or entries k d).id id ≡ Less)
    → ((k : ℕ) (d : IdEntry) → i ≤ k → k < length entries → slice_cmp nat_cmp (slice_index_or entries k d).id id
    ≡ Greater)
    → (e : IdEntry) → Contains entries e → e.id ≡ id → ⊥
no_entry entries id i below above e holds same =
    let e_id : (slice_index_or entries holds.0 e).id ≡ id = ap (λ (x : IdEntry). x.id) holds.2 ∙ same in
    elim (cases_lt holds.0 i) as (λ _. ⊥) [
      | inl before ↦ not_below_itself (slice_cmp nat_cmp) nat_list_cmp_total (slice_index_or entries holds.0 e).id id
          e_id (below holds.0 e before)
      | inr after ↦ not_above_itself (slice_cmp nat_cmp) nat_list_cmp_total (slice_index_or entries holds.0 e).id id
          e_id (above holds.0 e after holds.1)
    ]

pub entries_done : (krates : List Krate) (i : ℕ) (es : List IdEntry) → length krates ≤ i
    → es ++ entries_from i (drop i krates) ≡ entries_from 0 krates → es ≡ entries_from 0 krates
entries_done krates i es past is =
    sym (append-nil es) ∙ (ap (λ (ks : List Krate). es ++ entries_from i ks) (sym (drop_of_length-le krates past)) ∙ is)

-- the entries are those of the crates
entry_at : (first : ℕ) (krates : List Krate) (e : IdEntry) → Contains (entries_from first krates) e
    → (n : ℕ) × (k : Krate) × (slice_get krates n ≡ Some k) × (e.place ≡ first + n) × (e.id ≡ k.id.0)
unfolding entry_from
entry_at first [] e holds = absurd (none-some e (there [] e holds).1)
entry_at first (k ∷ ks) e holds = by_place (λ other. entry_at (first + 1) ks e other)
    (there (entries_from first (k ∷ ks)) e holds).0 (there (entries_from first (k ∷ ks)) e holds).1
  where
    by_place : (Contains (entries_from (first + 1) ks) e → (n : ℕ) × (j : Krate) × (slice_get ks n ≡ Some j)
        × (e.place ≡ (first + 1) + n) × (e.id ≡ j.id.0)) → (n : ℕ) → slice_get (entries_from first (k ∷ ks)) n ≡ Some e
        → (n : ℕ) × (j : Krate) × (slice_get (k ∷ ks) n ≡ Some j) × (e.place ≡ first + n) × (e.id ≡ j.id.0)
    by_place rest zero at =
        let same = same_Some (entry_from k.id.0 first) e at in (
          0,
          k,
          refl,
          sym (ap (λ (x : IdEntry). x.place) same) ∙ sym (add-zero first),
          sym (ap (λ (x : IdEntry). x.id) same),
        )
    by_place rest (suc n) at =
        let later = rest (from_there (entries_from (first + 1) ks) n e at) in
        (suc later.0, later.1, later.2, omega (arith, later.3), later.4)

entry_there : (first : ℕ) (krates : List Krate) (n : ℕ) (k : Krate) → slice_get krates n ≡ Some k
    → Contains (entries_from first krates) (record { id = k.id.0; place = first + n })
entry_there first [] n k at = absurd (none-some k at)
entry_there first (x ∷ ks) zero k at =
    let same : x ≡ k = same_Some x k at in
    subst (λ (p : ℕ). Contains (entries_from first (x ∷ ks)) (record { id = k.id.0; place = p })) (sym (add-zero first))
    (subst (λ (j : Krate). Contains (entries_from first (x ∷ ks)) (record { id = j.id.0; place = first })) same
    (from_there (entries_from first (x ∷ ks)) 0 (record { id = x.id.0; place = first }) refl))
entry_there first (x ∷ ks) (suc n) k at =
    let moved : (first + 1) + n ≡ first + suc n = omega arith in
    let later = entry_there (first + 1) ks n k at in
    let place = there (entries_from (first + 1) ks) (record { id = k.id.0; place = (first + 1) + n }) later in
    subst (λ (p : ℕ). Contains (entries_from first (x ∷ ks)) (record { id = k.id.0; place = p })) moved
    (from_there (entries_from first (x ∷ ks)) (suc place.0) (record { id = k.id.0; place = (first + 1) + n }) place.1)

-- ---- the crate of an id

find_there : {A : Type 0} (p : A → Bool) (xs : List A) (k : ℕ) (x : A) → slice_get xs k ≡ Some x → p x ≡ true
    → ((y : A) → Contains xs y → p y ≡ true → y ≡ x) → find p xs ≡ Some x
find_there p [] k x at is only = absurd (none-some x at)
find_there {A} p (y ∷ xs) k x at is only =
    by_test (λ n there_is. find_there p xs n x there_is is
    (λ z holds passes. only z (from_there (y ∷ xs) (suc (there xs z holds).0) z (there xs z holds).1) passes)) (p y)
    refl k at
  where
    by_test : ((n : ℕ) → slice_get xs n ≡ Some x → find p xs ≡ Some x) → (b : Bool) → p y ≡ b → (k : ℕ)
        → slice_get (y ∷ xs) k ≡ Some x → cond b (Some y) (find p xs) ≡ Some x
    by_test rest true passes k at = ap (λ z. Some z) (only y (from_there (y ∷ xs) 0 y refl) passes)
    by_test rest false fails zero at = absurd (false-true (sym fails ∙ (ap p (same_Some y x at) ∙ is)))
      where
        false-true : false ≡ true → ⊥
        false-true e = absurd (cc)
    by_test rest false fails (suc k) at = rest k at

find_none : {A : Type 0} (p : A → Bool) (xs : List A) → ((y : A) → Contains xs y → p y ≡ true → ⊥) → find p xs ≡ None
find_none p [] none = refl
find_none {A} p (y ∷ xs) none =
    by_test (find_none p xs (λ z holds passes. none z
    (from_there (y ∷ xs) (suc (there xs z holds).0) z (there xs z holds).1) passes)) (p y) refl
  where
    by_test : find p xs ≡ None → (b : Bool) → p y ≡ b → cond b (Some y) (find p xs) ≡ None
    by_test rest true passes = absurd (none y (from_there (y ∷ xs) 0 y refl) passes)
    by_test rest false fails = rest

crate_there : (first : ℕ) (ks : List Krate) (c : Crate) → Contains (crates_from first ks) c
    → (n : ℕ) × (k : Krate) × (slice_get ks n ≡ Some k) × (crate_view (first + n) k ≡ c)
crate_there first [] c holds = absurd (none-some c (there [] c holds).1)
crate_there first (k ∷ ks) c holds = by_place (λ other. crate_there (first + 1) ks c other)
    (there (crates_from first (k ∷ ks)) c holds).0 (there (crates_from first (k ∷ ks)) c holds).1
  where
    by_place : (Contains (crates_from (first + 1) ks) c → (n : ℕ) × (j : Krate) × (slice_get ks n ≡ Some j)
        × (crate_view ((first + 1) + n) j ≡ c)) → (n : ℕ) → slice_get (crates_from first (k ∷ ks)) n ≡ Some c
        → (n : ℕ) × (j : Krate) × (slice_get (k ∷ ks) n ≡ Some j) × (crate_view (first + n) j ≡ c)
    by_place rest zero at = (
      0,
      k,
      refl,
      ap (λ p. crate_view p k) (add-zero first) ∙ same_Some (crate_view first k) c
          at,
    )
    by_place rest (suc n) at =
        let later = rest (from_there (crates_from (first + 1) ks) n c at) in
        let moved : first + suc later.0 ≡ (first + 1) + later.0 = omega arith in
        (suc later.0, later.1, later.2, ap (λ p. crate_view p later.1) moved ∙ later.3)

crate_from : (first : ℕ) (ks : List Krate) (n : ℕ) (k : Krate) → slice_get ks n ≡ Some k
    → slice_get (crates_from first ks) n ≡ Some (crate_view (first + n) k)
crate_from first [] n k at = absurd (none-some k at)
crate_from first (x ∷ ks) zero k at = ap (λ p. Some (crate_view p x)) (sym (add-zero first)) ∙ ap
    (λ (j : Krate). Some (crate_view (first + 0) j)) (same_Some x k at)
crate_from first (x ∷ ks) (suc n) k at =
    let moved : (first + 1) + n ≡ first + suc n = omega arith in
    crate_from (first + 1) ks n k at ∙ ap (λ p. Some (crate_view p k)) moved

module _ (targeted : List TargetEdge) (root : List ℕ) (krates : List Krate) (members : List ℕ) (edges : List Edge)
    (entries : List IdEntry)
    (apart : AreApart krates) (ids : AreIds krates entries) where
  -- the place in the entry of an id is that of the crate of the id
  found_crate : (id : List ℕ) (place : ℕ) → Contains entries (record { id = id; place = place })
      → (k : Krate) × (slice_get krates place ≡ Some k)
      × (crate_of (graph_of targeted root krates members edges) id ≡ Some (crate_view place k))
  found_crate id place holds =
      let entry = entry_at 0 krates (record { id = id; place = place })
      (ids.sound (record { id = id; place = place }) holds) in
      let here : entry.0 ≡ place = omega (arith, entry.3) in
      let at : slice_get krates place ≡ Some entry.1 = subst (λ (n : ℕ). slice_get krates n ≡ Some entry.1) here
      entry.2 in
      let zero_on : 0 + place ≡ place = omega arith in (
        entry.1,
        at,
        find_there (λ (c : Crate). same_text c.id id) (crates_from 0 krates) place (crate_view place entry.1)
            (crate_from 0 krates place entry.1 at ∙ ap (λ p. Some (crate_view p entry.1)) zero_on)
            ((bytes_eq-Decides entry.1.id.0 id).1 (sym entry.4))
            (λ c there_is same.
            let other = crate_there 0 krates c there_is in
            let same_id : other.1.id.0 ≡ entry.1.id.0 = ap (λ (x : Crate). x.id) other.3
            ∙ ((bytes_eq-Decides c.id id).0 same ∙ entry.4) in
            let one : other.0 ≡ place = apart.ids other.0 place (slice_get_within krates other.0 other.1 other.2)
            (slice_get_within krates place entry.1 at)
            (id_of_krate krates other.0 other.1 other.2 ∙ (same_id ∙ sym (id_of_krate krates place entry.1 at))) in
            let krate : other.1 ≡ entry.1 = one_there krates place other.1 entry.1
            (subst (λ (n : ℕ). slice_get krates n ≡ Some other.1) one other.2) at in
            let moved : 0 + other.0 ≡ place = omega (arith, one) in
            sym other.3 ∙ (ap (λ p. crate_view p other.1) moved ∙ ap (λ (k : Krate). crate_view place k) krate)),
      )

  pub no_crate : (id : List ℕ) → ((e : IdEntry) → Contains entries e → e.id ≡ id → ⊥)
      → crate_of (graph_of targeted root krates members edges) id ≡ None
  no_crate id none = find_none (λ (c : Crate). same_text c.id id) (crates_from 0 krates) (λ c holds same.
      let at = crate_there 0 krates c holds in
      none (record { id = at.1.id.0; place = 0 + at.0 })
      (ids.whole (record { id = at.1.id.0; place = 0 + at.0 }) (entry_there 0 krates at.0 at.1 at.2))
      (ap (λ (x : Crate). x.id) at.3 ∙ (bytes_eq-Decides c.id id).0 same))

  pub place_answers : (id : List ℕ) (result : Option ℕ) → FoundIn entries id result
      → result ≡ option_map (λ (c : Crate). c.place) (crate_of (graph_of targeted root krates members edges) id)
  place_answers id None is = sym (ap (option_map (λ (c : Crate). c.place)) (no_crate id is.none))
  place_answers id (Some place) is = sym (ap (option_map (λ (c : Crate). c.place)) (found_crate id place is.found).2)

  -- the crate at the place that was found
  pub krate_answers : (id : List ℕ) (place : ℕ) (result : Option (Bor Krate))
      → Contains entries (record { id = id; place = place }) → option_copied result ≡ slice_get krates place
      → MatchOption result (crate_of (graph_of targeted root krates members edges) id ≡ None)
      (λ k. (at : ℕ) × (crate_of (graph_of targeted root krates members edges) id ≡ Some (crate_view at k.now)))
  krate_answers id place None holds is =
      absurd (none-some (found_crate id place holds).0 (is ∙ (found_crate id place holds).1))
  krate_answers id place (Some k) holds is =
      let found = found_crate id place holds in
      let same : k.now ≡ found.0 = same_Some k.now found.0 (is ∙ found.1) in (
        place,
        subst (λ (x : Krate). crate_of (graph_of targeted root krates members edges) id ≡ Some (crate_view place x))
            (sym same) found.2,
      )

-- ---- the crates' ranks

length-entries_from : (first : ℕ) (ks : List Krate) → length (entries_from first ks) ≡ length ks
length-entries_from first [] = refl
length-entries_from first (k ∷ ks) = ap suc (length-entries_from (first + 1) ks)

module _ (krates : List Krate) (entries : List IdEntry) (apart : AreApart krates) (ids : AreIds krates entries) where
  pub few_entries : length entries ≤ length krates
  few_entries =
      let shorter = length-ascending id_entry_cmp-total entries (entries_from 0 krates) ids.ascending ids.sound in
      omega (arith, shorter, length-entries_from 0 krates)

  -- the crate at the place of an entry
  placed : (i place : ℕ) → slice_get (map (λ (e : IdEntry). e.place) entries) i ≡ Some place
      → (place < length krates) × (slice_get entries i ≡ Some (entry_from (id_in krates place) place))
  unfolding entry_from
  placed i place at =
      let from = from_map_at (λ (e : IdEntry). e.place) entries i place at in
      let entry = entry_at 0 krates from.0 (ids.sound from.0 (from_there entries i from.0 from.1)) in
      let here : entry.0 ≡ place = omega (arith, entry.3, from.2) in
      let holds : slice_get krates place ≡ Some entry.1 = subst (λ (n : ℕ). slice_get krates n ≡ Some entry.1) here
      entry.2 in
      let id : from.0.id ≡ id_in krates place = entry.4 ∙ sym (id_of_krate krates place entry.1 holds) in
      let same : from.0 ≡ entry_from (id_in krates place) place = cc (entry_from-is from.0, id, from.2) in
      (slice_get_within krates place entry.1 holds, from.1 ∙ ap (λ (e : IdEntry). Some e) same)

  pub places_inside : All (λ n. n < length krates) (map (λ (e : IdEntry). e.place) entries)
  places_inside i d inside = (placed i _ (slice_get-get_or (map (λ (e : IdEntry). e.place) entries) i d inside)).0

  pub places_apart : AllPairs (λ m n. m ≢ n) (map (λ (e : IdEntry). e.place) entries)
  places_apart i j d below inside same =
      let places = map (λ (e : IdEntry). e.place) entries in
      let p = slice_index_or places i d in
      let one = placed i p (slice_get-get_or places i d (omega (arith, below, inside))) in
      let other = placed j (slice_index_or places j d) (slice_get-get_or places j d inside) in
      not_below_itself id_entry_cmp id_entry_cmp-total (entry_from (id_in krates p) p)
      (entry_from (id_in krates (slice_index_or places j d)) (slice_index_or places j d))
      (ap (λ (n : ℕ). entry_from (id_in krates n) n) same)
      (ascends_at id_entry_cmp entries i j _ _ ids.ascending below one.1 other.1)

  module _ (ranks : List ℕ) (inverse : IsInverse (map (λ (e : IdEntry). e.place) entries) (length krates) ranks) where
    ranked : (p : ℕ) → p < length krates → slice_get entries (rank_in ranks p) ≡ Some (entry_from (id_in krates p) p)
    unfolding entry_from
    ranked p inside =
        let k = some_at krates p inside in
        let zero_on : 0 + p ≡ p = omega arith in
        let holds = subst (λ (n : ℕ). Contains (entries_from 0 krates) (record { id = k.0.id.0; place = n })) zero_on
        (entry_there 0 krates p k.0 k.1) in
        let at = there entries (record { id = k.0.id.0; place = p })
        (ids.whole (record { id = k.0.id.0; place = p }) holds) in
        let rank = inverse.at at.0 p (map_at (λ (e : IdEntry). e.place) entries at.0
        (record { id = k.0.id.0; place = p }) at.1) in
        subst (λ (n : ℕ). slice_get entries n ≡ Some (entry_from (id_in krates p) p)) (sym rank)
        (at.1 ∙ ap (λ (id : List ℕ). Some (entry_from id p)) (sym (id_of_krate krates p k.0 k.1)))

    pub ranks_are : AreRanks krates ranks
    unfolding entry_from
    ranks_are = record {
      long = inverse.long;
      below = λ p q in_p in_q lower. elim (below_or_tie (slice_cmp nat_cmp (id_in krates p) (id_in krates q))
          (nat_cmp p q) (ascends_at id_entry_cmp entries (rank_in ranks p) (rank_in ranks q)
          (entry_from (id_in krates p) p) (entry_from (id_in krates q) q) ids.ascending lower (ranked p in_p)
          (ranked q in_q))) as (λ _. slice_cmp nat_cmp (id_in krates p) (id_in krates q) ≡ Less) [
            | inl less ↦ less
            | inr tie ↦ absurd (not_lower p q (apart.ids p q in_p in_q
                (text_cmp-exact (id_in krates p) (id_in krates q) tie)) lower)
          ];
      apart = λ p q in_p in_q same. ap (λ (e : IdEntry). e.place)
          (same_Some (entry_from (id_in krates p) p) (entry_from (id_in krates q) q)
          (sym (ranked p in_p) ∙ (ap (λ (n : ℕ). slice_get entries n) same ∙ ranked q in_q)));
    }
      where
        not_lower : (p q : ℕ) → p ≡ q → rank_in ranks p < rank_in ranks q → ⊥
        not_lower p q same lower = omega (arith, lower, ap (λ (n : ℕ). rank_in ranks n) same)
