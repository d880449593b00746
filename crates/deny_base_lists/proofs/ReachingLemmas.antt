-- Distances that are set place by place: what setting one more place, or a row of places, keeps and reaches.
use Rattle.std.proofs.Common.{◌≡◌, ◌≢◌, ◌<◌, ◌≤◌, ◌+◌, ◌++◌, ℕ, zero, suc, inl, inr, List, [], ◌∷◌, Option, None, Some}
use Rattle.std.proofs.Common.{length, refl, sym, ap, ◌∙◌, subst, arith, length-append, append_assoc, rules}
use Rattle.std.specs.Prelude.{All, AllPairs, Contains, cond, fold, is_some, slice_set, slice_index_or}
use Rattle.std.proofs.lemmas.Bool.{cases_eq, cases_lt}
use Rattle.std.proofs.lemmas.List.{length-set, get_or-set_same, get_or-set_other, get_or_append_left, get_or_default}
use Rattle.std.proofs.lemmas.List.Elements.{All-cons, All-head, All-tail, All-weaker, Contains-push}
use Rattle.std.proofs.lemmas.List.Elements.{Contains-append_left}
use Rattle.std.proofs.lemmas.List.Quantifiers.{all_pairs_push}
use Rattle.std.proofs.Math.Seq.{get_or-append_seam}
use Rattle.std.proofs.lemmas.Grind.{get_or_default_zero}
use Rattle.deny_base_lists.specs.Walk.{IsLed, distance_at}
use Rattle.deny_base_lists.specs.private.Reaching.{reached}

-- the distances, and the places in the order in which they were reached
abbrev pub State : Type 0
State = List (Option ℕ) × List ℕ

-- a place has a distance of at most this
abbrev pub IsWithin : ℕ → Option ℕ → Type 0
IsWithin far None = ⊥
IsWithin far (Some d) = d ≤ far

pub within_more : (near far : ℕ) (d : Option ℕ) → near ≤ far → IsWithin near d → IsWithin far d
within_more near far None more is = is
within_more near far (Some d) more is = omega (arith, more, is)

pub within_is : (far : ℕ) (d : Option ℕ) → IsWithin far d → (n : ℕ) × (d ≡ Some n) × (n ≤ far)
within_is far None is = absurd is
within_is far (Some d) is = (d, refl, is)

pub within_some : (far n : ℕ) (d : Option ℕ) → d ≡ Some n → n ≤ far → IsWithin far d
within_some far n d is below = subst (IsWithin far) (sym is) below

-- the distance of the place at an index of the order
abbrev pub level : State → ℕ → Option ℕ
level s k = distance_at s.0 (slice_index_or s.1 k 0)

abbrev pub unset : List (Option ℕ) → ℕ
unset [] = 0
unset (d ∷ ds) = cond (is_some d) 0 1 + unset ds

unset-set : (ds : List (Option ℕ)) (n d : ℕ) → n < length ds → distance_at ds n ≡ None
    → suc (unset (slice_set ds n (Some d))) ≡ unset ds
unset-set [] n d inside isnt = absurd (omega (arith, inside))
unset-set (Some x ∷ ds) zero d inside isnt = cc
unset-set (None ∷ ds) zero d inside isnt = omega arith
unset-set (x ∷ ds) (suc n) d inside isnt = omega (arith, unset-set ds n d (omega (arith, inside)) isnt)

-- the distances are those of chains, and the order lists the places that have one, each once, none
-- nearer than the one before it, and none at more than its index
pub record IsGood (leads : ℕ → ℕ → Type 0) (count : ℕ) (roots : List ℕ) (s : State) : Type 0 where
  pub long : length s.0 ≡ count
  pub sound : (place d : ℕ) → distance_at s.0 place ≡ Some d → IsLed leads roots place d
  pub listed : (place d : ℕ) → distance_at s.0 place ≡ Some d → Contains s.1 place
  pub once : AllPairs ◌≢◌ s.1
  pub held : (k : ℕ) → k < length s.1 → IsWithin k (level s k)
  pub rising : (j k d : ℕ) → j ≤ k → k < length s.1 → level s k ≡ Some d → IsWithin d (level s j)
  pub fits : length s.1 + unset s.0 ≡ count

-- the distances are good, and none is greater than this
pub record IsGoodTo (leads : ℕ → ℕ → Type 0) (count : ℕ) (roots : List ℕ) (far : ℕ) (s : State) : Type 0 where
  pub good : IsGood leads count roots s
  pub below : (k : ℕ) → k < length s.1 → IsWithin far (level s k)
  pub room : far ≤ length s.1

-- a place that was set, and others
set_same : (ds : List (Option ℕ)) (n d : ℕ) → n < length ds → distance_at (slice_set ds n (Some d)) n ≡ Some d
set_same ds n d inside = get_or-set_same ds n (Some d) None inside

set_other : (ds : List (Option ℕ)) (n m d : ℕ) → (m ≡ n → ⊥)
    → distance_at (slice_set ds n (Some d)) m ≡ distance_at ds m
set_other ds n m d other = get_or-set_other ds n m (Some d) None other

-- a place that has a distance keeps it
kept : (ds : List (Option ℕ)) (n m d e : ℕ) → distance_at ds n ≡ None → distance_at ds m ≡ Some e
    → distance_at (slice_set ds n (Some d)) m ≡ Some e
kept ds n m d e fresh is = elim (cases_eq m n) as (λ _. distance_at (slice_set ds n (Some d)) m ≡ Some e) [
  | inl same ↦ absurd (cc (fresh, is, ap (distance_at ds) same))
  | inr other ↦ set_other ds n m d other ∙ is
]

-- setting keeps the distances that there are, and the order is a prefix of the new one
pub record Grows (s t : State) : Type 0 where
  pub long : length t.0 ≡ length s.0
  pub stays : (m d : ℕ) → distance_at s.0 m ≡ Some d → distance_at t.0 m ≡ Some d
  pub more : List ℕ
  pub grown : t.1 ≡ s.1 ++ more

pub longer : (s t : State) → Grows s t → length s.1 ≤ length t.1
longer s t grows = omega (arith, ap length grows.grown, length-append s.1 grows.more)

pub same_prefix : (s t : State) → Grows s t → (k : ℕ) → k < length s.1 → slice_index_or t.1 k 0 ≡ slice_index_or s.1 k 0
same_prefix s t grows k below = ap (λ (xs : List ℕ). slice_index_or xs k 0) grows.grown
    ∙ get_or_append_left s.1 grows.more 0 k below

grows_here : (s : State) → Grows s s
grows_here s = record { long = refl; stays = λ m d is. is; more = []; grown = search rules }

grows_on : (s t u : State) → Grows s t → Grows t u → Grows s u
grows_on s t u a b = record {
  long = b.long ∙ a.long;
  stays = λ m d is. b.stays m d (a.stays m d is);
  more = a.more ++ b.more;
  grown = b.grown ∙ (ap (λ (xs : List ℕ). xs ++ b.more) a.grown ∙ append_assoc s.1 a.more b.more);
}

grows_reached : (far : ℕ) (s : State) (n : ℕ) → n < length s.0 → Grows s (reached far s n)
grows_reached far s n inside = elim (distance_at s.0 n)
    as (λ d. distance_at s.0 n ≡ d → Grows s (cond (is_some d) s (slice_set s.0 n (Some far), s.1 ++ n ∷ []))) [
      | Some d ↦ λ is. grows_here s
      | None ↦ λ isnt. record {
        long = length-set s.0 n (Some far);
        stays = λ m d is. kept s.0 n m far d isnt is;
        more = n ∷ [];
        grown = refl;
      }
    ] refl

-- a place whose distance is at most the bound keeps it
pub within_stays : (s t : State) → Grows s t → (far m : ℕ) → IsWithin far (distance_at s.0 m)
    → IsWithin far (distance_at t.0 m)
within_stays s t grows far m is =
    let w = within_is far (distance_at s.0 m) is in
    within_some far w.0 (distance_at t.0 m) (grows.stays m w.0 w.1) w.2

inside_stays : (s t : State) (ns : List ℕ) → length t.0 ≡ length s.0 → All (λ m. m < length s.0) ns
    → All (λ m. m < length t.0) ns
inside_stays s t ns same inside = All-weaker (λ m. m < length s.0) (λ m. m < length t.0)
    (λ m below. subst (λ (k : ℕ). m < k) (sym same) below) ns inside

pub grows_all : (far : ℕ) (s : State) (ns : List ℕ) → All (λ n. n < length s.0) ns → Grows s (fold (reached far) s ns)
grows_all far s [] inside = grows_here s
grows_all far s (n ∷ ns) inside =
    let next = reached far s n in
    let step = grows_reached far s n (All-head (λ m. m < length s.0) n ns inside) in
    let rest = inside_stays s next ns step.long (All-tail (λ m. m < length s.0) n ns inside) in
    grows_on s next (fold (reached far) next ns) step (grows_all far next ns rest)

module _ (leads : ℕ → ℕ → Type 0) (count : ℕ) (roots : List ℕ) where
  -- setting one more place
  new_place : (far : ℕ) (ds : List (Option ℕ)) (order : List ℕ) (n : ℕ) → IsGoodTo leads count roots far (ds, order)
      → n < length ds → distance_at ds n ≡ None → IsLed leads roots n far
      → IsGoodTo leads count roots far (slice_set ds n (Some far), order ++ n ∷ [])
  new_place far ds order n to inside fresh led = record {
    good = record {
      long = length-set ds n (Some far) ∙ to.good.long;
      sound = λ m d is. elim (cases_eq m n) as (λ _. IsLed leads roots m d) [
        | inl same ↦
            let far_is : far ≡ d = cc (is, same, set_same ds n far inside) in
            subst (λ (k : ℕ). IsLed leads roots k d) (sym same) (subst (λ (e : ℕ). IsLed leads roots n e) far_is led)
        | inr other ↦ to.good.sound m d (sym (set_other ds n m far other) ∙ is)
      ];
      listed = λ m d is. elim (cases_eq m n) as (λ _. Contains new.1 m) [
        | inl same ↦ subst (λ (k : ℕ). Contains new.1 k) (sym same) (Contains-push order n)
        | inr other ↦ Contains-append_left order (n ∷ []) m (to.good.listed m d (sym (set_other ds n m far other) ∙ is))
      ];
      once = all_pairs_push ◌≢◌ order n to.good.once
          (λ k d below same. absent k below (sym (get_or_default_zero order k d below) ∙ same));
      held = λ k below. elim (cases_lt k (length order)) as (λ _. IsWithin k (level new k)) [
        | inl before ↦ old k before (λ d. IsWithin k d) (to.good.held k before)
        | inr after ↦ within_some k far (level new k) (last k below after) (omega (arith, to.room, after))
      ];
      rising = λ j k d upward below is. elim (cases_lt k (length order)) as (λ _. IsWithin d (level new j)) [
        | inl before ↦ old j (omega (arith, upward, before)) (λ e. IsWithin d e)
            (to.good.rising j k d upward before (sym (stays k before) ∙ is))
        | inr after ↦
            let far_is : far ≡ d = cc (last k below after, is) in
            subst (λ (e : ℕ). IsWithin e (level new j)) far_is (all_near j (omega (arith, upward, below)))
      ];
      fits = omega (arith, to.good.fits, unset-set ds n far inside fresh, length-append order (n ∷ []));
    };
    below = all_near;
    room = omega (arith, to.room, length-append order (n ∷ []));
  }
    where
      new : State
      new = (slice_set ds n (Some far), order ++ n ∷ [])

      -- the place was not in the order
      absent : (k : ℕ) → k < length order → slice_index_or order k 0 ≡ n → ⊥
      absent k below same =
          let w = within_is k (level (ds, order) k) (to.good.held k below) in
          cc (fresh, w.1, ap (distance_at ds) same)

      -- the places of the order keep their distances
      stays : (k : ℕ) → k < length order → level new k ≡ level (ds, order) k
      stays k before =
          let w = within_is k (level (ds, order) k) (to.good.held k before) in
          let here : slice_index_or new.1 k 0 ≡ slice_index_or order k 0 = get_or_append_left order (n ∷ []) 0 k before
          in
          ap (distance_at new.0) here ∙ (kept ds n (slice_index_or order k 0) far w.0 fresh w.1 ∙ sym w.1)

      old : (k : ℕ) → k < length order → (P : Option ℕ → Type 0) → P (level (ds, order) k) → P (level new k)
      old k before P is = subst P (sym (stays k before)) is

      last : (k : ℕ) → k < length new.1 → length order ≤ k → level new k ≡ Some far
      last k below after =
          let here : k ≡ length order = omega (arith, below, after, length-append order (n ∷ [])) in
          let at : slice_index_or new.1 k 0 ≡ n = ap (λ (j : ℕ). slice_index_or new.1 j 0) here
          ∙ get_or-append_seam order n [] 0 in
          ap (distance_at new.0) at ∙ set_same ds n far inside

      all_near : (k : ℕ) → k < length new.1 → IsWithin far (level new k)
      all_near k below = elim (cases_lt k (length order)) as (λ _. IsWithin far (level new k)) [
        | inl before ↦ old k before (λ d. IsWithin far d) (to.below k before)
        | inr after ↦ within_some far far (level new k) (last k below after) (omega arith)
      ]

  good_reached : (far : ℕ) (s : State) (n : ℕ) → IsGoodTo leads count roots far s → n < count → IsLed leads roots n far
      → IsGoodTo leads count roots far (reached far s n)
  good_reached far s n to inside led = elim (distance_at s.0 n)
      as (λ d. distance_at s.0 n ≡ d
      → IsGoodTo leads count roots far (cond (is_some d) s (slice_set s.0 n (Some far), s.1 ++ n ∷ []))) [
        | Some d ↦ λ is. to
        | None ↦ λ isnt. new_place far s.0 s.1 n to (subst (λ (k : ℕ). n < k) (sym to.good.long) inside) isnt led
      ] refl

  -- the bound of the distances bounds that of a place
  known_within : (far : ℕ) (s : State) (n d : ℕ) → IsGoodTo leads count roots far s → distance_at s.0 n ≡ Some d
      → IsWithin far (distance_at s.0 n)
  known_within far s n d to is =
      let place = to.good.listed n d is in
      let at : slice_index_or s.1 place.0 0 ≡ n = get_or_default s.1 place.0 0 n place.1 ∙ place.2 in
      subst (λ (m : ℕ). IsWithin far (distance_at s.0 m)) at (to.below place.0 place.1)

  reaches_it : (far : ℕ) (s : State) (n : ℕ) → IsGoodTo leads count roots far s → n < length s.0
      → IsWithin far (distance_at (reached far s n).0 n)
  reaches_it far s n to inside = elim (distance_at s.0 n)
      as (λ d. distance_at s.0 n ≡ d
      → IsWithin far (distance_at (cond (is_some d) s (slice_set s.0 n (Some far), s.1 ++ n ∷ [])).0 n)) [
        | Some d ↦ λ is. known_within far s n d to is
        | None ↦ λ isnt. within_some far far (distance_at (slice_set s.0 n (Some far)) n) (set_same s.0 n far inside)
            (omega arith)
      ] refl

  -- setting a row of places
  pub good_all : (far : ℕ) (s : State) (ns : List ℕ) → IsGoodTo leads count roots far s → All (λ n. n < count) ns
      → All (λ n. IsLed leads roots n far) ns → IsGoodTo leads count roots far (fold (reached far) s ns)
  good_all far s [] to inside led = to
  good_all far s (n ∷ ns) to inside led =
      let here = good_reached far s n to (All-head (λ m. m < count) n ns inside)
      (All-head (λ m. IsLed leads roots m far) n ns led) in
      good_all far (reached far s n) ns here (All-tail (λ m. m < count) n ns inside)
      (All-tail (λ m. IsLed leads roots m far) n ns led)

  pub reaches_all : (far : ℕ) (s : State) (ns : List ℕ) → IsGoodTo leads count roots far s
      → All (λ n. n < length s.0) ns
      → All (λ n. n < count) ns → All (λ n. IsLed leads roots n far) ns
      → All (λ n. IsWithin far (distance_at (fold (reached far) s ns).0 n)) ns
  reaches_all far s [] to inside known led = λ k d below. absurd (omega (arith, below))
  reaches_all far s (n ∷ ns) to inside known led =
      let next = reached far s n in
      let last = fold (reached far) next ns in
      let step = grows_reached far s n (All-head (λ m. m < length s.0) n ns inside) in
      let rest = inside_stays s next ns step.long (All-tail (λ m. m < length s.0) n ns inside) in
      let known_rest = All-tail (λ m. m < count) n ns known in
      let led_rest = All-tail (λ m. IsLed leads roots m far) n ns led in
      let to_next = good_reached far s n to (All-head (λ m. m < count) n ns known)
      (All-head (λ m. IsLed leads roots m far) n ns led) in
      let here = reaches_it far s n to (All-head (λ m. m < length s.0) n ns inside) in
      All-cons (λ m. IsWithin far (distance_at last.0 m)) n ns
      (within_stays next last (grows_all far next ns rest) far n here)
      (reaches_all far next ns to_next rest known_rest led_rest)
