-- A breadth-first search: distances spread from the roots until no step leads further.
use Rattle.std.proofs.Common.{◌≡◌, ◌<◌, ◌≤◌, ◌+◌, ◌↔◌, ℕ, zero, suc, inl, inr, List, [], ◌∷◌, Bool, true, Option, None}
use Rattle.std.proofs.Common.{Some, length, map, take, get_or, refl, sym, ap, ◌∙◌, subst, arith}
use Rattle.std.specs.Prelude.{All, Contains, fold, is_some, slice_index_or, replicate}
use Rattle.std.proofs.lemmas.Bool.{cases_lt, false≢true}
use Rattle.std.proofs.lemmas.List.{length-map, length-replicate, length-take-le, get_or-take, get_or_default}
use Rattle.std.proofs.lemmas.List.{take-append-le}
use Rattle.std.proofs.lemmas.List.Elements.{All-contains, All-contains_itself, All-take, All-weaker}
use Rattle.std.proofs.lemmas.List.Sums.{sum_by_more}
use Rattle.deny_base_lists.specs.Walk.{AreDistances, AreMarks, AreThose, Chain, IsDistance, IsLed, IsReached, StaysBelow}
use Rattle.deny_base_lists.specs.Walk.{TakesInStep, TakesInStepWithReached, distance_at, has_distance, is_marked}
use Rattle.deny_base_lists.specs.private.Reaching.{reached}
use Rattle.deny_base_lists.proofs.ReachingLemmas.{State, IsWithin, within_more, within_is, within_some, within_stays, level}
use Rattle.deny_base_lists.proofs.ReachingLemmas.{unset, IsGood, IsGoodTo, Grows, longer, same_prefix, grows_all, good_all}
use Rattle.deny_base_lists.proofs.ReachingLemmas.{reaches_all}

-- a chain is extended by one more edge
pub chain_more : (leads : ℕ → ℕ → Type 0) (a b c : ℕ) (n : ℕ) → Chain leads a b n → leads b c → Chain leads a c (suc n)
chain_more leads a b c zero chain step = (c, subst (λ (m : ℕ). leads m c) (sym chain) step, refl)
chain_more leads a b c (suc n) chain step = (chain.0, chain.1, chain_more leads chain.0 b c n chain.2 step)

-- no place has a distance
abbrev pub nothing : Option ℕ
nothing = None

abbrev pub nowhere : ℕ → List (Option ℕ)
nowhere n = replicate n None

none_yet : (n m : ℕ) → distance_at (nowhere n) m ≡ None
none_yet zero m = refl
none_yet (suc n) zero = refl
none_yet (suc n) (suc m) = none_yet n m

all_unset : (n : ℕ) → unset (nowhere n) ≡ n
all_unset zero = refl
all_unset (suc n) = omega (arith, all_unset n)

inside_is : (ds : List (Option ℕ)) (n d : ℕ) → distance_at ds n ≡ Some d → n < length ds
inside_is [] n d is = absurd (cc is)
inside_is (x ∷ ds) zero d is = omega arith
inside_is (x ∷ ds) (suc n) d is = omega (arith, inside_is ds n d is)

-- the roots have distance 0, and neighbours of the first places of the order are at most one edge farther
pub record IsSpreading (leads : ℕ → ℕ → Type 0) (count : ℕ) (roots : List ℕ) (s : State) (next : ℕ) : Type 0 where
  pub good : IsGood leads count roots s
  pub started : All (λ root. IsWithin 0 (distance_at s.0 root)) roots
  pub closed : (k : ℕ) → k < next → (b : ℕ) → leads (slice_index_or s.1 k 0) b → (d : ℕ) → level s k ≡ Some d
      → IsWithin (d + 1) (distance_at s.0 b)
  pub near : (k d : ℕ) → next < length s.1 → k < length s.1 → level s next ≡ Some d → IsWithin (d + 1) (level s k)
  pub within : next ≤ length s.1

-- the next place of the order, and its distance
pub record IsNext (s : State) (next place : ℕ) : Type 0 where
  pub distance : ℕ
  pub is : distance_at s.0 place ≡ Some distance
  pub small : distance ≤ next
  pub inside : place < length s.0

module _ (leads : ℕ → ℕ → Type 0) (count : ℕ) (roots : List ℕ) where
  good_start : IsGoodTo leads count roots 0 (nowhere count, [])
  good_start = record {
    good = record {
      long = length-replicate count nothing;
      sound = λ place d is. absurd (cc (none_yet count place, is));
      listed = λ place d is. absurd (cc (none_yet count place, is));
      once = λ i j d before below. absurd (omega (arith, below));
      held = λ k below. absurd (omega (arith, below));
      rising = λ j k d upward below is. absurd (omega (arith, below));
      fits = omega (arith, all_unset count);
    };
    below = λ k below. absurd (omega (arith, below));
    room = omega arith;
  }

  spreading_start : All (λ root. root < count) roots
      → IsSpreading leads count roots (fold (reached 0) (nowhere count, []) roots) 0
  spreading_start known =
      let first : State = (nowhere count, []) in
      let inside : All (λ n. n < length (nowhere count)) roots = All-weaker (λ n. n < count)
      (λ n. n < length (nowhere count))
      (λ n below. subst (λ (k : ℕ). n < k) (sym (length-replicate count nothing)) below) roots known in
      let led : All (λ n. IsLed leads roots n 0) roots = All-weaker (Contains roots) (λ n. IsLed leads roots n 0)
      (λ n is. record { root = n; is_root = is; chain = refl }) roots (All-contains_itself roots) in
      let to = good_all leads count roots 0 first roots good_start known led in
      record {
        good = to.good;
        started = reaches_all leads count roots 0 first roots good_start inside known led;
        closed = λ k below. absurd (omega (arith, below));
        near = λ k d more below is. within_more 0 (d + 1) _ (omega arith) (to.below k below);
        within = omega arith;
      }

  -- a search that begins with such distances and such an order keeps them
  pub spreading_from : (ds : List (Option ℕ)) (order : List ℕ) (s : State) → ds ≡ nowhere count → order ≡ []
      → All (λ root. root < count) roots → s ≡ fold (reached 0) (ds, order) roots → IsSpreading leads count roots s 0
  spreading_from ds order s unset empty known is =
      let first : s ≡ fold (reached 0) (nowhere count, []) roots = cc (is, unset, empty) in
      subst (λ (t : State). IsSpreading leads count roots t 0) (sym first) (spreading_start known)

  -- the row of the next place is reached
  pub spreading_more : (s : State) (next node d : ℕ) (ns : List ℕ) → IsSpreading leads count roots s next
      → next < length s.1 → node ≡ slice_index_or s.1 next 0 → distance_at s.0 node ≡ Some d
      → All (λ n. n < count) ns → ((n : ℕ) → leads node n ↔ Contains ns n)
      → IsSpreading leads count roots (fold (reached (d + 1)) s ns) (next + 1)
  spreading_more s next node d ns so_far more node_is distance_is known are = record {
    good = to.good;
    started = All-weaker (λ root. IsWithin 0 (distance_at s.0 root)) (λ root. IsWithin 0 (distance_at t.0 root))
        (λ root is. within_stays s t grows 0 root is) roots so_far.started;
    closed = λ k below b step x is. elim (cases_lt k next) as (λ _. IsWithin (x + 1) (distance_at t.0 b)) [
      | inl before ↦
          let k_inside : k < length s.1 = omega (arith, before, so_far.within) in
          let w = within_is k (level s k) (so_far.good.held k k_inside) in
          let same : x ≡ w.0 = cc (is, level_stays k w.0 k_inside w.1) in
          let step_before : leads (slice_index_or s.1 k 0) b = subst (λ (m : ℕ). leads m b)
          (same_prefix s t grows k k_inside) step in
          subst (λ (y : ℕ). IsWithin (y + 1) (distance_at t.0 b)) (sym same)
          (within_stays s t grows (w.0 + 1) b (so_far.closed k before b step_before w.0 w.1))
      | inr after ↦
          let here : k ≡ next = omega (arith, below, after) in
          let same : x ≡ d = cc (is, ap (level t) here, level_stays next d more level_is) in
          let from : slice_index_or t.1 k 0 ≡ node = ap (λ (j : ℕ). slice_index_or t.1 j 0) here
          ∙ (same_prefix s t grows next more ∙ sym node_is) in
          let in_row : Contains ns b = (are b).0 (subst (λ (m : ℕ). leads m b) from step) in
          subst (λ (y : ℕ). IsWithin (y + 1) (distance_at t.0 b)) (sym same)
          (All-contains (λ n. IsWithin (d + 1) (distance_at t.0 n)) ns b reaches in_row)
    ];
    near = λ k x on below is.
        let before = to.good.rising next (next + 1) x (omega arith) on is in
        let least : d ≤ x = subst (IsWithin x) (level_stays next d more level_is) before in
        within_more (d + 1) (x + 1) (level t k) (omega (arith, least)) (to.below k below);
    within = omega (arith, more, longer s t grows);
  }
    where
      t : State
      t = fold (reached (d + 1)) s ns

      level_is : level s next ≡ Some d
      level_is = subst (λ (m : ℕ). distance_at s.0 m ≡ Some d) node_is distance_is

      near_enough : IsGoodTo leads count roots (d + 1) s
      near_enough = record {
        good = so_far.good;
        below = λ k below. so_far.near k d more below level_is;
        room = let held : d ≤ next = subst (IsWithin next) level_is (so_far.good.held next more) in
            omega (arith, held, more);
      }

      one_more : suc d ≡ d + 1
      one_more = omega arith

      led_one : (n : ℕ) → Contains ns n → IsLed leads roots n (d + 1)
      led_one n is =
          let here = so_far.good.sound node d distance_is in
          let chain = chain_more leads here.root node n d here.chain ((are n).1 is) in
          record { root = here.root; is_root = here.is_root; chain = subst (Chain leads here.root n) one_more chain }

      led : All (λ n. IsLed leads roots n (d + 1)) ns
      led = All-weaker (Contains ns) (λ n. IsLed leads roots n (d + 1)) led_one ns (All-contains_itself ns)

      inside : All (λ n. n < length s.0) ns
      inside = All-weaker (λ n. n < count) (λ n. n < length s.0)
          (λ n below. subst (λ (k : ℕ). n < k) (sym so_far.good.long) below) ns known

      to : IsGoodTo leads count roots (d + 1) t
      to = good_all leads count roots (d + 1) s ns near_enough known led

      grows : Grows s t
      grows = grows_all (d + 1) s ns inside

      reaches : All (λ n. IsWithin (d + 1) (distance_at t.0 n)) ns
      reaches = reaches_all leads count roots (d + 1) s ns near_enough inside known led

      level_stays : (k x : ℕ) → k < length s.1 → level s k ≡ Some x → level t k ≡ Some x
      level_stays k x below is =
          ap (distance_at t.0) (same_prefix s t grows k below) ∙ grows.stays (slice_index_or s.1 k 0) x is

  -- once all places of the order are taken, no chain is shorter than the distances
  pub spreading_end : (s : State) (next : ℕ) → IsSpreading leads count roots s next → length s.1 ≤ next
      → AreDistances leads count roots s.0
  spreading_end s next so_far done = record
      { long = so_far.good.long; each = λ place inside. distance place (distance_at s.0 place) refl }
    where
      along : (n a b d : ℕ) → distance_at s.0 a ≡ Some d → Chain leads a b n → IsWithin (d + n) (distance_at s.0 b)
      along zero a b d is chain = within_some (d + 0) d (distance_at s.0 b) (ap (distance_at s.0) (sym chain) ∙ is)
          (omega arith)
      along (suc n) a b d is chain =
          let place = so_far.good.listed a d is in
          let at : slice_index_or s.1 place.0 0 ≡ a = get_or_default s.1 place.0 0 a place.1 ∙ place.2 in
          let step : leads (slice_index_or s.1 place.0 0) chain.0 = subst (λ (m : ℕ). leads m chain.0) (sym at) chain.1
          in
          let is_near = so_far.closed place.0 (omega (arith, place.1, done)) chain.0 step d (ap (distance_at s.0) at
          ∙ is) in
          let next_is = within_is (d + 1) (distance_at s.0 chain.0) is_near in
          within_more (next_is.0 + n) (d + suc n) (distance_at s.0 b) (omega (arith, next_is.2))
          (along n chain.0 b next_is.0 next_is.1 chain.2)

      led_within : (place n : ℕ) → IsLed leads roots place n → IsWithin n (distance_at s.0 place)
      led_within place n led =
          let start = within_is 0 (distance_at s.0 led.root)
          (All-contains (λ root. IsWithin 0 (distance_at s.0 root)) roots led.root so_far.started led.is_root) in
          within_more (start.0 + n) n (distance_at s.0 place) (omega (arith, start.2))
          (along n led.root place start.0 start.1 led.chain)

      distance : (place : ℕ) (d : Option ℕ) → distance_at s.0 place ≡ d → IsDistance leads roots place d
      distance place None is = λ n led. subst (IsWithin n) is (led_within place n led)
      distance place (Some d) is = (
        so_far.good.sound place d is,
        λ n led. subst (IsWithin n) is (led_within place n led),
      )

  pub next_is : (s : State) (next place : ℕ) → IsSpreading leads count roots s next → next < length s.1
      → place ≡ slice_index_or s.1 next 0 → IsNext s next place
  next_is s next place so_far more here =
      let w = within_is next (level s next) (so_far.good.held next more) in
      let is : distance_at s.0 place ≡ Some w.0 = ap (distance_at s.0) here ∙ w.1 in
      record { distance = w.0; is = is; small = w.2; inside = inside_is s.0 place w.0 is }

  -- the places that have a distance are those of the order
  pub good_those : (s : State) → IsGood leads count roots s → AreThose s.0 s.1
  good_those s good = record {
    each = λ place. (
      listed place (distance_at s.0 place) refl,
      λ is.
          let at : slice_index_or s.1 is.0 0 ≡ place = get_or_default s.1 is.0 0 place is.1 ∙ is.2 in
          let w = within_is is.0 (level s is.0) (good.held is.0 is.1) in
          ap is_some (ap (distance_at s.0) (sym at) ∙ w.1),
    );
    once = good.once;
  }
    where
      listed : (place : ℕ) (d : Option ℕ) → distance_at s.0 place ≡ d → is_some d ≡ true → Contains s.1 place
      listed place None is has = absurd (false≢true has)
      listed place (Some d) is has = good.listed place d is

-- ---- a place has a distance exactly where a chain leads there

distance_is_reach : (leads : ℕ → ℕ → Type 0) (roots : List ℕ) (place : ℕ) (d : Option ℕ)
    → IsDistance leads roots place d
    → (is_some d ≡ true) ↔ IsReached leads roots place
distance_is_reach leads roots place None is = (
  λ has. absurd (false≢true has),
  λ there. absurd (is there.steps there.led),
)
distance_is_reach leads roots place (Some d) is = (λ _. record { steps = d; led = is.0 }, λ _. refl)

chain_below : (leads : ℕ → ℕ → Type 0) (count : ℕ) → StaysBelow leads count → (n a b : ℕ) → a < count
    → Chain leads a b n → b < count
chain_below leads count stays zero a b below chain = subst (λ (m : ℕ). m < count) chain below
chain_below leads count stays (suc n) a b below chain = chain_below leads count stays n chain.0 b
    (stays a chain.0 below chain.1) chain.2

pub reached_below : (leads : ℕ → ℕ → Type 0) (count : ℕ) (roots : List ℕ) → StaysBelow leads count
    → All (λ root. root < count) roots
    → (place : ℕ) → IsReached leads roots place → place < count
reached_below leads count roots stays below place there =
    let root = All-contains (λ root. root < count) roots there.led.root below there.led.is_root in
    chain_below leads count stays there.steps there.led.root place root there.led.chain

mark_at : (ds : List (Option ℕ)) (place : ℕ) → is_marked (map is_some ds) place ≡ has_distance ds place
mark_at [] place = refl
mark_at (d ∷ ds) zero = refl
mark_at (d ∷ ds) (suc place) = mark_at ds place

marked_below : (bs : List Bool) (place : ℕ) → is_marked bs place ≡ true → place < length bs
marked_below [] place is = absurd (false≢true is)
marked_below (b ∷ bs) zero is = omega arith
marked_below (b ∷ bs) (suc place) is = omega (arith, marked_below bs place is)

-- marks for the places that have a distance are marks for those that are reached
pub marks_of_distances : (leads : ℕ → ℕ → Type 0) (count : ℕ) (roots : List ℕ) (ds : List (Option ℕ))
    (marks : List Bool)
    → StaysBelow leads count → All (λ root. root < count) roots → AreDistances leads count roots ds
    → marks ≡ map is_some ds
    → AreMarks leads count roots marks
marks_of_distances leads count roots ds marks stays below are is = record {
  long = long;
  each = λ place. (
    λ has. (here place (subst (λ (n : ℕ). place < n) long (marked_below marks place has))).0 (sym (mark_is place)
        ∙ has),
    λ there. mark_is place ∙ (here place (reached_below leads count roots stays below place there)).1 there,
  );
}
  where
    long : length marks ≡ count
    long = ap length is ∙ (length-map ds is_some ∙ are.long)

    mark_is : (place : ℕ) → is_marked marks place ≡ has_distance ds place
    mark_is place = ap (λ (bs : List Bool). is_marked bs place) is ∙ mark_at ds place

    here : (place : ℕ) → place < count → (has_distance ds place ≡ true) ↔ IsReached leads roots place
    here place inside = distance_is_reach leads roots place (distance_at ds place) (are.each place inside)

-- ---- rows and steps

-- the places of a row are below the count
pub row_inside : (leads : ℕ → ℕ → Type 0) (count node : ℕ) (ns : List ℕ) → StaysBelow leads count → node < count
    → ((n : ℕ) → leads node n ↔ Contains ns n) → All (λ n. n < count) ns
row_inside leads count node ns stays below are = All-weaker (Contains ns) (λ n. n < count)
    (λ n is. stays node n below ((are n).1 is)) ns (All-contains_itself ns)

-- the steps of one more place and its row
pub steps_more : (degree : ℕ → ℕ) (order : List ℕ) (next node before now after row : ℕ) → next < length order
    → node ≡ slice_index_or order next 0 → TakesInStep degree (take next order) before now → after ≤ now + 1 + row
    → row ≤ degree node → TakesInStep degree (take (next + 1) order) before after
steps_more degree order next node before now after row more here so_far added few =
    let degree_is : degree node ≡ degree (get_or order next 0) = ap degree here in
    omega (
      arith,
      so_far,
      added,
      few,
      degree_is,
      sum_by_more degree order next 0 more,
      length-take-le next order (omega (arith, more)),
      length-take-le (next + 1) order (omega (arith, more)),
    )

pub steps_grown : (degree : ℕ → ℕ) (s t : State) (n before after : ℕ) → Grows s t → n ≤ length s.1
    → TakesInStep degree (take n s.1) before after → TakesInStep degree (take n t.1) before after
steps_grown degree s t n before after grows inside is =
    let same : take n t.1 ≡ take n s.1 = ap (take n) grows.grown ∙ take-append-le n s.1 grows.more inside in
    subst (λ (ps : List ℕ). TakesInStep degree ps before after) (sym same) is

pub steps_reached : (leads : ℕ → ℕ → Type 0) (count : ℕ) (roots : List ℕ) (degree : ℕ → ℕ) (s : State)
    (n before after : ℕ)
    → IsGood leads count roots s → n ≤ length s.1 → TakesInStep degree (take n s.1) before after
    → TakesInStepWithReached leads roots degree before after
steps_reached leads count roots degree s n before after good inside is = record {
  places = take n s.1;
  once = λ i j d earlier below.
      let below_n : j < n = omega (arith, below, length-take-le n s.1 inside) in
      let at_i = get_or-take n s.1 i d (omega (arith, earlier, below_n)) in
      let at_j = get_or-take n s.1 j d below_n in
      λ same. good.once i j d earlier (omega (arith, below_n, inside)) (sym at_i ∙ (same ∙ at_j));
  reached = All-take (IsReached leads roots) n s.1 each;
  steps = is;
}
  where
    each : All (IsReached leads roots) s.1
    each k d below =
        let w = within_is k (level s k) (good.held k below) in
        let at : slice_index_or s.1 k 0 ≡ slice_index_or s.1 k d = get_or_default s.1 k 0 d below in
        let led : IsLed leads roots (slice_index_or s.1 k 0) w.0 = good.sound (slice_index_or s.1 k 0) w.0 w.1 in
        subst (IsReached leads roots) at (record { steps = w.0; led = led })
