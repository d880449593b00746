-- Crates of one name in a row, and steps of loops over their places.
use Rattle.std.proofs.Common.{◌≡◌, ℕ, zero, suc, ◌+◌, ◌-◌, ◌<◌, ◌≤◌, Bool, true, false, List, [], ◌∷◌, ◌++◌, Contains}
use Rattle.std.proofs.Common.{Some, length, take, drop, map, filter, slice_get, refl, sym, ap, ◌∙◌, subst, arith}
use Rattle.std.specs.List.{range_with_len}
use Rattle.std.proofs.Math.Seq.{take-add}
use Rattle.std.proofs.lemmas.Bool.{cond-true, cond-false}
use Rattle.std.proofs.lemmas.List.{drop-drop, drop-map, drop_more, length-map, take-map}
use Rattle.std.proofs.lemmas.List.Elements.{Contains-append_right, filter-append}
use Rattle.std.proofs.lemmas.List.FromFn.{length-range_with_len}
use Rattle.std.proofs.lemmas.List.Sums.{length-filter, count_by-le-length}
use Rattle.std.proofs.lemmas.Option.{get_or_from_slice_get, slice_get_within}
use Rattle.std.proofs.lemmas.Simd.{map-map}
use Rattle.std.proofs.lemmas.Slice.Eq.{bytes_eq-Decides}
use Rattle.deny_base_lists.proofs.Members.{Contains-by_cases, Contains-filter, Contains-from_filter, contains_map}
use Rattle.deny_base_lists.proofs.Members.{from_there, no_member}
use Rattle.deny_spec.specs.Graph.{Crate}
use Rattle.deny_spec.specs.Groups.{has_name}
use Rattle.deny_rules_match.specs.Marks.{mark_at, marked}
use Rattle.deny_rules_match.specs.Placed.{ArePlaced}
use Rattle.deny_base_lists.proofs.Loops.{appended}
use Rattle.deny_base_lists.proofs.Filters.{filter-map}
use Rattle.deny_base_lists.proofs.Numbers.{range_with_len-same}
use Rattle.deny_krates.proofs.PlaceLemmas.{place_of}

-- parts of lists

-- the elements before the next place
pub take-next : {X : Type 0} (xs : List X) (place next : ℕ) → place ≤ next
    → take next xs ≡ take place xs ++ take (next - place) (drop place xs)
take-next xs place next up =
    let more : next ≡ place + (next - place) = omega arith in
    ap (λ n. take n xs) more ∙ take-add place (next - place) xs

-- the elements before a later place, from the start of a part on
part : {X : Type 0} (xs : List X) (start place end : ℕ) → start ≤ place → place ≤ end
    → take (end - start) (drop start xs) ≡ take (place - start) (drop start xs) ++ take (end - place) (drop place xs)
part xs start place end up on =
    let more : place - start ≤ end - start = omega arith in
    let left : end - start - (place - start) ≡ end - place = omega arith in
    let here : start + (place - start) ≡ place = omega arith in
    take-next (drop start xs) (place - start) (end - start) more
    ∙ (ap (λ n. take (place - start) (drop start xs) ++ take n (drop (place - start) (drop start xs))) left
    ∙ ap (λ ys. take (place - start) (drop start xs) ++ take (end - place) ys)
    (drop-drop (place - start) start xs ∙ ap (λ n. drop n xs) here))

later_part : {X : Type 0} (xs : List X) (start place end : ℕ) (x : X) → start ≤ place → place ≤ end
    → Contains (take (end - place) (drop place xs)) x → Contains (take (end - start) (drop start xs)) x
later_part xs start place end x up on is =
    subst (λ ys. Contains ys x) (sym (part xs start place end up on))
    (Contains-append_right (take (place - start) (drop start xs)) (take (end - place) (drop place xs)) x is)

one-of : {X : Type 0} (xs : List X) (place : ℕ) (x : X) → slice_get xs place ≡ Some x → take 1 (drop place xs) ≡ x ∷ []
one-of xs place x is =
    ap (take 1) (drop_more xs place x (slice_get_within xs place x is)
    ∙ ap (λ y. y ∷ drop (place + 1) xs) (get_or_from_slice_get xs place x x is))

-- lists of consecutive numbers

drop-span : (n a m : ℕ) → drop n (range_with_len a m) ≡ range_with_len (a + n) (m - n)
drop-span zero a m = range_with_len-same a (a + 0) m (m - 0) (omega arith) (omega arith)
drop-span (suc n) a zero = range_with_len-same (a + suc n) (a + suc n) 0 (0 - suc n) refl (omega arith)
drop-span (suc n) a (suc m) =
    drop-span n (a + 1) m ∙ range_with_len-same (a + 1 + n) (a + suc n) (m - n) (suc m - suc n) (omega arith)
    (omega arith)

take-span : (n a m : ℕ) → n ≤ m → take n (range_with_len a m) ≡ range_with_len a n
take-span zero a m h = refl
take-span (suc n) a zero h = absurd (omega arith)
take-span (suc n) a (suc m) h = ap (λ places. a ∷ places) (take-span n (a + 1) m (omega arith))

span-step : (a b : ℕ) → a < b → range_with_len a (b - a) ≡ a ∷ range_with_len (a + 1) (b - (a + 1))
span-step a b h = range_with_len-same a a (b - a) (suc (b - (a + 1))) refl (omega arith)

pub empty_range : (a b : ℕ) → b ≤ a → range_with_len a (b - a) ≡ []
empty_range a b h = range_with_len-same a a (b - a) 0 refl (omega arith)

within_span : (a n p : ℕ) → Contains (range_with_len a n) p → (a ≤ p) × (p < a + n)
within_span a zero p is = absurd (no_member p is)
within_span a (suc n) p is =
    Contains-by_cases a (range_with_len (a + 1) n) p is
    (λ same. (omega arith, omega arith))
    (λ later. let rest = within_span (a + 1) n p later in (omega (arith, rest.0), omega (arith, rest.1)))

-- how many places of a run are marked

few-marked : (p : ℕ → Bool) (a n : ℕ) → length (filter p (range_with_len a n)) ≤ n
few-marked p a n = omega (
  arith,
  length-filter p (range_with_len a n),
  count_by-le-length p
      (range_with_len a n),
  length-range_with_len a n,
)

pub counted-within : (p : ℕ → Bool) (count place start end : ℕ)
    → count + length (filter p (range_with_len place (end - place))) ≡ length
    (filter p (range_with_len start (end - start))) → count ≤ end
counted-within p count place start end so = omega (arith, few-marked p start (end - start))

pub counted-on : (p : ℕ → Bool) (count place end total : ℕ) → place < end → p place ≡ true
    → count + length (filter p (range_with_len place (end - place))) ≡ total
    → count + 1 + length (filter p (range_with_len (place + 1) (end - (place + 1)))) ≡ total
counted-on p count place end total below on so =
    let rest = filter p (range_with_len (place + 1) (end - (place + 1))) in
    let step : filter p (range_with_len place (end - place)) ≡ place ∷ rest =
    ap (filter p) (span-step place end below) ∙ cond-true (p place) (place ∷ rest) rest on in
    omega (arith, so, ap length step)

pub counted-off : (p : ℕ → Bool) (count place end total : ℕ) → place < end → p place ≡ false
    → count + length (filter p (range_with_len place (end - place))) ≡ total
    → count + length (filter p (range_with_len (place + 1) (end - (place + 1)))) ≡ total
counted-off p count place end total below off so =
    let rest = filter p (range_with_len (place + 1) (end - (place + 1))) in
    let step : filter p (range_with_len place (end - place)) ≡ rest =
    ap (filter p) (span-step place end below) ∙ cond-false (p place) (place ∷ rest) rest off in
    omega (arith, so, ap length step)

-- steps of loops over places that append one item for each place, or keep some places
pub pushed-run : {X : Type 0} (f : ℕ → X) (old new whole : List X) (x : X) (place end : ℕ) → new ≡ old ++ x ∷ []
    → x ≡ f place → place < end
    → old ++ map f (range_with_len place (end - place)) ≡ whole
    → new ++ map f (range_with_len (place + 1) (end - (place + 1))) ≡ whole
pushed-run f old new whole x place end pushed made below =
    appended (map f) (range_with_len place (end - place)) (range_with_len (place + 1) (end - (place + 1)))
    (f place ∷ []) old new whole
    (ap (map f) (span-step place end below)) (pushed ∙ ap (λ y. old ++ y ∷ []) made)

pub pushed-span : (old new whole : List ℕ) (place end : ℕ) → place < end → new ≡ old ++ place ∷ []
    → old ++ range_with_len place (end - place) ≡ whole → new ++ range_with_len (place + 1) (end - (place + 1)) ≡ whole
pushed-span old new whole place end below pushed =
    appended (λ places. places) (range_with_len place (end - place)) (range_with_len (place + 1) (end - (place + 1)))
    (place ∷ []) old new whole (span-step place end below) pushed

pub kept-run : (p : ℕ → Bool) (old new whole : List ℕ) (place end : ℕ) → place < end
    → new ≡ old ++ filter p (place ∷ [])
    → old ++ filter p (range_with_len place (end - place)) ≡ whole
    → new ++ filter p (range_with_len (place + 1) (end - (place + 1))) ≡ whole
kept-run p old new whole place end below added =
    let rest = range_with_len (place + 1) (end - (place + 1)) in
    appended (filter p) (range_with_len place (end - place)) rest (filter p (place ∷ [])) old new whole
    (ap (filter p) (span-step place end below) ∙ filter-append p (place ∷ []) rest) added

-- a step of a loop that keeps crates of a run, and appends items for those that it keeps
pub run-step : {X Y : Type 0} (t : X → Bool) (make : List X → List Y)
    → ((xs ys : List X) → make (xs ++ ys) ≡ make xs ++ make ys)
    → (crates : List X) (old new whole : List Y) (start end : ℕ) → start < end
    → new ≡ old ++ make (filter t (take 1 (drop start crates)))
    → old ++ make (filter t (take (end - start) (drop start crates))) ≡ whole
    → new ++ make (filter t (take (end - (start + 1)) (drop (start + 1) crates))) ≡ whole
run-step t make apart crates old new whole start end below =
    let here = take 1 (drop start crates) in
    let rest = take (end - (start + 1)) (drop (start + 1) crates) in
    let one : start + 1 - start ≡ 1 = omega arith in
    let split : take (end - start) (drop start crates) ≡ here ++ rest = part crates start (start + 1) end (omega arith)
    (omega arith) ∙ ap (λ n. take n (drop start crates) ++ rest) one in
    appended (λ cs. make (filter t cs)) (take (end - start) (drop start crates)) rest
    (make (filter t here)) old new whole
    (ap (λ cs. make (filter t cs)) split ∙ (ap make (filter-append t here rest)
    ∙ apart (filter t here) (filter t rest)))

-- whether the crate at the next place is kept
pub one-kept : {X : Type 0} (t : X → Bool) (xs : List X) (place : ℕ) (x : X) → slice_get xs place ≡ Some x → t x ≡ true
    → filter t (take 1 (drop place xs)) ≡ x ∷ []
one-kept t xs place x is passes = ap (filter t) (one-of xs place x is) ∙ cond-true (t x) (x ∷ []) [] passes

pub one-left_out : {X : Type 0} (t : X → Bool) (xs : List X) (place : ℕ) (x : X) → slice_get xs place ≡ Some x
    → t x ≡ false → filter t (take 1 (drop place xs)) ≡ []
one-left_out t xs place x is fails = ap (filter t) (one-of xs place x is) ∙ cond-false (t x) (x ∷ []) [] fails

-- the places of a run, by what is made of them or counted

module _ (crates : List Crate) (placed : ArePlaced crates) (start end : ℕ) (up : start ≤ end)
    (within : end ≤ length crates) where
  places-run : map place_of (take (end - start) (drop start crates)) ≡ range_with_len start (end - start)
  places-run =
      sym (take-map place_of (end - start) (drop start crates))
      ∙ (ap (take (end - start)) (sym (drop-map place_of start crates)
      ∙ (ap (drop start) placed.places ∙ drop-span start 0 (length crates)))
      ∙ (take-span (end - start) (0 + start) (length crates - start) (omega arith)
      ∙ range_with_len-same (0 + start) start (end - start) (end - start) (omega arith) refl))

  pub map-run : {X : Type 0} (f : ℕ → X) → map f (range_with_len start (end - start)) ≡ map (λ c. f c.place)
      (take (end - start) (drop start crates))
  map-run f = ap (map f) (sym places-run) ∙ map-map f place_of (take (end - start) (drop start crates))

  pub count-run : (marks : List Bool) → length (filter (mark_at marks) (range_with_len start (end - start))) ≡ length
      (filter (marked marks) (take (end - start) (drop start crates)))
  count-run marks =
      let run = take (end - start) (drop start crates) in
      ap (λ ps. length (filter (mark_at marks) ps)) (sym places-run)
      ∙ (ap length (filter-map (mark_at marks) place_of run) ∙ length-map (filter (marked marks) run) place_of)

-- the run of a name, by its places

pub named_is : (name : List ℕ) (c : Crate) → has_name name c ≡ true → c.name ≡ name
unfolding has_name
named_is name c e = (bytes_eq-Decides c.name name).0 e

is_named : (name : List ℕ) (c : Crate) → c.name ≡ name → has_name name c ≡ true
unfolding has_name
is_named name c e = (bytes_eq-Decides c.name name).1 e

-- the run of the name of the crate at a place
pub record IsRunOf (crates : List Crate) (name : List ℕ) (place start end : ℕ) : Type 0 where
  pub owner : Crate
  pub holds : Contains crates owner
  pub owned : owner.name ≡ name
  pub from : start ≤ place
  pub past : place < end
  pub named : (c : Crate) → Contains (take (end - place) (drop place crates)) c → c.name ≡ name

pub run_of : (crates : List Crate) (name : List ℕ) (place start end : ℕ) (owner : Crate) → ArePlaced crates
    → slice_get crates place ≡ Some owner → owner.name ≡ name
    → start ≤ end → end ≤ length crates → take (end - start) (drop start crates) ≡ filter (has_name name) crates
    → IsRunOf crates name place start end
run_of crates name place start end owner placed here owned up within named =
    let holds = from_there crates place owner here in
    let run : List Crate = take (end - start) (drop start crates) in
    let in_run : Contains run owner = subst (λ (cs : List Crate). Contains cs owner) (sym named)
    (Contains-filter (has_name name) crates owner holds (is_named name owner owned)) in
    let at : Contains (range_with_len start (end - start)) owner.place =
    subst (λ (ps : List ℕ). Contains ps owner.place) (places-run crates placed start end up within)
    (contains_map place_of run owner in_run) in
    let bounds = within_span start (end - start) owner.place at in
    let place_is = placed.place place owner here in
    let from : start ≤ place = omega (arith, bounds.0, place_is) in
    let on : place < end = omega (arith, bounds.0, bounds.1, place_is) in
    record {
      owner = owner;
      holds = holds;
      owned = owned;
      from = from;
      past = on;
      named = λ c is. named_is name c (Contains-from_filter (has_name name) crates c
          (subst (λ (cs : List Crate). Contains cs c) named
          (later_part crates start place end c from (omega (arith, on)) is))).1;
    }
