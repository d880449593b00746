-- Records in the order of their names, and the binary search among them.
use Rattle.std.proofs.Common.{◌≡◌, ◌≢◌, ℕ, ◌+◌, ◌<◌, ◌≤◌, List, length, map, refl, sym, ap, subst, inl, inr, ◌∙◌, arith}
use Rattle.std.proofs.Common.{get_or}
use Rattle.std.specs.Prelude.{Some, slice_get}
use Rattle.std.specs.Option.{option_map}
use Rattle.std.specs.Ordering.{nat_cmp, ordering_reverse}
use Rattle.std.specs.declared.cmp.Ordering.TheVariants.{Less, Equal, Greater}
use Rattle.std.specs.Cmp.Lexicographic.{slice_cmp, nat_list_cmp_total}
use Rattle.std.proofs.lemmas.Bool.{cases_lt}
use Rattle.std.proofs.lemmas.Option.{slice_get-map, slice_get_read, slice_get_within}
use Rattle.deny_base_lists.proofs.Orders.{not_below_itself, text_cmp-exact}
use Rattle.deny_base_lists.proofs.Sorted.{ascends_at}
use Rattle.deny_base_lists.proofs.Options.{some_inj}
use Rattle.deny_base_lists.specs.Search.{Ascend, IsNamedAt, IsGap}
use Rattle.deny_base_lists.specs.private.Halving.{IsBetween}

pub between_all : {T : Type 0} {name_of : T → List ℕ} (records : List T) (name : List ℕ)
    → IsBetween name_of records name 0 (length records)
between_all records name = record {
  ordered = omega arith;
  inside = omega arith;
  below = λ i e p at. absurd (omega (arith, p));
  above = λ i e p at. absurd (omega (arith, p, slice_get_within records i e at));
}

pub gap_between : {T : Type 0} {name_of : T → List ℕ} {records : List T} {name : List ℕ} {low high : ℕ} → high ≤ low
    → IsBetween name_of records name low high → IsGap name_of records name low
gap_between p b = record {
  inside = omega (arith, b.ordered, b.inside);
  below = b.below;
  above = λ i e q at. b.above i e (omega (arith, p, q)) at;
}

ascends : {T : Type 0} (name_of : T → List ℕ) (records : List T) → Ascend name_of records → (i j : ℕ) (a b : T)
    → i < j → slice_get records i ≡ Some a → slice_get records j ≡ Some b
    → slice_cmp nat_cmp (name_of a) (name_of b) ≡ Less
ascends {T} name_of records up i j a b p e f =
    ascends_at (slice_cmp nat_cmp) (map name_of records) i j (name_of a) (name_of b) up p (named i e) (named j f) where
      named : (k : ℕ) {z : T} → slice_get records k ≡ Some z → slice_get (map name_of records) k ≡ Some (name_of z)
      named k {z} at = slice_get-map name_of records k ∙ ap (option_map name_of) at

pub record_at : {T : Type 0} (records : List T) {index : ℕ} {named : T} → index < length records
    → named ≡ get_or records index named → slice_get records index ≡ Some named
record_at records {index} {named} inside is = slice_get_read records (length records) index named refl inside is

pub above_middle : {T : Type 0} {name_of : T → List ℕ} {records : List T} {name : List ℕ} {low high middle : ℕ}
    {named : T} → Ascend name_of records → middle < high → slice_get records middle ≡ Some named
    → slice_cmp nat_cmp (name_of named) name ≡ Less → IsBetween name_of records name low high
    → IsBetween name_of records name (middle + 1) high
above_middle {T} {name_of} {records} {name} {low} {high} {middle} {named} up less at is b = record {
  ordered = omega (arith, less);
  inside = b.inside;
  below = below;
  above = b.above;
} where
  below : (i : ℕ) (e : T) → i < middle + 1 → slice_get records i ≡ Some e
      → slice_cmp nat_cmp (name_of e) name ≡ Less
  below i e p there = elim (cases_lt i middle) [
    | inl before ↦ nat_list_cmp_total.trans (name_of e) (name_of named) name
        (ascends name_of records up i middle e named before there at) is
    | inr after ↦
        let here : i ≡ middle = omega (arith, p, after) in
        let same : named ≡ e = some_inj (sym at ∙ subst (λ k. slice_get records k ≡ Some e) here there) in
        subst (λ x. slice_cmp nat_cmp (name_of x) name ≡ Less) same is
  ]

pub below_middle : {T : Type 0} {name_of : T → List ℕ} {records : List T} {name : List ℕ} {low high middle : ℕ}
    {named : T} → Ascend name_of records → low ≤ middle → middle < high → slice_get records middle ≡ Some named
    → slice_cmp nat_cmp (name_of named) name ≡ Greater → IsBetween name_of records name low high
    → IsBetween name_of records name low middle
below_middle {T} {name_of} {records} {name} {low} {high} {middle} {named} up low_is less at is b = record {
  ordered = low_is;
  inside = omega (arith, less, b.inside);
  below = b.below;
  above = above;
} where
  here_above : slice_cmp nat_cmp name (name_of named) ≡ Less
  here_above = nat_list_cmp_total.antisymm name (name_of named) ∙ ap ordering_reverse is

  above : (i : ℕ) (e : T) → middle ≤ i → slice_get records i ≡ Some e → slice_cmp nat_cmp name (name_of e) ≡ Less
  above i e p there = elim (cases_lt middle i) [
    | inl after ↦ nat_list_cmp_total.trans name (name_of named) (name_of e) here_above
        (ascends name_of records up middle i named e after at there)
    | inr before ↦
        let here : i ≡ middle = omega (arith, p, before) in
        let same : named ≡ e = some_inj (sym at ∙ subst (λ k. slice_get records k ≡ Some e) here there) in
        subst (λ x. slice_cmp nat_cmp name (name_of x) ≡ Less) same here_above
  ]

pub named_equal : {T : Type 0} {name_of : T → List ℕ} {records : List T} {name : List ℕ} {index : ℕ} {named : T}
    → slice_get records index ≡ Some named → slice_cmp nat_cmp (name_of named) name ≡ Equal
    → IsNamedAt name_of records name index
named_equal {name_of = name_of} {name = name} {named = named} at is = record
    { named = named; at = at; is_name = text_cmp-exact (name_of named) name is }

-- the record that is read at the index of a name has the name
pub named_at : {T : Type 0} {name_of : T → List ℕ} {records : List T} {name : List ℕ} {index : ℕ} {named : T}
    → IsNamedAt name_of records name index → named ≡ get_or records index named
    → (slice_get records index ≡ Some named) × (name_of named ≡ name)
named_at {T} {name_of} {records} {name} {index} {named} found is =
    let at = record_at records (slice_get_within records index found.named found.at) is in
    (at, ap name_of (some_inj (sym at ∙ found.at)) ∙ found.is_name)

-- a name is at no more than one index
pub one_name : {T : Type 0} (name_of : T → List ℕ) (records : List T) (p q : ℕ) {x y : T} → Ascend name_of records
    → slice_get records p ≡ Some x → slice_get records q ≡ Some y → q ≢ p → name_of y ≡ name_of x → ⊥
one_name {T} name_of records p q {x} {y} up at there other same = elim (cases_lt q p) [
  | inl less ↦ not_below_itself (slice_cmp nat_cmp) nat_list_cmp_total (name_of y) (name_of x) same
      (ascends name_of records up q p y x less there at)
  | inr more ↦ not_below_itself (slice_cmp nat_cmp) nat_list_cmp_total (name_of x) (name_of y) (sym same)
      (ascends name_of records up p q x y (apart more) at there)
] where
  apart : p ≤ q → p < q
  apart h = elim (cases_lt p q) [
    | inl less ↦ less
    | inr not ↦ absurd (other (omega (arith, h, not)))
  ]

-- a name that has a gap is at no index
pub gap_apart : {T : Type 0} {name_of : T → List ℕ} (records : List T) (name : List ℕ) (index : ℕ)
    → IsGap name_of records name index → (p : ℕ) (y : T) → slice_get records p ≡ Some y → name_of y ≡ name → ⊥
gap_apart {T} {name_of} records name index gap p y at same = elim (cases_lt p index) [
  | inl less ↦ not_below_itself (slice_cmp nat_cmp) nat_list_cmp_total (name_of y) name same (gap.below p y less at)
  | inr more ↦ not_below_itself (slice_cmp nat_cmp) nat_list_cmp_total name (name_of y) (sym same)
      (gap.above p y more at)
]
