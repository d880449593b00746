-- Members of lists: the element at an index, members of mapped, filtered and joined lists, tests of members.
use Rattle.std.proofs.Common.{Bool, List, None, Option, Some, [], ap, arith, false, inl, inr, length, map, refl, subst}
use Rattle.std.proofs.Common.{suc, sym, true, zero, ℕ, ◌<◌, ◌∙◌, ◌∷◌, ◌≡◌, ◌⊎◌, ◌++◌}
use Rattle.std.specs.List.{AllByRecursion, AllZip, cons_option, flat_map, list_all, list_any}
use Rattle.std.specs.Prelude.{Contains, cond, filter, filter_map, option_map, slice_get, slice_index_or}
use Rattle.std.proofs.lemmas.Bool.{and_from, and_parts, or_cases}
use Rattle.std.proofs.lemmas.List.Elements.{Contains-append_cases, Contains-append_left, Contains-append_right}
use Rattle.std.proofs.lemmas.List.Elements.{filter_passes}
use Rattle.std.proofs.lemmas.List.Folds.{list_any_at}
use Rattle.std.proofs.lemmas.Option.{get_or_from_slice_get, none-some, same_Some, slice_get-map, slice_get_read}
use Rattle.std.proofs.lemmas.Option.{slice_get_within}

-- an element of a list is the first or one of the rest
Contains-cases_at : {T : Type 0} (x : T) (xs : List T) (z : T) (k : ℕ) → k < length (x ∷ xs)
    → slice_index_or (x ∷ xs) k z ≡ z → (x ≡ z) ⊎ Contains xs z
Contains-cases_at x xs z zero below is = inl is
Contains-cases_at x xs z (suc k) below is = inr (k, omega arith, is)

pub Contains-cases : {T : Type 0} (x : T) (xs : List T) (z : T) → Contains (x ∷ xs) z → (x ≡ z) ⊎ Contains xs z
Contains-cases x xs z is = Contains-cases_at x xs z is.0 is.1 is.2

pub Contains-first : {T : Type 0} (x : T) (xs : List T) → Contains (x ∷ xs) x
Contains-first x xs = (0, omega arith, refl)

pub Contains-rest : {T : Type 0} (x : T) (xs : List T) (z : T) → Contains xs z → Contains (x ∷ xs) z
Contains-rest x xs z is = (suc is.0, omega arith, is.2)

pub no_member : {T : Type 0} (z : T) → Contains [] z → ⊥
no_member z is = omega (arith, is.1)

-- what is true of each element is true of a member
pub at_member : {T : Type 0} (P : T → Type 0) (xs : List T) (z : T) → AllByRecursion P xs → Contains xs z → P z
at_member P [] z all is = absurd (no_member z is)
at_member P (x ∷ xs) z all is = elim (Contains-cases x xs z is) [
  | inl first ↦ subst P first all.0
  | inr later ↦ at_member P xs z all.1 later
]

-- what follows for the first element and for the rest follows for a member
pub Contains-by_cases : {T : Type 0} (x : T) (xs : List T) (z : T) {P : Type 0} → Contains (x ∷ xs) z → (x ≡ z → P)
    → (Contains xs z → P) → P
Contains-by_cases x xs z {P} is first later = elim (Contains-cases x xs z is) as (λ _. P)
    [ inl e ↦ first e | inr h ↦ later h ]

-- each index below the length of a list has an element
pub some_at : {X : Type 0} (xs : List X) (n : ℕ) → n < length xs → (x : X) × (slice_get xs n ≡ Some x)
some_at [] n inside = absurd (omega arith)
some_at (x ∷ xs) zero inside = (x, refl)
some_at (x ∷ xs) (suc n) inside = some_at xs n (omega arith)

-- a member has an index
pub there : {A : Type 0} (xs : List A) (x : A) → Contains xs x → (k : ℕ) × (slice_get xs k ≡ Some x)
there xs x is = (is.0, slice_get_read xs (length xs) is.0 x refl is.1 (sym is.2))

pub from_there : {A : Type 0} (xs : List A) (k : ℕ) (x : A) → slice_get xs k ≡ Some x → Contains xs x
from_there xs k x is = (k, slice_get_within xs k x is, get_or_from_slice_get xs k x x is)

pub one_there : {A : Type 0} (xs : List A) (i : ℕ) (x y : A) → slice_get xs i ≡ Some x → slice_get xs i ≡ Some y → x ≡ y
one_there xs i x y a b = same_Some (sym a ∙ b)
  where
    same_Some : Some x ≡ Some y → x ≡ y
    same_Some e = cc

pub map_at : {A B : Type 0} (f : A → B) (xs : List A) (k : ℕ) (x : A) → slice_get xs k ≡ Some x
    → slice_get (map f xs) k ≡ Some (f x)
map_at f xs k x is = slice_get-map f xs k ∙ ap (option_map f) is

pub from_map_at : {A B : Type 0} (f : A → B) (xs : List A) (k : ℕ) (y : B) → slice_get (map f xs) k ≡ Some y
    → (x : A) × (slice_get xs k ≡ Some x) × (f x ≡ y)
from_map_at {A} {B} f xs k y is = by_case (slice_get xs k) refl (sym (slice_get-map f xs k) ∙ is)
  where
    by_case : (o : Option A) → slice_get xs k ≡ o → option_map f o ≡ Some y
        → (x : A) × (slice_get xs k ≡ Some x) × (f x ≡ y)
    by_case None at e = absurd (none-some y e)
    by_case (Some x) at e = (x, at, same_Some (f x) y e)

pub contains_map : {A B : Type 0} (f : A → B) (xs : List A) (x : A) → Contains xs x → Contains (map f xs) (f x)
contains_map f xs x is = let at = there xs x is in from_there (map f xs) at.0 (f x) (map_at f xs at.0 x at.1)

pub from_contains_map : {A B : Type 0} (f : A → B) (xs : List A) (y : B) → Contains (map f xs) y
    → (x : A) × Contains xs x × (f x ≡ y)
from_contains_map f xs y is =
    let at = there (map f xs) y is in
    let from = from_map_at f xs at.0 y at.1 in
    (from.0, from_there xs at.0 from.0 from.1, from.2)

-- the element that a member of a mapped list was made from
pub record IsMadeFrom {X Y : Type 0} (f : X → Y) (xs : List X) (y : Y) : Type 0 where
  pub from : X
  pub member : Contains xs from
  pub is : f from ≡ y

pub Contains-from_map : {X Y : Type 0} (f : X → Y) (xs : List X) (y : Y) → Contains (map f xs) y → IsMadeFrom f xs y
Contains-from_map f xs y is = let of = from_contains_map f xs y is in record { from = of.0; member = of.1; is = of.2 }

pub filter_keeps : {A : Type 0} (p : A → Bool) (xs : List A) (k : ℕ) (x : A) → slice_get xs k ≡ Some x → p x ≡ true
    → Contains (filter p xs) x
filter_keeps p [] k x at is = absurd (none-some x at)
filter_keeps {A} p (y ∷ xs) zero x at is =
    let same : y ≡ x = same_Some y x at in
    rw (subst (λ (z : A). p z ≡ true) (sym same) is) (from_there (y ∷ filter p xs) 0 x at)
filter_keeps {A} p (y ∷ xs) (suc k) x at is = by_test (p y) (filter_keeps p xs k x at is)
  where
    by_test : (b : Bool) → Contains (filter p xs) x → Contains (cond b (y ∷ filter p xs) (filter p xs)) x
    by_test true has = let index = there (filter p xs) x has in from_there (y ∷ filter p xs) (suc index.0) x index.1
    by_test false has = has

pub filtered : {A : Type 0} (p : A → Bool) (xs : List A) (x : A) → Contains (filter p xs) x → Contains xs x
filtered p [] x holds = holds
filtered {A} p (y ∷ xs) x holds = by_test (filtered p xs x) (p y) holds
  where
    later : Contains xs x → Contains (y ∷ xs) x
    later has = let at = there xs x has in from_there (y ∷ xs) (suc at.0) x at.1

    by_test : (Contains (filter p xs) x → Contains xs x) → (b : Bool)
        → Contains (cond b (y ∷ filter p xs) (filter p xs)) x → Contains (y ∷ xs) x
    by_test rest false has = later (rest has)
    by_test rest true has = by_index rest (there (y ∷ filter p xs) x has).0 (there (y ∷ filter p xs) x has).1
      where
        by_index : (Contains (filter p xs) x → Contains xs x) → (k : ℕ) → slice_get (y ∷ filter p xs) k ≡ Some x
            → Contains (y ∷ xs) x
        by_index rest zero at = from_there (y ∷ xs) 0 x at
        by_index rest (suc k) at = later (rest (from_there (filter p xs) k x at))

pub passes_filter : {A : Type 0} (p : A → Bool) (xs : List A) (x : A) → Contains (filter p xs) x → p x ≡ true
passes_filter {A} p xs x holds =
    let at = there (filter p xs) x holds in
    subst (λ (y : A). p y ≡ true) (get_or_from_slice_get (filter p xs) at.0 x x at.1)
    (filter_passes p xs at.0 x (slice_get_within (filter p xs) at.0 x at.1))

pub Contains-filter : {X : Type 0} (p : X → Bool) (xs : List X) (x : X) → Contains xs x → p x ≡ true
    → Contains (filter p xs) x
Contains-filter p xs x is passes = let at = there xs x is in filter_keeps p xs at.0 x at.1 passes

pub Contains-from_filter : {X : Type 0} (p : X → Bool) (xs : List X) (x : X) → Contains (filter p xs) x
    → Contains xs x × (p x ≡ true)
Contains-from_filter p xs x is = (filtered p xs x is, passes_filter p xs x is)

pub Contains-flat_map : {X Y : Type 0} (f : X → List Y) (xs : List X) (x : X) (y : Y) → Contains xs x → Contains (f x) y
    → Contains (flat_map f xs) y
Contains-flat_map f [] x y is of = absurd (no_member x is)
Contains-flat_map f (z ∷ xs) x y is of =
    Contains-by_cases z xs x is
    (λ same. Contains-append_left (f z) (flat_map f xs) y (subst (λ w. Contains (f w) y) (sym same) of))
    (λ later. Contains-append_right (f z) (flat_map f xs) y (Contains-flat_map f xs x y later of))

pub record ComesOf {X Y : Type 0} (f : X → List Y) (xs : List X) (y : Y) : Type 0 where
  pub from : X
  pub member : Contains xs from
  pub of : Contains (f from) y

pub Contains-from_flat_map : {X Y : Type 0} (f : X → List Y) (xs : List X) (y : Y) → Contains (flat_map f xs) y
    → ComesOf f xs y
Contains-from_flat_map f [] y is = absurd (no_member y is)
Contains-from_flat_map f (x ∷ xs) y is = elim (Contains-append_cases (f x) (flat_map f xs) y is)
    as (λ _. ComesOf f (x ∷ xs) y) [
      | inl here ↦ record { from = x; member = Contains-first x xs; of = here }
      | inr later ↦ let rest = Contains-from_flat_map f xs y later in
          record { from = rest.from; member = Contains-rest x xs rest.from rest.member; of = rest.of }
    ]

-- the element that a member of the list of a `filter_map` was made from
pub record GivenBy {X Y : Type 0} (h : X → Option Y) (xs : List X) (y : Y) : Type 0 where
  pub from : X
  pub member : Contains xs from
  pub gives : h from ≡ Some y

pub Contains-filter_map : {X Y : Type 0} (h : X → Option Y) (xs : List X) (x : X) (y : Y) → Contains xs x → h x ≡ Some y
    → Contains (filter_map h xs) y
Contains-filter_map h [] x y is gives = absurd (no_member x is)
Contains-filter_map h (z ∷ xs) x y is gives = Contains-by_cases z xs x is
    (λ same. here (h z) (ap h same ∙ gives))
    (λ later. rest (h z) (Contains-filter_map h xs x y later gives))
  where
    here : (o : Option _) → o ≡ Some y → Contains (cons_option o (filter_map h xs)) y
    here None e = absurd (none-some y e)
    here (Some w) e = subst (λ v. Contains (v ∷ filter_map h xs) y) (sym (same_Some w y e))
        (Contains-first y (filter_map h xs))

    rest : (o : Option _) → Contains (filter_map h xs) y → Contains (cons_option o (filter_map h xs)) y
    rest None holds = holds
    rest (Some w) holds = Contains-rest w (filter_map h xs) y holds

pub from_filter_map : {X Y : Type 0} (h : X → Option Y) (xs : List X) (y : Y) → Contains (filter_map h xs) y
    → GivenBy h xs y
from_filter_map h [] y is = absurd (no_member y is)
from_filter_map {X} {Y} h (x ∷ xs) y is = by_case (λ holds. from_filter_map h xs y holds) (h x) refl is
  where
    later : GivenBy h xs y → GivenBy h (x ∷ xs) y
    later rest = record { from = rest.from; member = Contains-rest x xs rest.from rest.member; gives = rest.gives }

    by_case : (Contains (filter_map h xs) y → GivenBy h xs y) → (o : Option Y) → h x ≡ o
        → Contains (cons_option o (filter_map h xs)) y → GivenBy h (x ∷ xs) y
    by_case rest None e holds = later (rest holds)
    by_case rest (Some w) e holds = Contains-by_cases w (filter_map h xs) y holds
        (λ same. record { from = x; member = Contains-first x xs; gives = e ∙ ap (λ v. Some v) same })
        (λ after. later (rest after))

-- some member passes a test
pub record SomePasses {X : Type 0} (p : X → Bool) (xs : List X) : Type 0 where
  pub one : X
  pub member : Contains xs one
  pub passes : p one ≡ true

pub any_from : {X : Type 0} (p : X → Bool) (xs : List X) (x : X) → Contains xs x → p x ≡ true → list_any p xs ≡ true
any_from p xs x is passes = list_any_at p xs is.0 x is.1 (ap p is.2 ∙ passes)

pub any_passes : {X : Type 0} (p : X → Bool) (xs : List X) → list_any p xs ≡ true → SomePasses p xs
any_passes p [] is = absurd (cc is)
any_passes p (y ∷ xs) is = elim (or_cases (p y) (list_any p xs) is) as (λ _. SomePasses p (y ∷ xs)) [
  | inl here ↦ record { one = y; member = Contains-first y xs; passes = here }
  | inr later ↦ let rest = any_passes p xs later in
      record { one = rest.one; member = Contains-rest y xs rest.one rest.member; passes = rest.passes }
]

-- all members pass a test
pub all_at : {X : Type 0} (p : X → Bool) (xs : List X) (x : X) → list_all p xs ≡ true → Contains xs x → p x ≡ true
all_at p [] x all is = absurd (no_member x is)
all_at p (y ∷ xs) x all is =
    let parts = and_parts (p y) (list_all p xs) all in
    Contains-by_cases y xs x is (λ same. sym (ap p same) ∙ parts.0) (λ later. all_at p xs x parts.1 later)

pub all_from : {X : Type 0} (p : X → Bool) (xs : List X) → ((x : X) → Contains xs x → p x ≡ true) → list_all p xs ≡ true
all_from p [] each = refl
all_from p (y ∷ xs) each =
    and_from (p y) (list_all p xs) (each y (Contains-first y xs))
    (all_from p xs (λ x is. each x (Contains-rest y xs x is)))

-- lists that are related element by element
pub zip_at : {A B : Type 0} (R : A → B → Type 0) (xs : List A) (ys : List B) (k : ℕ) (x : A) → AllZip R xs ys
    → slice_get xs k ≡ Some x → (y : B) × (slice_get ys k ≡ Some y) × R x y
zip_at R [] ys k x zip is = absurd (none-some _ is)
zip_at R (a ∷ xs) [] k x zip is = absurd zip
zip_at {A} R (a ∷ xs) (b ∷ ys) zero x zip is = (
  b,
  refl,
  subst (λ (z : A). R z b) (one_there (a ∷ xs) 0 a x refl is) zip.0,
)
zip_at R (a ∷ xs) (b ∷ ys) (suc k) x zip is = zip_at R xs ys k x zip.1 is

pub from_zip_at : {A B : Type 0} (R : A → B → Type 0) (xs : List A) (ys : List B) (k : ℕ) (y : B) → AllZip R xs ys
    → slice_get ys k ≡ Some y → (x : A) × (slice_get xs k ≡ Some x) × R x y
from_zip_at R xs [] k y zip is = absurd (none-some _ is)
from_zip_at R [] (b ∷ ys) k y zip is = absurd zip
from_zip_at {A} {B} R (a ∷ xs) (b ∷ ys) zero y zip is = (
  a,
  refl,
  subst (λ (z : B). R a z) (one_there (b ∷ ys) 0 b y refl is) zip.0,
)
from_zip_at R (a ∷ xs) (b ∷ ys) (suc k) y zip is = from_zip_at R xs ys k y zip.1 is

pub contains_none : {A P : Type 0} {x : A} → Contains [] x → P
contains_none h = absurd (omega (arith, h.1))

pub empty_from_no_member : {T : Type 0} (xs : List T) → ((x : T) → Contains xs x → ⊥) → xs ≡ []
empty_from_no_member [] none = refl
empty_from_no_member (x ∷ xs) none = absurd (none x (Contains-first x xs))

pub Contains-same : {T : Type 0} (xs ys : List T) (z : T) → xs ≡ ys → Contains xs z → Contains ys z
Contains-same {T} xs ys z same is = subst (λ (zs : List T). Contains zs z) same is

-- a map of a list whose members are members of another
pub contains_map_within : {A B : Type 0} (f : A → B) (xs ys : List A) → ((x : A) → Contains xs x → Contains ys x)
    → (y : B)
    → Contains (map f xs) y → Contains (map f ys) y
contains_map_within f xs ys there y is =
    let of = from_contains_map f xs y is in
    subst (Contains (map f ys)) of.2 (contains_map f ys of.0 (there of.0 of.1))

pub zip_push : {A B : Type 0} (R : A → B → Type 0) (xs : List A) (ys : List B) (x : A) (y : B) → AllZip R xs ys → R x y
    → AllZip R (xs ++ x ∷ []) (ys ++ y ∷ [])
zip_push R [] [] x y zip is = (is, tt)
zip_push R [] (v ∷ ys) x y zip is = absurd zip
zip_push R (u ∷ xs) [] x y zip is = absurd zip
zip_push R (u ∷ xs) (v ∷ ys) x y zip is = (zip.0, zip_push R xs ys x y zip.1 is)

pub tail-same : {A : Type 0} {x y : A} {xs ys : List A} → x ∷ xs ≡ y ∷ ys → xs ≡ ys
tail-same e = cc
