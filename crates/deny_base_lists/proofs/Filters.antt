-- What a filter keeps of a list, and what a search finds first in it, through the functions that make lists.
use Rattle.std.proofs.Common.{Bool, List, None, Option, Some, [], ap, arith, false, inl, inr, length, map, refl, suc}
use Rattle.std.proofs.Common.{sym, true, ◌∙◌, ◌∷◌, ◌≡◌}
use Rattle.std.specs.List.{cons_option, flat_map, list_any, list_all}
use Rattle.std.specs.Option.{option_map_or, option_or}
use Rattle.std.specs.Prelude.{cond, filter, filter_map, find, is_some, nat_lt, option_and_then, option_map, slice_get}
use Rattle.std.specs.Prelude.{◌&&◌, ◌||◌}
use Rattle.std.proofs.Math.Bool.{and_comm}
use Rattle.std.proofs.lemmas.Bool.{cases_Bool, cond-false, lt-ltb}
use Rattle.std.proofs.lemmas.List.Folds.{find-append}

pub filter-all : {X : Type 0} (xs : List X) → filter (λ x. true) xs ≡ xs
filter-all [] = refl
filter-all (x ∷ xs) = ap (λ ys. x ∷ ys) (filter-all xs)

pub filter-none : {X : Type 0} (p : X → Bool) (xs : List X) → ((x : X) → p x ≡ false) → filter p xs ≡ []
filter-none p [] fails = refl
filter-none p (x ∷ xs) fails = cond-false (p x) (x ∷ filter p xs) (filter p xs) (fails x) ∙ filter-none p xs fails

pub filter-filter : {X : Type 0} (p q : X → Bool) (xs : List X) → filter q (filter p xs) ≡ filter (λ x. p x && q x) xs
filter-filter p q [] = refl
filter-filter p q (x ∷ xs) =
    let rest : filter q (filter p xs) ≡ filter (λ x. p x && q x) xs = filter-filter p q xs in
    elim (cases_Bool (p x)) as (λ _. filter q (filter p (x ∷ xs)) ≡ filter (λ x. p x && q x) (x ∷ xs)) [
      | inl e ↦ rw (e, rest) refl
      | inr e ↦ rw (e, rest) refl
    ]

pub filter-map : {X Y : Type 0} (p : Y → Bool) (f : X → Y) (xs : List X)
    → filter p (map f xs) ≡ map f (filter (λ x. p (f x)) xs)
filter-map p f [] = refl
filter-map p f (x ∷ xs) =
    let rest : filter p (map f xs) ≡ map f (filter (λ x. p (f x)) xs) = filter-map p f xs in
    elim (cases_Bool (p (f x))) as (λ _. filter p (map f (x ∷ xs)) ≡ map f (filter (λ x. p (f x)) (x ∷ xs))) [
      | inl e ↦ rw (e, rest) refl
      | inr e ↦ rw (e, rest) refl
    ]

-- a filter keeps something where some element passes
pub some-filter : {X : Type 0} (p : X → Bool) (xs : List X) → nat_lt 0 (length (filter p xs)) ≡ list_any p xs
some-filter p [] = refl
some-filter p (x ∷ xs) = elim (cases_Bool (p x)) as (λ _. nat_lt 0 (length (filter p (x ∷ xs))) ≡ list_any p (x ∷ xs)) [
  | inl e ↦ rw e (lt-ltb 0 (suc (length (filter p xs))) (omega arith))
  | inr e ↦ rw (e, some-filter p xs) refl
]

pub filter_map-map : {X Y Z : Type 0} (h : Y → Option Z) (f : X → Y) (xs : List X)
    → filter_map h (map f xs) ≡ filter_map (λ x. h (f x)) xs
filter_map-map h f [] = refl
filter_map-map h f (x ∷ xs) = rw (filter_map-map h f xs) refl

pub find-map : {X Y : Type 0} (p : Y → Bool) (f : X → Y) (xs : List X)
    → find p (map f xs) ≡ option_map f (find (λ x. p (f x)) xs)
find-map p f [] = refl
find-map p f (x ∷ xs) = elim (cases_Bool (p (f x)))
    as (λ _. find p (map f (x ∷ xs)) ≡ option_map f (find (λ x. p (f x)) (x ∷ xs))) [
      | inl e ↦ rw e refl
      | inr e ↦ rw (e, find-map p f xs) refl
    ]

pub find-filter : {X : Type 0} (p q : X → Bool) (xs : List X) → find p (filter q xs) ≡ find (λ x. p x && q x) xs
find-filter p q [] = refl
find-filter p q (x ∷ xs) =
    let rest : find p (filter q xs) ≡ find (λ x. p x && q x) xs = find-filter p q xs in
    elim (cases_Bool (q x)) as (λ _. find p (filter q (x ∷ xs)) ≡ find (λ x. p x && q x) (x ∷ xs)) [
      | inl e ↦ rw (e, and_comm (p x) true, rest) refl
      | inr e ↦ rw (e, and_comm (p x) false, rest) refl
    ]

-- the first element that a filter keeps is the first that passes
pub first-filter : {X : Type 0} (p : X → Bool) (xs : List X) → slice_get (filter p xs) 0 ≡ find p xs
first-filter p [] = refl
first-filter p (x ∷ xs) = elim (cases_Bool (p x)) as (λ _. slice_get (filter p (x ∷ xs)) 0 ≡ find p (x ∷ xs)) [
  | inl e ↦ rw e refl
  | inr e ↦ rw (e, first-filter p xs) refl
]

pub find-any : {X : Type 0} (p : X → Bool) (xs : List X) → list_any p xs ≡ is_some (find p xs)
find-any p [] = refl
find-any p (x ∷ xs) = elim (cases_Bool (p x)) as (λ _. list_any p (x ∷ xs) ≡ is_some (find p (x ∷ xs))) [
  | inl e ↦ rw e refl
  | inr e ↦ rw (e, find-any p xs) refl
]

pub some_or : {X : Type 0} (o r : Option X) → is_some o ≡ true → option_or o r ≡ o
some_or None r is = cc
some_or (Some x) r is = refl

pub none_or : {X : Type 0} (o r : Option X) → is_some o ≡ false → option_or o r ≡ r
none_or None r is = refl
none_or (Some x) r is = cc

-- the first element that passes in joined lists is that of the first list in which one passes
pub find-flat_map : {X Y : Type 0} (p : Y → Bool) (f : X → List Y) (xs : List X)
    → find p (flat_map f xs) ≡ option_and_then (λ x. find p (f x)) (find (λ x. list_any p (f x)) xs)
find-flat_map p f [] = refl
find-flat_map p f (x ∷ xs) = find-append p (f x) (flat_map f xs)
    ∙ elim (cases_Bool (list_any p (f x)))
    as (λ _. option_or (find p (f x)) (find p (flat_map f xs)) ≡ option_and_then (λ x. find p (f x))
    (find (λ x. list_any p (f x)) (x ∷ xs))) [
      | inl e ↦ rw e (some_or (find p (f x)) (find p (flat_map f xs)) (sym (find-any p (f x)) ∙ e))
      | inr e ↦ rw e (none_or (find p (f x)) (find p (flat_map f xs)) (sym (find-any p (f x)) ∙ e)
          ∙ find-flat_map p f xs)
    ]

-- a test of the value that an element gives, where it gives one
abbrev pub passes : {X Y : Type 0} → (Y → Bool) → (X → Option Y) → X → Bool
passes p h x = option_map_or p (h x) false

pub find-filter_map : {X Y : Type 0} (p : Y → Bool) (h : X → Option Y) (xs : List X)
    → find p (filter_map h xs) ≡ option_and_then h (find (passes p h) xs)
find-filter_map p h [] = refl
find-filter_map {X} {Y} p h (x ∷ xs) = by_what (h x) refl (find-filter_map p h xs)
  where
    by_what : (o : Option Y) → h x ≡ o → find p (filter_map h xs) ≡ option_and_then h (find (passes p h) xs)
        → find p (cons_option o (filter_map h xs)) ≡ option_and_then h
        (cond (option_map_or p o false) (Some x) (find (passes p h) xs))
    by_what None is rest = rest
    by_what (Some y) is rest = elim (cases_Bool (p y))
        as (λ _. find p (y ∷ filter_map h xs) ≡ option_and_then h (cond (p y) (Some x) (find (passes p h) xs))) [
          | inl e ↦ rw e (sym is)
          | inr e ↦ rw e rest
        ]

pub any-filter_map : {X Y : Type 0} (p : Y → Bool) (h : X → Option Y) (xs : List X)
    → list_any p (filter_map h xs) ≡ list_any (passes p h) xs
any-filter_map p h [] = refl
any-filter_map {X} {Y} p h (x ∷ xs) = by_what (h x) (any-filter_map p h xs)
  where
    by_what : (o : Option Y) → list_any p (filter_map h xs) ≡ list_any (passes p h) xs
        → list_any p (cons_option o (filter_map h xs)) ≡ (option_map_or p o false || list_any (passes p h) xs)
    by_what None rest = rest
    by_what (Some y) rest = ap (λ b. p y || b) rest

pub map-and_then : {X A : Type 0} (f : X → A) (o : Option X) → option_map f o ≡ option_and_then (λ x. Some (f x)) o
map-and_then f None = refl
map-and_then f (Some x) = refl

pub and_then-and_then : {X Y Z : Type 0} (f : Y → Option Z) (h : X → Option Y) (o : Option X)
    → option_and_then f (option_and_then h o) ≡ option_and_then (λ x. option_and_then f (h x)) o
and_then-and_then f h None = refl
and_then-and_then f h (Some x) = refl

pub any-map : {X Y : Type 0} (p : Y → Bool) (v : X → Y) (xs : List X)
    → list_any (λ x. p (v x)) xs ≡ list_any p (map v xs)
any-map p v [] = refl
any-map p v (x ∷ xs) = ap (λ b. p (v x) || b) (any-map p v xs)

pub list_all-map : {A : Type 0} (p : A → Bool) (xs : List A) → list_all (λ t. t) (map p xs) ≡ list_all p xs
list_all-map p [] = refl
list_all-map p (x ∷ xs) = ap (λ b. p x && b) (list_all-map p xs)
