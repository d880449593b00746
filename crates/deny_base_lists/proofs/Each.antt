-- Facts of each element of a list, through the functions that make lists.
use Rattle.std.proofs.Common.{Bool, List, None, Option, Some, [], false, map, suc, take, true, zero, ℕ, ◌++◌, ◌∷◌}
use Rattle.std.specs.List.{AllByRecursion, cons_option, flat_map}
use Rattle.std.specs.Prelude.{IfSome, cond, filter, filter_map, find, Contains}
use Rattle.deny_base_lists.proofs.Members.{Contains-first, Contains-rest}

pub all_append : {X : Type 0} (P : X → Type 0) (xs ys : List X) → AllByRecursion P xs → AllByRecursion P ys
    → AllByRecursion P (xs ++ ys)
all_append P [] ys one other = other
all_append P (x ∷ xs) ys one other = (one.0, all_append P xs ys one.1 other)

pub all_if : {X : Type 0} (P : X → Type 0) (b : Bool) (x : X) (xs : List X) → P x → AllByRecursion P xs
    → AllByRecursion P (cond b (x ∷ xs) xs)
all_if P true x xs here all = (here, all)
all_if P false x xs here all = all

pub all_filter : {X : Type 0} (P : X → Type 0) (p : X → Bool) (xs : List X) → AllByRecursion P xs
    → AllByRecursion P (filter p xs)
all_filter P p [] all = tt
all_filter P p (x ∷ xs) all = all_if P (p x) x (filter p xs) all.0 (all_filter P p xs all.1)

pub all_given : {X Y : Type 0} (P : X → Type 0) (Q : Y → Type 0) (f : X → Option Y) → ((x : X) → P x → IfSome (f x) Q)
    → (xs : List X) → AllByRecursion P xs → AllByRecursion Q (filter_map f xs)
all_given P Q f each [] all = tt
all_given {Y = Y} P Q f each (x ∷ xs) all = by_given (f x) (each x all.0) (all_given P Q f each xs all.1)
  where
    by_given : (o : Option Y) → IfSome o Q → AllByRecursion Q (filter_map f xs)
        → AllByRecursion Q (cons_option o (filter_map f xs))
    by_given None one rest = rest
    by_given (Some y) one rest = (one, rest)

pub all_flat : {X Y : Type 0} (P : X → Type 0) (Q : Y → Type 0) (f : X → List Y)
    → ((x : X) → P x → AllByRecursion Q (f x)) → (xs : List X) → AllByRecursion P xs → AllByRecursion Q (flat_map f xs)
all_flat P Q f each [] all = tt
all_flat P Q f each (x ∷ xs) all = all_append Q (f x) (flat_map f xs) (each x all.0) (all_flat P Q f each xs all.1)

-- what is true of each element is true of the first that passes a test
pub all_found : {X : Type 0} (P : X → Type 0) (test : X → Bool) (xs : List X) → AllByRecursion P xs
    → IfSome (find test xs) P
all_found P test [] all = tt
all_found P test (x ∷ xs) all = by_test (test x) (all_found P test xs all.1)
  where
    by_test : (b : Bool) → IfSome (find test xs) P → IfSome (cond b (Some x) (find test xs)) P
    by_test true rest = all.0
    by_test false rest = rest

pub all_weaker : {X : Type 0} (P Q : X → Type 0) → ((x : X) → P x → Q x) → (xs : List X) → AllByRecursion P xs
    → AllByRecursion Q xs
all_weaker P Q each [] all = tt
all_weaker P Q each (x ∷ xs) all = (each x all.0, all_weaker P Q each xs all.1)

pub all_mapped : {X Y : Type 0} (Q : Y → Type 0) (f : X → Y) (xs : List X) → AllByRecursion (λ x. Q (f x)) xs
    → AllByRecursion Q (map f xs)
all_mapped Q f [] all = tt
all_mapped Q f (x ∷ xs) all = (all.0, all_mapped Q f xs all.1)

-- what is true of each element of a list is true of each element of a part of it
pub all_of_take : {X : Type 0} (P : X → Type 0) (n : ℕ) (xs : List X) → AllByRecursion P xs
    → AllByRecursion P (take n xs)
all_of_take P zero xs all = tt
all_of_take P (suc n) [] all = tt
all_of_take P (suc n) (x ∷ xs) all = (all.0, all_of_take P n xs all.1)

pub all_from_members : {T : Type 0} (P : T → Type 0) (xs : List T) → ((x : T) → Contains xs x → P x)
    → AllByRecursion P xs
all_from_members P [] each = tt
all_from_members P (x ∷ xs) each =
    (each x (Contains-first x xs), all_from_members P xs (λ y is. each y (Contains-rest x xs y is)))
