-- Properties that hold of every part hold of what is found, and of what is made of it.
use Rattle.std.proofs.Common.{◌≡◌, ℕ, Bool, true, List, [], ◌∷◌, All, Contains, Option, None, Some, refl, sym, subst, inl}
use Rattle.std.proofs.Common.{inr}
use Rattle.std.specs.Prelude.{find, slice_get}
use Rattle.std.specs.List.{flat_map}
use Rattle.std.specs.Option.{option_flatten, option_map_or}
use Rattle.std.proofs.lemmas.Bool.{cases_Bool, cond-true, cond-false}
use Rattle.std.proofs.lemmas.List.Elements.{All-nil, All-append}
use Rattle.deny_base_lists.proofs.Members.{Contains-first, Contains-rest, from_there}

-- a property of the empty list, and of what each element gives that passes, holds of what the found element gives
pub of_passing : {X Y : Type 0} (P : List Y → Type 0) (f : X → List Y) (test : X → Bool) (xs : List X) → P []
    → ((x : X) → Contains xs x → test x ≡ true → P (f x)) → P (option_map_or f (find test xs) [])
of_passing P f test [] none each = none
of_passing {X} {Y} P f test (x ∷ xs) none each = elim (cases_Bool (test x))
    as (λ _. P (option_map_or f (find test (x ∷ xs)) [])) [
      | inl e ↦ subst (λ (o : Option X). P (option_map_or f o [])) (sym (cond-true (test x) (Some x) (find test xs) e))
          (each x (Contains-first x xs) e)
      | inr e ↦
          subst (λ (o : Option X). P (option_map_or f o [])) (sym (cond-false (test x) (Some x) (find test xs) e))
          (of_passing P f test xs none (λ y is. each y (Contains-rest x xs y is)))
    ]

pub of_found : {X Y : Type 0} (P : List Y → Type 0) (f : X → List Y) (test : X → Bool) (xs : List X) → P []
    → ((x : X) → Contains xs x → P (f x)) → P (option_map_or f (find test xs) [])
of_found P f test xs none each = of_passing P f test xs none (λ x is passes. each x is)

-- a property of the empty list, and of what a value gives, holds of what an option gives
pub of_option : {X Y : Type 0} (P : List Y → Type 0) (f : X → List Y) (o : Option X) → P []
    → ((x : X) → o ≡ Some x → P (f x)) → P (option_map_or f o [])
of_option P f None none each = none
of_option P f (Some x) none each = each x refl

-- a value at a place is in the list
some_flat : {X : Type 0} (xs : List (Option X)) (o : Option (Option X)) (x : X)
    → ((found : Option X) → o ≡ Some found → Contains xs found) → option_flatten o ≡ Some x → Contains xs (Some x)
some_flat xs None x each is = absurd (cc is)
some_flat {X} xs (Some found) x each is = subst (λ (o : Option X). Contains xs o) is (each found refl)

pub flat_there : {X : Type 0} (xs : List (Option X)) (n : ℕ) (x : X) → option_flatten (slice_get xs n) ≡ Some x
    → Contains xs (Some x)
flat_there {X} xs n x is = some_flat xs (slice_get xs n) x (from_there xs n) is

pub all_flat : {X Y : Type 0} (P : Y → Type 0) (f : X → List Y) (xs : List X)
    → ((x : X) → Contains xs x → All P (f x)) → All P (flat_map f xs)
all_flat P f [] each = All-nil P
all_flat P f (x ∷ xs) each =
    All-append P (f x) (flat_map f xs) (each x (Contains-first x xs))
    (all_flat P f xs (λ y is. each y (Contains-rest x xs y is)))
