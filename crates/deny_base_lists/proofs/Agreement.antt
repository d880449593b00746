-- Functions that agree at each element of a list give the same for the list.
use Rattle.std.proofs.Common.{Bool, List, Option, [], ap, false, inl, inr, map, refl, true, ◌++◌, ◌∙◌, ◌∷◌, ◌≡◌}
use Rattle.std.specs.List.{flat_map, list_any}
use Rattle.std.specs.Prelude.{Contains, IsTrue, cond, filter, filter_map, find, option_and_then, ◌||◌, ◌↔◌}
use Rattle.std.proofs.lemmas.Bool.{cases_Bool}
use Rattle.deny_base_lists.proofs.Members.{Contains-first, Contains-rest}

-- two functions agree at each element
abbrev pub AgreeOn : {X A : Type 0} → List X → (X → A) → (X → A) → Type 0
AgreeOn {X} {A} xs f g = (x : X) → Contains xs x → f x ≡ g x

agree_rest : {X A : Type 0} (f g : X → A) (x : X) (xs : List X) → AgreeOn (x ∷ xs) f g → AgreeOn xs f g
agree_rest f g x xs agree = λ y is. agree y (Contains-rest x xs y is)

pub filter_on : {X : Type 0} (f g : X → Bool) (xs : List X) → AgreeOn xs f g → filter f xs ≡ filter g xs
filter_on f g [] agree = refl
filter_on f g (x ∷ xs) agree =
    let head = agree x (Contains-first x xs) in
    let tail = filter_on f g xs (agree_rest f g x xs agree) in
    ap (λ b. cond b (x ∷ filter f xs) (filter f xs)) head ∙ ap (λ ys. cond (g x) (x ∷ ys) ys) tail

pub map_on : {X A : Type 0} (f g : X → A) (xs : List X) → AgreeOn xs f g → map f xs ≡ map g xs
map_on f g [] agree = refl
map_on f g (x ∷ xs) agree = ap (λ y. y ∷ map f xs) (agree x (Contains-first x xs))
    ∙ ap (λ ys. g x ∷ ys) (map_on f g xs (agree_rest f g x xs agree))

pub list_any_on : {X : Type 0} (f g : X → Bool) (xs : List X) → AgreeOn xs f g → list_any f xs ≡ list_any g xs
list_any_on f g [] agree = refl
list_any_on f g (x ∷ xs) agree = ap (λ b. b || list_any f xs) (agree x (Contains-first x xs))
    ∙ ap (λ b. g x || b) (list_any_on f g xs (agree_rest f g x xs agree))

pub flat_map_on : {X A : Type 0} (f g : X → List A) (xs : List X) → AgreeOn xs f g → flat_map f xs ≡ flat_map g xs
flat_map_on f g [] agree = refl
flat_map_on f g (x ∷ xs) agree = ap (λ ys. ys ++ flat_map f xs) (agree x (Contains-first x xs))
    ∙ ap (λ ys. g x ++ ys) (flat_map_on f g xs (agree_rest f g x xs agree))

-- two tests that decide one fact agree
pub same_test : {P : Type 0} (b c : Bool) → IsTrue b ↔ P → IsTrue c ↔ P → b ≡ c
same_test true true left right = refl
same_test false false left right = refl
same_test true false left right = absurd (cc (right.1 (left.0 refl)))
same_test false true left right = absurd (cc (left.1 (right.0 refl)))

pub filter_map_on : {X A : Type 0} (f g : X → Option A) (xs : List X) → AgreeOn xs f g
    → filter_map f xs ≡ filter_map g xs
filter_map_on f g [] agree = refl
filter_map_on f g (x ∷ xs) agree = rw (agree x (Contains-first x xs), filter_map_on f g xs (agree_rest f g x xs agree))
    refl

pub find_on : {X : Type 0} (p q : X → Bool) (xs : List X) → AgreeOn xs p q → find p xs ≡ find q xs
find_on p q [] agree = refl
find_on p q (x ∷ xs) agree = rw (agree x (Contains-first x xs), find_on p q xs (agree_rest p q x xs agree)) refl

-- a function of the first element that passes, where two functions agree on the elements that pass
pub found_on : {X A : Type 0} (f g : X → Option A) (p : X → Bool) (xs : List X)
    → ((x : X) → Contains xs x → p x ≡ true → f x ≡ g x)
    → option_and_then f (find p xs) ≡ option_and_then g (find p xs)
found_on f g p [] agree = refl
found_on f g p (x ∷ xs) agree = elim (cases_Bool (p x))
    as (λ _. option_and_then f (find p (x ∷ xs)) ≡ option_and_then g (find p (x ∷ xs))) [
      | inl e ↦ rw e (agree x (Contains-first x xs) e)
      | inr e ↦ rw e (found_on f g p xs (λ y is. agree y (Contains-rest x xs y is)))
    ]
