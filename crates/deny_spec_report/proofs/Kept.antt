-- Lists that are computed from a list stay the same where only elements without an effect are left out.
use Rattle.std.proofs.Common.{Bool, List, None, Option, [], ap, false, inl, inr, map, refl, true, ◌++◌, ◌∙◌, ◌∷◌, ◌≡◌}
use Rattle.std.proofs.Common.{Some, subst, sym}
use Rattle.std.specs.List.{flat_map, list_any, list_all}
use Rattle.std.specs.Prelude.{Contains, filter, filter_map, find, ◌&&◌}
use Rattle.std.proofs.lemmas.Bool.{cases_Bool, or_parts}
use Rattle.std.proofs.lemmas.List.Elements.{filter-append}
use Rattle.std.proofs.lemmas.Option.{none-some, same_Some}
use Rattle.deny_base_lists.proofs.Agreement.{filter_on, AgreeOn}
use Rattle.deny_base_lists.proofs.Filters.{filter-none}
use Rattle.deny_base_lists.proofs.Members.{Contains-first, Contains-rest}

-- each element that passes a test stays
abbrev pub Stays : {X : Type 0} → (X → Bool) → (X → Bool) → List X → Type 0
Stays {X} keep test xs = (x : X) → Contains xs x → test x ≡ true → keep x ≡ true

stays_rest : {X : Type 0} (keep test : X → Bool) (x : X) (xs : List X) → Stays keep test (x ∷ xs) → Stays keep test xs
stays_rest keep test x xs stays = λ y is. stays y (Contains-rest x xs y is)

-- an element that goes does not pass the test
pub fails_if_gone : (k t : Bool) → (t ≡ true → k ≡ true) → k ≡ false → t ≡ false
fails_if_gone k true stays gone = absurd (cc (stays refl, gone))
fails_if_gone k false stays gone = refl

pub list_any_kept : {X : Type 0} (keep test : X → Bool) (xs : List X) → Stays keep test xs
    → list_any test (filter keep xs) ≡ list_any test xs
list_any_kept keep test [] stays = refl
list_any_kept keep test (x ∷ xs) stays =
    let rest = list_any_kept keep test xs (stays_rest keep test x xs stays) in
    elim (cases_Bool (keep x)) as (λ _. list_any test (filter keep (x ∷ xs)) ≡ list_any test (x ∷ xs)) [
      | inl e ↦ rw (e, rest) refl
      | inr e ↦ rw (e, fails_if_gone (keep x) (test x) (stays x (Contains-first x xs)) e, rest) refl
    ]

pub filter_kept : {X : Type 0} (keep test : X → Bool) (xs : List X) → Stays keep test xs
    → filter test (filter keep xs) ≡ filter test xs
filter_kept keep test [] stays = refl
filter_kept keep test (x ∷ xs) stays =
    let rest = filter_kept keep test xs (stays_rest keep test x xs stays) in
    elim (cases_Bool (keep x)) as (λ _. filter test (filter keep (x ∷ xs)) ≡ filter test (x ∷ xs)) [
      | inl e ↦ rw (e, rest) refl
      | inr e ↦ rw (e, fails_if_gone (keep x) (test x) (stays x (Contains-first x xs)) e, rest) refl
    ]

pub flat_map_kept : {X Y : Type 0} (keep : X → Bool) (f : X → List Y) (xs : List X)
    → ((x : X) → Contains xs x → keep x ≡ false → f x ≡ [])
    → flat_map f (filter keep xs) ≡ flat_map f xs
flat_map_kept keep f [] none = refl
flat_map_kept keep f (x ∷ xs) none =
    let rest = flat_map_kept keep f xs (λ y is. none y (Contains-rest x xs y is)) in
    elim (cases_Bool (keep x)) as (λ _. flat_map f (filter keep (x ∷ xs)) ≡ flat_map f (x ∷ xs)) [
      | inl e ↦ rw (e, rest) refl
      | inr e ↦ rw (e, none x (Contains-first x xs) e, rest) refl
    ]

pub filter_map_kept : {X Y : Type 0} (keep : X → Bool) (f : X → Option Y) (xs : List X)
    → ((x : X) → Contains xs x → keep x ≡ false → f x ≡ None)
    → filter_map f (filter keep xs) ≡ filter_map f xs
filter_map_kept keep f [] none = refl
filter_map_kept keep f (x ∷ xs) none =
    let rest = filter_map_kept keep f xs (λ y is. none y (Contains-rest x xs y is)) in
    elim (cases_Bool (keep x)) as (λ _. filter_map f (filter keep (x ∷ xs)) ≡ filter_map f (x ∷ xs)) [
      | inl e ↦ rw (e, rest) refl
      | inr e ↦ rw (e, none x (Contains-first x xs) e, rest) refl
    ]

-- the keys of the elements that stay are the keys of all elements, without those that name the ones that go
pub reported_kept : {X K : Type 0} (keep test : X → Bool) (k : X → K) (n : K → Bool) (xs : List X)
    → ((x : X) → n (k x) ≡ keep x)
    → map k (filter test (filter keep xs)) ≡ filter n (map k (filter test xs))
reported_kept keep test k n [] named = refl
reported_kept {X} keep test k n (x ∷ xs) named =
    let rest = reported_kept keep test k n xs named in
    elim (cases_Bool (keep x)) as (λ _. map k (filter test (filter keep (x ∷ xs))) ≡ filter n
    (map k (filter test (x ∷ xs)))) [
      | inl e ↦ elim (cases_Bool (test x)) as (λ _. map k (filter test (filter keep (x ∷ xs))) ≡ filter n
          (map k (filter test (x ∷ xs)))) [
            | inl t ↦ rw (e, t, named x ∙ e, rest) refl
            | inr t ↦ rw (e, t, rest) refl
          ]
      | inr e ↦ elim (cases_Bool (test x)) as (λ _. map k (filter test (filter keep (x ∷ xs))) ≡ filter n
          (map k (filter test (x ∷ xs)))) [
            | inl t ↦ rw (e, t, named x ∙ e, rest) refl
            | inr t ↦ rw (e, t, rest) refl
          ]
    ]

-- a list without an element that passes a test gives an empty list
pub filter_none_on : {X : Type 0} (test : X → Bool) (xs : List X) → list_any test xs ≡ false → filter test xs ≡ []
filter_none_on test [] none = refl
filter_none_on test (x ∷ xs) none =
    let parts = or_parts (test x) (list_any test xs) none in
    rw (parts.0, filter_none_on test xs parts.1) refl

pub find_none_on : {X : Type 0} (test : X → Bool) (xs : List X) → list_any test xs ≡ false → find test xs ≡ None
find_none_on test [] none = refl
find_none_on test (x ∷ xs) none =
    let parts = or_parts (test x) (list_any test xs) none in
    rw (parts.0, find_none_on test xs parts.1) refl

pub filter_fails_on : {X : Type 0} (test : X → Bool) (xs : List X) → ((x : X) → Contains xs x → test x ≡ false)
    → filter test xs ≡ []
filter_fails_on test xs fails = filter_on test (λ x. false) xs fails ∙ filter-none (λ x. false) xs (λ x. refl)

-- two tests that agree where a guard passes
pub guarded : (g a b : Bool) → (g ≡ true → a ≡ b) → (g && a) ≡ (g && b)
guarded true a b agree = agree refl
guarded false a b agree = refl

-- ---- the first that passes, and lists made of lists

found_first : {X : Type 0} (test : X → Bool) (x : X) (xs : List X) → test x ≡ true → find test (x ∷ xs) ≡ Some x
found_first test x xs is = rw is refl

found_later : {X : Type 0} (test : X → Bool) (x : X) (xs : List X) → test x ≡ false → find test (x ∷ xs) ≡ find test xs
found_later test x xs is = rw is refl

pub find_first_kept : {X : Type 0} (keep test : X → Bool) (xs : List X)
    → ((x : X) → find test xs ≡ Some x → keep x ≡ true) → find test (filter keep xs) ≡ find test xs
find_first_kept keep test [] stays = refl
find_first_kept keep test (x ∷ xs) stays = elim (cases_Bool (test x)) as
    (λ _. find test (filter keep (x ∷ xs)) ≡ find test (x ∷ xs)) [
      | inl t ↦ rw (stays x (found_first test x xs t), t) refl
      | inr t ↦
          let rest = find_first_kept keep test xs (λ y is. stays y (found_later test x xs t ∙ is)) in
          elim (cases_Bool (keep x)) as (λ _. find test (filter keep (x ∷ xs)) ≡ find test (x ∷ xs)) [
            | inl e ↦ rw (e, t, rest) refl
            | inr e ↦ rw (e, t, rest) refl
          ]
    ]

pub found_passes : {X : Type 0} (test : X → Bool) (xs : List X) (x : X) → find test xs ≡ Some x → test x ≡ true
found_passes test [] x is = absurd (none-some x is)
found_passes test (y ∷ xs) x is = elim (cases_Bool (test y)) as (λ _. test x ≡ true) [
  | inl t ↦ subst (λ z. test z ≡ true) (same_Some y x (sym (found_first test y xs t) ∙ is)) t
  | inr t ↦ found_passes test xs x (sym (found_later test y xs t) ∙ is)
]

pub list_all_on : {X : Type 0} (f g : X → Bool) (xs : List X) → AgreeOn xs f g → list_all f xs ≡ list_all g xs
list_all_on f g [] agree = refl
list_all_on f g (x ∷ xs) agree =
    ap (λ b. b && list_all f xs) (agree x (Contains-first x xs))
    ∙ ap (λ b. g x && b) (list_all_on f g xs (λ y is. agree y (Contains-rest x xs y is)))

pub filter-flat_map : {X Y : Type 0} (n : Y → Bool) (f : X → List Y) (xs : List X)
    → filter n (flat_map f xs) ≡ flat_map (λ x. filter n (f x)) xs
filter-flat_map n f [] = refl
filter-flat_map n f (x ∷ xs) = filter-append n (f x) (flat_map f xs)
    ∙ ap (λ ys. filter n (f x) ++ ys) (filter-flat_map n f xs)
