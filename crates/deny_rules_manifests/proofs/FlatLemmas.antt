-- Lists of the keys that elements give: by places, one after another, and two of each element.
use Rattle.std.proofs.Common.{◌≡◌, ℕ, ◌+◌, ◌<◌, ◌⊎◌, List, [], ◌∷◌, ◌++◌, get_or, length, take, ap, ◌∙◌, inl, inr}
use Rattle.std.proofs.Common.{append-nil}
use Rattle.std.specs.Prelude.{Contains}
use Rattle.std.specs.List.{flat_map}
use Rattle.std.proofs.lemmas.Grind.{flat_map-append}
use Rattle.std.proofs.lemmas.List.{take_more}
use Rattle.std.proofs.lemmas.List.Elements.{Contains-append_cases, Contains-append_left, Contains-append_right}
use Rattle.deny_base_lists.proofs.Members.{Contains-flat_map, Contains-from_flat_map}

-- the keys of the first elements, and of one more
pub flat-take_more : {X Y : Type 0} (f : X → List Y) (xs : List X) (i : ℕ) (d : X) → i < length xs
    → flat_map f (take (i + 1) xs) ≡ flat_map f (take i xs) ++ f (get_or xs i d)
flat-take_more f xs i d inside =
    ap (flat_map f) (take_more xs i d inside)
    ∙ (flat_map-append f (take i xs) (get_or xs i d ∷ [])
    ∙ ap (λ ys. flat_map f (take i xs) ++ ys) (append-nil (f (get_or xs i d))))

-- what each element gives by either of two functions is what all give by the one or all give by the other
module _ {X Y : Type 0} (f h : X → List Y) (xs : List X) (y : Y) where
  pub apart : Contains (flat_map (λ x. f x ++ h x) xs) y → Contains (flat_map f xs) y ⊎ Contains (flat_map h xs) y
  apart is =
      let of = Contains-from_flat_map (λ x. f x ++ h x) xs y is in
      elim (Contains-append_cases (f of.from) (h of.from) y of.of) as
      (λ _. Contains (flat_map f xs) y ⊎ Contains (flat_map h xs) y) [
        | inl one ↦ inl (Contains-flat_map f xs of.from y of.member one)
        | inr two ↦ inr (Contains-flat_map h xs of.from y of.member two)
      ]

  pub together : Contains (flat_map f xs) y ⊎ Contains (flat_map h xs) y → Contains (flat_map (λ x. f x ++ h x) xs) y
  together is = elim is as (λ _. Contains (flat_map (λ x. f x ++ h x) xs) y) [
    | inl one ↦
        let of = Contains-from_flat_map f xs y one in
        Contains-flat_map (λ x. f x ++ h x) xs of.from y of.member
        (Contains-append_left (f of.from) (h of.from) y of.of)
    | inr two ↦
        let of = Contains-from_flat_map h xs y two in
        Contains-flat_map (λ x. f x ++ h x) xs of.from y of.member
        (Contains-append_right (f of.from) (h of.from) y of.of)
  ]
