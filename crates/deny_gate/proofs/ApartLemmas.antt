-- Lists without equal elements.
use Rattle.std.proofs.Common.{◌≡◌, ◌∙◌, ◌++◌, suc, List, [], ◌∷◌, ap, map, subst, sym, arith}
use Rattle.std.specs.Prelude.{◌≢◌, AllPairs, Contains}
use Rattle.std.specs.List.{flat_map}
use Rattle.std.proofs.lemmas.List.Elements.{All-contains_itself, All-weaker, Contains-append_left}
use Rattle.std.proofs.lemmas.List.Elements.{Contains-append_right}
use Rattle.std.proofs.lemmas.List.Kept.{AllPairs-cons}
use Rattle.deny_base_lists.proofs.Members.{Contains-by_cases, Contains-flat_map, contains_map, no_member}

abbrev pub AreApart : {A : Type 0} → List A → Type 0
AreApart xs = AllPairs (λ one other. one ≢ other) xs

apart_tail : {A : Type 0} (x : A) (xs : List A) → AreApart (x ∷ xs) → AreApart xs
apart_tail x xs apart = λ i j d below inside. apart (suc i) (suc j) d (omega (arith, below)) (omega (arith, inside))

apart_head : {A : Type 0} (x : A) (xs : List A) → AreApart (x ∷ xs) → Contains xs x → ⊥
apart_head x xs apart at = apart 0 (suc at.0) x (omega arith) (omega (arith, at.1)) (sym at.2)

pub apart_right : {A : Type 0} (xs ys : List A) → AreApart (xs ++ ys) → AreApart ys
apart_right [] ys apart = apart
apart_right (x ∷ xs) ys apart = apart_right xs ys (apart_tail x (xs ++ ys) apart)

pub apart_left : {A : Type 0} (xs ys : List A) → AreApart (xs ++ ys) → AreApart xs
apart_left [] ys apart = λ i j d below inside. absurd (omega (arith, inside))
apart_left {A} (x ∷ xs) ys apart = AllPairs-cons (λ one other. one ≢ other) x xs
    (All-weaker (Contains xs) (λ y. x ≢ y)
    (λ y at same. apart_head x (xs ++ ys) apart
    (Contains-append_left xs ys x (subst (λ (z : A). Contains xs z) (sym same) at))) xs (All-contains_itself xs))
    (apart_left xs ys (apart_tail x (xs ++ ys) apart))

-- a member of the first part is no member of the second
pub apart_both : {A : Type 0} (xs ys : List A) (r : A) → AreApart (xs ++ ys) → Contains xs r → Contains ys r → ⊥
apart_both [] ys r apart here there = no_member r here
apart_both {A} (x ∷ xs) ys r apart here there = Contains-by_cases x xs r here
    (λ same. apart_head x (xs ++ ys) apart (right xs (subst (λ (z : A). Contains ys z) (sym same) there)))
    (λ later. apart_both xs ys r (apart_tail x (xs ++ ys) apart) later there)
  where
    right : (zs : List A) → Contains ys x → Contains (zs ++ ys) x
    right zs at = Contains-append_right zs ys x at

-- each element gives a part, and two elements whose parts share a member are equal
module _ {X A : Type 0} (f : X → List A) where
  pub apart_of : (xs : List X) (x : X) → AreApart (flat_map f xs) → Contains xs x → AreApart (f x)
  apart_of [] x apart at = absurd (no_member x at)
  apart_of (z ∷ xs) x apart at = Contains-by_cases z xs x at
      (λ same. subst (λ (y : X). AreApart (f y)) same (apart_left (f z) (flat_map f xs) apart))
      (λ later. apart_of xs x (apart_right (f z) (flat_map f xs) apart) later)

  pub one_of : (xs : List X) (x y : X) (r : A) → AreApart (flat_map f xs) → Contains xs x → Contains xs y
      → Contains (f x) r → Contains (f y) r → x ≡ y
  one_of [] x y r apart at_x at_y in_x in_y = absurd (no_member x at_x)
  one_of (z ∷ xs) x y r apart at_x at_y in_x in_y = Contains-by_cases z xs x at_x
      (λ is_x. Contains-by_cases z xs y at_y
      (λ is_y. sym is_x ∙ is_y)
      (λ later. absurd (never x y is_x later in_x in_y)))
      (λ before. Contains-by_cases z xs y at_y
      (λ is_y. absurd (never y x is_y before in_y in_x))
      (λ later. one_of xs x y r (apart_right (f z) (flat_map f xs) apart) before later in_x in_y))
    where
      never : (v w : X) → z ≡ v → Contains xs w → Contains (f v) r → Contains (f w) r → ⊥
      never v w is later in_v in_w = apart_both (f z) (flat_map f xs) r apart
          (subst (λ (u : X). Contains (f u) r) (sym is) in_v) (Contains-flat_map f xs w r later in_w)

pub one_mapped : {X A : Type 0} (f : X → A) (xs : List X) (x y : X) → AreApart (map f xs) → Contains xs x
    → Contains xs y → f x ≡ f y → x ≡ y
one_mapped f [] x y apart at_x at_y same = absurd (no_member x at_x)
one_mapped {X} {A} f (z ∷ xs) x y apart at_x at_y same = Contains-by_cases z xs x at_x
    (λ is_x. Contains-by_cases z xs y at_y
    (λ is_y. sym is_x ∙ is_y)
    (λ later. absurd (never x y is_x later same)))
    (λ before. Contains-by_cases z xs y at_y
    (λ is_y. absurd (never y x is_y before (sym same)))
    (λ later. one_mapped f xs x y (apart_tail (f z) (map f xs) apart) before later same))
  where
    never : (v w : X) → z ≡ v → Contains xs w → f v ≡ f w → ⊥
    never v w is later e = apart_head (f z) (map f xs) apart
        (subst (Contains (map f xs)) (sym (ap f is ∙ e)) (contains_map f xs w later))
