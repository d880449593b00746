-- Lists related element by element.
use Rattle.std.proofs.Common.{◌∷◌, [], List}
use Rattle.std.specs.Prelude.{Contains}
use Rattle.std.specs.List.{AllZip}
use Rattle.deny_base_lists.proofs.Members.{Contains-first, Contains-rest}

-- a relation of elements holds for those whose first is in the list
pub zip_each : {A B : Type 0} (R S : A → B → Type 0) (xs : List A) (ys : List B)
    → ((x : A) (y : B) → Contains xs x → R x y → S x y) → AllZip R xs ys → AllZip S xs ys
zip_each R S [] [] each zip = tt
zip_each R S [] (y ∷ ys) each zip = absurd zip
zip_each R S (x ∷ xs) [] each zip = absurd zip
zip_each R S (x ∷ xs) (y ∷ ys) each zip = (
  each x y (Contains-first x xs) zip.0,
  zip_each R S xs ys (λ a b is. each a b (Contains-rest x xs a is)) zip.1,
)

pub zip_weaker : {A B : Type 0} (R S : A → B → Type 0) (xs : List A) (ys : List B)
    → ((x : A) (y : B) → R x y → S x y) → AllZip R xs ys → AllZip S xs ys
zip_weaker R S xs ys each zip = zip_each R S xs ys (λ x y is. each x y) zip

-- two lists that are each related to a third are related to each other
pub zip_both : {A B : Type 0} (R S : A → B → Type 0) (T : B → B → Type 0) (xs : List A) (ys zs : List B)
    → ((x : A) (y z : B) → Contains xs x → R x y → S x z → T y z) → AllZip R xs ys → AllZip S xs zs → AllZip T ys zs
zip_both R S T [] [] [] each one other = tt
zip_both R S T [] [] (z ∷ zs) each one other = absurd other
zip_both R S T [] (y ∷ ys) zs each one other = absurd one
zip_both R S T (x ∷ xs) [] zs each one other = absurd one
zip_both R S T (x ∷ xs) (y ∷ ys) [] each one other = absurd other
zip_both R S T (x ∷ xs) (y ∷ ys) (z ∷ zs) each one other = (
  each x y z (Contains-first x xs) one.0 other.0,
  zip_both R S T xs ys zs (λ a b c is. each a b c (Contains-rest x xs a is)) one.1 other.1,
)
