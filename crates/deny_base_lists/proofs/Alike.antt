-- Two lists that are related element by element, and what is computed of them.
use Rattle.std.proofs.Common.{Bool, List, Option, Some, [], ap, false, map, refl, true, ◌++◌, ◌∷◌, ◌≡◌}
use Rattle.std.specs.List.{AllZip, cons_option, flat_map}
use Rattle.std.specs.Prelude.{cond, filter, filter_map, find, option_map}

-- two functions give the same value of related elements
abbrev pub Same : {T A : Type 0} → (T → T → Type 0) → (T → A) → (T → A) → Type 0
Same {T} Alike f g = (x y : T) → Alike x y → f x ≡ g y

pub alike_map : {S T : Type 0} (Alike : S → S → Type 0) (Too : T → T → Type 0) (f : S → T)
    → ((x y : S) → Alike x y → Too (f x) (f y))
    → (xs ys : List S) → AllZip Alike xs ys → AllZip Too (map f xs) (map f ys)
alike_map Alike Too f alike [] [] each = tt
alike_map Alike Too f alike [] (y ∷ ys) each = absurd each
alike_map Alike Too f alike (x ∷ xs) [] each = absurd each
alike_map Alike Too f alike (x ∷ xs) (y ∷ ys) each = (alike x y each.0, alike_map Alike Too f alike xs ys each.1)

alike_kept : {T : Type 0} (Alike : T → T → Type 0) (b c : Bool) (x y : T) (xs ys : List T) → b ≡ c → Alike x y
    → AllZip Alike xs ys
    → AllZip Alike (cond b (x ∷ xs) xs) (cond c (y ∷ ys) ys)
alike_kept Alike true true x y xs ys test head tail = (head, tail)
alike_kept Alike false false x y xs ys test head tail = tail
alike_kept Alike true false x y xs ys test head tail = absurd (cc test)
alike_kept Alike false true x y xs ys test head tail = absurd (cc test)

pub alike_filter : {T : Type 0} (Alike : T → T → Type 0) (test : T → Bool) → Same Alike test test → (xs ys : List T)
    → AllZip Alike xs ys → AllZip Alike (filter test xs) (filter test ys)
alike_filter Alike test same [] [] each = tt
alike_filter Alike test same [] (y ∷ ys) each = absurd each
alike_filter Alike test same (x ∷ xs) [] each = absurd each
alike_filter Alike test same (x ∷ xs) (y ∷ ys) each =
    alike_kept Alike (test x) (test y) x y (filter test xs) (filter test ys) (same x y each.0) each.0
    (alike_filter Alike test same xs ys each.1)

pub same_map : {T A : Type 0} (Alike : T → T → Type 0) (f g : T → A) → Same Alike f g → (xs ys : List T)
    → AllZip Alike xs ys → map f xs ≡ map g ys
same_map Alike f g same [] [] each = refl
same_map Alike f g same [] (y ∷ ys) each = absurd each
same_map Alike f g same (x ∷ xs) [] each = absurd each
same_map Alike f g same (x ∷ xs) (y ∷ ys) each = λ i. same x y each.0 i ∷ same_map Alike f g same xs ys each.1 i

pub same_filter_map : {T A : Type 0} (Alike : T → T → Type 0) (f g : T → Option A) → Same Alike f g → (xs ys : List T)
    → AllZip Alike xs ys → filter_map f xs ≡ filter_map g ys
same_filter_map Alike f g same [] [] each = refl
same_filter_map Alike f g same [] (y ∷ ys) each = absurd each
same_filter_map Alike f g same (x ∷ xs) [] each = absurd each
same_filter_map Alike f g same (x ∷ xs) (y ∷ ys) each = λ i. cons_option (same x y each.0 i)
    (same_filter_map Alike f g same xs ys each.1 i)

pub same_flat_map : {T A : Type 0} (Alike : T → T → Type 0) (f g : T → List A) → Same Alike f g → (xs ys : List T)
    → AllZip Alike xs ys → flat_map f xs ≡ flat_map g ys
same_flat_map Alike f g same [] [] each = refl
same_flat_map Alike f g same [] (y ∷ ys) each = absurd each
same_flat_map Alike f g same (x ∷ xs) [] each = absurd each
same_flat_map Alike f g same (x ∷ xs) (y ∷ ys) each = λ i. same x y each.0 i
    ++ same_flat_map Alike f g same xs ys each.1 i

first_or : {T A : Type 0} (f g : T → A) (b c : Bool) (x y : T) (more others : Option T) → b ≡ c → f x ≡ g y
    → option_map f more ≡ option_map g others
    → option_map f (cond b (Some x) more) ≡ option_map g (cond c (Some y) others)
first_or f g true true x y more others test head tail = ap Some head
first_or f g false false x y more others test head tail = tail
first_or f g true false x y more others test head tail = absurd (cc test)
first_or f g false true x y more others test head tail = absurd (cc test)

-- the values of the first elements that pass a test
pub same_find : {T A : Type 0} (Alike : T → T → Type 0) (p q : T → Bool) (f g : T → A) → Same Alike p q → Same Alike f g
    → (xs ys : List T) → AllZip Alike xs ys → option_map f (find p xs) ≡ option_map g (find q ys)
same_find Alike p q f g tests values [] [] each = refl
same_find Alike p q f g tests values [] (y ∷ ys) each = absurd each
same_find Alike p q f g tests values (x ∷ xs) [] each = absurd each
same_find Alike p q f g tests values (x ∷ xs) (y ∷ ys) each =
    first_or f g (p x) (q y) x y (find p xs) (find q ys) (tests x y each.0) (values x y each.0)
    (same_find Alike p q f g tests values xs ys each.1)
