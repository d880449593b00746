-- A list put in ascending order, each item once.
use Rattle.std.specs.Prelude.{List, [], ◌∷◌}
use Rattle.std.specs.declared.cmp.Ordering.{Ordering}
use Rattle.std.specs.declared.cmp.Ordering.TheVariants.{Less, Equal, Greater}

-- an item put before a list, or behind its first item, or left out where it ties with that
abbrev pub placed : {T : Type 0} → Ordering → T → T → List T → List T → List T
placed Less x y ys rest = x ∷ y ∷ ys
placed Equal x y ys rest = y ∷ ys
placed Greater x y ys rest = y ∷ rest

-- an ascending list with one item more
abbrev pub put_into : {T : Type 0} → (T → T → Ordering) → T → List T → List T
put_into cmp x [] = x ∷ []
put_into cmp x (y ∷ ys) = placed (cmp x y) x y ys (put_into cmp x ys)

unfoldable pub in_order : {T : Type 0} → (T → T → Ordering) → List T → List T
in_order cmp [] = []
in_order cmp (x ∷ xs) = put_into cmp x (in_order cmp xs)
