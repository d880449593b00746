-- The items that a function gives for the members of a list, one after another.
use Rattle.std.proofs.Common.{◌≡◌, ◌++◌, ◌+◌, ◌<◌, ℕ, List, [], ◌∷◌, Option, None, Some, drop, get_or, length, sym, ap}
use Rattle.std.proofs.Common.{◌∙◌}
use Rattle.std.specs.Prelude.{filter_map}
use Rattle.std.specs.List.{cons_option}
use Rattle.std.proofs.lemmas.List.{drop_more}
use Rattle.deny_base_lists.proofs.Loops.{appended}

first_given : {X Y : Type 0} (f : X → Option Y) (x : X) (o : Option Y) (rest : List X) → f x ≡ o
    → filter_map f (x ∷ rest) ≡ cons_option o [] ++ filter_map f rest
first_given f x None rest is = ap (λ p. cons_option p (filter_map f rest)) is
first_given f x (Some y) rest is = ap (λ p. cons_option p (filter_map f rest)) is

-- the item of one more member is put behind those of the members before it
pub given_next : {X Y : Type 0} (f : X → Option Y) (xs : List X) (i : ℕ) (x default : X) (o : Option Y)
    (old new whole : List Y)
    → i < length xs → x ≡ get_or xs i default → f x ≡ o → new ≡ old ++ cons_option o []
    → old ++ filter_map f (drop i xs) ≡ whole → new ++ filter_map f (drop (i + 1) xs) ≡ whole
given_next f xs i x default o old new whole inside is gives =
    appended (filter_map f) (drop i xs) (drop (i + 1) xs) (cons_option o []) old new whole
    (ap (filter_map f) (drop_more xs i default inside ∙ ap (λ y. y ∷ drop (i + 1) xs) (sym is))
    ∙ first_given f x o (drop (i + 1) xs) gives)
