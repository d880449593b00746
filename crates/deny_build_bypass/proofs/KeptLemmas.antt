-- One step of a loop that keeps the items which pass a test.
use Rattle.std.proofs.Common.{◌≡◌, ◌∙◌, ◌++◌, ◌∷◌, Bool, true, false, List, []}
use Rattle.std.proofs.Common.{ap, append_assoc, cond, filter, map, sym}
use Rattle.std.proofs.lemmas.List.{map-append}

-- the next item passes, and is kept
pub kept_one : {X Y : Type 0} (f : X → Y) (p : Y → Bool) (old new : List X) (one : X) (here : Y)
    (rest later whole : List Y) → new ≡ old ++ one ∷ [] → f one ≡ here → rest ≡ here ∷ later → p here ≡ true
    → map f old ++ filter p rest ≡ whole → map f new ++ filter p later ≡ whole
kept_one f p old new one here rest later whole added same split is so =
    ap (λ xs. map f xs ++ filter p later) added
    ∙ (ap (λ ys. ys ++ filter p later) (map-append f old (one ∷ []))
    ∙ (append_assoc (map f old) (f one ∷ []) (filter p later)
    ∙ (ap (λ y. map f old ++ y ∷ filter p later) same
    ∙ (ap (λ b. map f old ++ cond b (here ∷ filter p later) (filter p later)) (sym is)
    ∙ (ap (λ ys. map f old ++ filter p ys) (sym split) ∙ so)))))

-- the next item does not pass, and is not kept
pub kept_none : {X Y : Type 0} (f : X → Y) (p : Y → Bool) (old new : List X) (here : Y) (rest later whole : List Y)
    → new ≡ old → rest ≡ here ∷ later → p here ≡ false → map f old ++ filter p rest ≡ whole
    → map f new ++ filter p later ≡ whole
kept_none f p old new here rest later whole left split isnt so =
    ap (λ xs. map f xs ++ filter p later) left
    ∙ (ap (λ b. map f old ++ cond b (here ∷ filter p later) (filter p later)) (sym isnt)
    ∙ (ap (λ ys. map f old ++ filter p ys) (sym split) ∙ so))
