-- A step of a loop that keeps what passes a test.
use Rattle.std.proofs.Common.{◌≡◌, ◌∙◌, ◌++◌, ◌∷◌, Bool, true, false, List, [], ap, append_assoc, cond, filter, sym}

-- the next element passes, and is kept
pub kept_one : {X : Type 0} (p : X → Bool) (old new : List X) (x : X) (rest later whole : List X)
    → new ≡ old ++ x ∷ [] → rest ≡ x ∷ later → p x ≡ true → old ++ filter p rest ≡ whole
    → new ++ filter p later ≡ whole
kept_one p old new x rest later whole added split is so =
    ap (λ xs. xs ++ filter p later) added
    ∙ (append_assoc old (x ∷ []) (filter p later)
    ∙ (ap (λ b. old ++ cond b (x ∷ filter p later) (filter p later)) (sym is)
    ∙ (ap (λ xs. old ++ filter p xs) (sym split) ∙ so)))

-- the next element does not pass, and is not kept
pub kept_none : {X : Type 0} (p : X → Bool) (old new : List X) (x : X) (rest later whole : List X) → new ≡ old
    → rest ≡ x ∷ later → p x ≡ false → old ++ filter p rest ≡ whole → new ++ filter p later ≡ whole
kept_none p old new x rest later whole left split isnt so =
    ap (λ xs. xs ++ filter p later) left
    ∙ (ap (λ b. old ++ cond b (x ∷ filter p later) (filter p later)) (sym isnt)
    ∙ (ap (λ xs. old ++ filter p xs) (sym split) ∙ so))
