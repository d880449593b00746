-- Pieces, one after the other.
use Rattle.std.proofs.Common.{◌≡◌, ℕ, ◌+◌, List, [], ◌∷◌, ◌++◌, length, refl, sym, ap, subst, ◌∙◌, append_assoc}
use Rattle.std.proofs.Common.{append-nil, length-append, add_assoc}
use Rattle.std.proofs.Math.Nat.{add-zero}
use Rattle.deny_globs.specs.declared.piece.Piece.{Piece}
use Rattle.deny_globs.specs.Pieces.{IsPiece, Spells, nothing, next}

spells_on : {at : ℕ} {cs rest : List ℕ} {pieces : List Piece} {piece : Piece} (prefix behind : List ℕ)
    → Spells at cs rest pieces → rest ≡ prefix ++ behind → IsPiece (at + length cs) prefix behind piece →
    Spells at (cs ++ prefix) behind (pieces ++ piece ∷ [])
spells_on {at} {piece = piece} prefix behind nothing e p =
    subst (λ l. Spells at l behind (piece ∷ [])) (append-nil prefix)
    (next prefix [] (subst (λ n. IsPiece n prefix behind piece) (add-zero at) p) nothing)
spells_on {at} {piece = piece} prefix behind (next {piece = q} {pieces} first more is others) e p =
    subst (λ l. Spells at l behind (q ∷ (pieces ++ piece ∷ []))) (sym (append_assoc first more prefix))
    (next first (more ++ prefix)
    (subst (λ l. IsPiece at first l q) (ap (λ l. more ++ l) e ∙ sym (append_assoc more prefix behind)) is)
    (spells_on prefix behind others e
    (subst (λ n. IsPiece n prefix behind piece) (ap (λ n. at + n) (length-append first more)
    ∙ sym (add_assoc at (length first) (length more))) p)))

pub spells_more : {at : ℕ} {cs : List ℕ} {pieces : List Piece} {piece : Piece} (prefix behind : List ℕ)
    → Spells at cs (prefix ++ behind) pieces → IsPiece (at + length cs) prefix behind piece →
    Spells at (cs ++ prefix) behind (pieces ++ piece ∷ [])
spells_more prefix behind s p = spells_on prefix behind s refl p
