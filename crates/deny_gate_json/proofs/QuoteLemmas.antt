-- Texts without the quotes at their ends.
use Rattle.std.proofs.Common.{◌≡◌, ◌≢◌, ◌==◌, ◌++◌, ◌∙◌, ℕ, List, [], ◌∷◌, ap, inl, inr, refl, sym}
use Rattle.std.specs.Prelude.{reverse}
use Rattle.std.proofs.lemmas.Bool.{cases_Bool, cond-false, eqb-true}
use Rattle.std.proofs.lemmas.List.{reverse-append, reverse-reverse}
use Rattle.deny_gate_json.specs.Labels.{without_end, without_start}

no_prefix : (text : List ℕ) → ((rest : List ℕ) → text ≢ 34 ∷ rest) → without_start text ≡ text
no_prefix [] none = refl
no_prefix (byte ∷ bytes) none = elim (cases_Bool (byte == 34)) as (λ _. without_start (byte ∷ bytes) ≡ byte ∷ bytes) [
  | inl e ↦ absurd (none bytes (ap (λ (b : ℕ). b ∷ bytes) (eqb-true byte 34 e)))
  | inr e ↦ cond-false (byte == 34) (without_start bytes) (byte ∷ bytes) e
]

pub prefix_done : (text whole : List ℕ) → ((rest : List ℕ) → text ≢ 34 ∷ rest)
    → without_start text ≡ without_start whole
    → text ≡ without_start whole
prefix_done text whole none so = sym (no_prefix text none) ∙ so

flipped : (text rest : List ℕ) → reverse text ≡ 34 ∷ rest → text ≡ reverse rest ++ 34 ∷ []
flipped text rest is = sym (reverse-reverse text) ∙ (ap reverse is ∙ reverse-append (34 ∷ []) rest)

no_end : (text : List ℕ) → ((prefix : List ℕ) → text ≢ prefix ++ 34 ∷ []) → without_end text ≡ text
no_end text none = ap reverse (no_prefix (reverse text) (λ rest is. none (reverse rest) (flipped text rest is)))
    ∙ reverse-reverse text

pub end_done : (text whole : List ℕ) → ((prefix : List ℕ) → text ≢ prefix ++ 34 ∷ [])
    → without_end text ≡ without_end whole → text ≡ without_end whole
end_done text whole none so = sym (no_end text none) ∙ so
