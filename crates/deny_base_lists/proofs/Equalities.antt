-- A fact of several values is true of values equal to them.
use Rattle.std.proofs.Common.{◌≡◌, subst, subst₂}

pub subst₃ : {A B C : Type 0} (P : A → B → C → Type 0) {x y : A} {u v : B} {s t : C} → x ≡ y → u ≡ v → s ≡ t
    → P x u s → P y v t
subst₃ P {x} {y} {u} {v} {s} {t} first second third is =
    subst₂ (λ b c. P y b c) second third (subst (λ a. P a u s) first is)
