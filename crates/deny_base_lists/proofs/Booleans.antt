-- Booleans that are equal.
use Rattle.std.proofs.Common.{Bool, false, refl, sym, true, ◌≡◌, ◌||◌}
use Rattle.std.specs.Prelude.{◌&&◌}

-- two booleans that imply each other are equal
pub tests_agree : (a b : Bool) → (a ≡ true → b ≡ true) → (b ≡ true → a ≡ true) → a ≡ b
tests_agree true b there here = sym (there refl)
tests_agree false true there here = here refl
tests_agree false false there here = refl

pub and-true : (b : Bool) → (b && true) ≡ b
and-true true = refl
and-true false = refl

pub and-false : (b : Bool) → (b && false) ≡ false
and-false true = refl
and-false false = refl

pub or-true : (b : Bool) → (b || true) ≡ true
or-true true = refl
or-true false = refl

pub or-false : (b : Bool) → (b || false) ≡ b
or-false true = refl
or-false false = refl
