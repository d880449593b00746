-- The texts in the bytes of a table.
use Rattle.std.proofs.Common.{◌≡◌, ℕ, Bool, true, false, List, Result, Ok, Err, refl, sym, is_ok}
use Rattle.std.specs.Prelude.{IsUtf8, MatchResult}
use Rattle.std.specs.Str.{is_utf8}
use Rattle.std.proofs.lemmas.Str.{IsUtf8-from_is_utf8, is_utf8-from_IsUtf8}

is_utf8-not : (bs : List ℕ) (b : Bool) → is_utf8 bs ≡ b → ¬ (IsUtf8 bs) → b ≡ false
is_utf8-not bs b is other = elim b as (λ v. is_utf8 bs ≡ v → v ≡ false)
    [ true ↦ λ same. absurd (other (IsUtf8-from_is_utf8 bs same)) | false ↦ λ _. refl ] is

-- a check that returns Ok exactly for UTF-8 is the test for it
pub is_ok-utf8 : {A E : Type 0} (bs : List ℕ) (r : Result A E) (P : A → Type 0) (Q : E → Type 0)
    → MatchResult r (λ s. P s × IsUtf8 bs) (λ e. ¬ (IsUtf8 bs) × Q e) → is_ok r ≡ is_utf8 bs
is_ok-utf8 bs (Ok s) P Q h = sym (is_utf8-from_IsUtf8 bs h.1)
is_ok-utf8 bs (Err e) P Q h = sym (is_utf8-not bs (is_utf8 bs) refl h.0)
