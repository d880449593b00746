-- Texts: character boundaries, bytes at the start, and blank bytes.
use Rattle.std.proofs.Common.{ℕ, zero, suc, ◌<◌, ◌≤◌, List, length, subst, arith, add-one, ◌≡◌, Bool, true, [], ◌∷◌}
use Rattle.std.proofs.Common.{Some, slice_get, None, refl, false}
use Rattle.std.specs.Prelude.{slice_index}
use Rattle.std.specs.Str.{IsCharBoundary, IsUtf8, is_utf8}
use Rattle.std.proofs.lemmas.Str.{IsCharBoundary-after_ascii, IsCharBoundary-start, IsUtf8-from_is_utf8}
use Rattle.std.specs.List.{prefix_len}
use Rattle.std.proofs.lemmas.List.Sums.{prefix_len-le-length, prefix_len_passes}
use Rattle.std.proofs.lemmas.Bool.Decides.{nat_tests}
use Rattle.deny_base_lists.specs.Blanks.{is_blank}

-- there is a character boundary behind ASCII bytes
pub cut_behind_ascii : (text : List ℕ) (n : ℕ) → IsUtf8 text → n ≤ length text
    → ((k : ℕ) → k < n → slice_index text k < 128)
    → IsCharBoundary text n
cut_behind_ascii text zero utf8 within ascii = IsCharBoundary-start text utf8
cut_behind_ascii text (suc n) utf8 within ascii = let P : ℕ → Type 0 = λ k. IsCharBoundary text k in
    subst P (add-one n) (IsCharBoundary-after_ascii text n utf8 (omega arith) (ascii n (omega arith)))

-- the bytes of the longest prefix that passes a test
pub prefix_within : (p : ℕ → Bool) (text bytes : List ℕ) (n : ℕ) → bytes ≡ text → n ≡ prefix_len p bytes
    → n ≤ length text
prefix_within p text bytes n e f = let P : List ℕ → Type 0 = λ x. n ≤ length x in
    subst P e (let most : prefix_len p bytes ≤ length bytes = prefix_len-le-length p bytes in omega arith)

pub prefix_passes : (p : ℕ → Bool) (text bytes : List ℕ) (n : ℕ) → bytes ≡ text → n ≡ prefix_len p bytes → (k : ℕ)
    → k < n
    → p (slice_index text k) ≡ true
prefix_passes p text bytes n e f k h = let P : List ℕ → Type 0 = λ x. p (slice_index x k) ≡ true in
    subst P e (prefix_len_passes p bytes k 0 (let Q : ℕ → Type 0 = λ m. k < m in subst Q f h))

-- the first byte of a list
pub first_byte : (bytes : List ℕ) (b : ℕ) → slice_get bytes 0 ≡ Some b → (rest : List ℕ) × (bytes ≡ b ∷ rest)
first_byte [] b e = cc
first_byte (x ∷ xs) b e = (xs, cc)

pub empty_from_no_first : (bytes : List ℕ) → slice_get bytes 0 ≡ None → bytes ≡ []
empty_from_no_first [] e = refl
empty_from_no_first (x ∷ xs) e = cc

pub is_utf8-false : (text : List ℕ) → (IsUtf8 text → ⊥) → is_utf8 text ≡ false
is_utf8-false text other = by_test (is_utf8 text) refl
  where
    by_test : (b : Bool) → is_utf8 text ≡ b → is_utf8 text ≡ false
    by_test true is = absurd (other (IsUtf8-from_is_utf8 text is))
    by_test false is = is

blank_ascii : (b : ℕ) → is_blank b ≡ true → b < 128
unfolding is_blank
blank_ascii b e = grind (arith, nat_tests, e)

pub blanks_ascii : (text bytes : List ℕ) (n : ℕ) → bytes ≡ text → n ≡ prefix_len is_blank bytes → (k : ℕ) → k < n
    → slice_index text k < 128
blanks_ascii text bytes n e f k h = blank_ascii _ (prefix_passes is_blank text bytes n e f k h)
