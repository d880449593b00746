-- Runs of bytes, and what is skipped between the parts of a text.
use Rattle.std.proofs.Common.{◌≡◌, ℕ, zero, suc, ◌+◌, ◌<◌, Bool, true, false, cond, ◌==◌, List, [], ◌∷◌, ◌++◌, length}
use Rattle.std.proofs.Common.{get_or, drop, IsUtf8, Some, is_some, unwrap_or, refl, subst, inl, inr, arith, add-one}
use Rattle.std.proofs.Common.{add-zero, get_or-drop, take_at, drop_at, eqb-true}
use Rattle.std.proofs.lemmas.Bool.{cases_lt, and_parts}
use Rattle.std.proofs.lemmas.Bool.Decides.{nat_tests}
use Rattle.std.proofs.lemmas.List.{drop_more, get_or_past}
use Rattle.std.proofs.lemmas.List.Sums.{prefix_len-le-length, prefix_len_passes, prefix_len_stops}
use Rattle.std.proofs.lemmas.Str.{IsCharBoundary-start, IsCharBoundary-end, IsCharBoundary-before_ascii}
use Rattle.std.proofs.lemmas.Str.{IsCharBoundary-after_ascii}
use Rattle.std.specs.List.{prefix_len, list_all}
use Rattle.std.specs.Char.{is_ascii_digit}
use Rattle.std.specs.Str.{IsCharBoundary}
use Rattle.deny_toml_grammar.specs.declared.lexical.ByteClass.{ByteClass}
use Rattle.deny_toml_grammar.specs.declared.lexical.ByteClass.TheVariants.{Space, Bare, Token, Digit, Grouped}
use Rattle.deny_toml_grammar.specs.declared.lexical.ByteClass.TheVariants.{Byte, Plain}
use Rattle.deny_toml_grammar.specs.Lexical.{first, is_plain, is_space, is_bare, is_token_byte}
use Rattle.deny_toml_grammar.specs.private.Lexical.{class_test, EndsAtBoundary}
use Rattle.deny_toml_grammar.specs.Lexical.{is_grouped, split_while, skip_turn, skip_from}

-- a byte that is not 0 lies inside the text
pub within_from_byte : (xs : List ℕ) (i : ℕ) → 0 < get_or xs i 0 → i < length xs
within_from_byte xs i h = elim (cases_lt i (length xs)) [
  | inl within ↦ within
  | inr past ↦
      absurd (omega (arith, get_or_past xs i 0 past))
]

boundary_after : (p : ℕ → Bool) (bs : List ℕ) (n : ℕ) → prefix_len p bs ≡ n → IsUtf8 bs
    → ((c : ℕ) → p c ≡ true → c < 128) → IsCharBoundary bs n
boundary_after p bs zero e utf8 ascii = IsCharBoundary-start bs utf8
boundary_after p bs (suc k) e utf8 ascii =
    rw (← add-one) (IsCharBoundary-after_ascii bs k utf8 (omega (arith, prefix_len-le-length p bs))
    (ascii _ (prefix_len_passes p bs k 0 (omega arith))))

-- a run of ASCII bytes ends at a character boundary
IsCharBoundary-ascii_run : (p : ℕ → Bool) (bs : List ℕ) → IsUtf8 bs → ((c : ℕ) → p c ≡ true → c < 128)
    → IsCharBoundary bs (prefix_len p bs)
IsCharBoundary-ascii_run p bs = boundary_after p bs _ refl

-- a run that only an ASCII byte ends is over at a character boundary
IsCharBoundary-wide_run : (p : ℕ → Bool) (bs : List ℕ) → ((c : ℕ) → p c ≡ false → c < 128)
    → IsCharBoundary bs (prefix_len p bs)
IsCharBoundary-wide_run p bs ascii =
    elim (cases_lt (prefix_len p bs) (length bs)) [
      | inl within ↦ IsCharBoundary-before_ascii bs _ within (ascii _ (prefix_len_stops p bs 0 within))
      | inr past ↦ subst (IsCharBoundary bs) (omega (arith, prefix_len-le-length p bs)) (IsCharBoundary-end bs)
    ]

-- a run of a class that keeps to boundaries ends at one
pub IsCharBoundary-run : (class : ByteClass) (bs : List ℕ) → IsUtf8 bs → EndsAtBoundary class
    → IsCharBoundary bs (prefix_len (class_test class) bs)
IsCharBoundary-run Space bs utf8 h = IsCharBoundary-ascii_run is_space bs utf8 (λ c e. grind (arith, nat_tests))
IsCharBoundary-run Bare bs utf8 h = IsCharBoundary-ascii_run is_bare bs utf8 (λ c e. grind (arith, nat_tests))
IsCharBoundary-run Token bs utf8 h = IsCharBoundary-ascii_run is_token_byte bs utf8 (λ c e. grind (arith, nat_tests))
IsCharBoundary-run Digit bs utf8 h = IsCharBoundary-ascii_run is_ascii_digit bs utf8 (λ c e. grind (arith, nat_tests))
IsCharBoundary-run Grouped bs utf8 h = IsCharBoundary-ascii_run is_grouped bs utf8 (λ c e. grind (arith, nat_tests))
IsCharBoundary-run (Byte b) bs utf8 h = IsCharBoundary-ascii_run (λ c. c == b) bs utf8
    (λ c e. omega (arith, eqb-true c b e))
IsCharBoundary-run (Plain delimiter multi) bs utf8 h = IsCharBoundary-wide_run (is_plain delimiter multi) bs
    (λ c e. grind (arith, nat_tests))

-- one step of `skip_from`, at an index
pub skip_from-drop : (comments inside : Bool) (xs : List ℕ) (i : ℕ) → i < length xs
    → let turn = skip_turn comments inside (get_or xs i 0) (get_or xs (i + 1) 0) in
    skip_from comments inside (drop i xs) ≡ cond (is_some turn)
    (skip_from comments (unwrap_or turn false) (drop (i + 1) xs)) (drop i xs)
unfolding skip_from
skip_from-drop comments inside xs i h =
    let next : get_or (drop (i + 1) xs) 0 0 ≡ get_or xs (i + 1) 0 = rw (get_or-drop (i + 1) xs 0 0, add-zero) in
    rw (drop_more xs i 0 h, next)

-- a byte at which skipping stops, or which it skips outside a comment, is ASCII
pub skip_turn_ascii : (comments inside : Bool) (c next : ℕ) → skip_turn comments inside c next ≡ Some false → c < 128
skip_turn_ascii comments inside c next e = grind (arith, nat_tests)

pub skip_from-nil : (comments inside : Bool) → skip_from comments inside [] ≡ []
unfolding skip_from
skip_from-nil comments inside = refl

-- a run before a byte of another class is as long as the run alone
pub prefix_len-run : (p : ℕ → Bool) (run rest : List ℕ) → list_all p run ≡ true → p (first rest) ≡ false
    → prefix_len p (run ++ rest) ≡ length run
prefix_len-run p [] [] all stop = refl
prefix_len-run p [] (c ∷ rest) all stop = rw stop
prefix_len-run p (c ∷ run) rest all stop =
    let (here, more) = and_parts (p c) (list_all p run) all in
    rw here (omega (arith, prefix_len-run p run rest more stop))

pub split_while-run : (p : ℕ → Bool) (run rest : List ℕ) → list_all p run ≡ true → p (first rest) ≡ false
    → split_while p (run ++ rest) ≡ (run, rest)
split_while-run p run rest all stop = rw (
  prefix_len-run p run rest all stop,
  take_at run rest _ refl,
  drop_at run rest
      _ refl,
)
