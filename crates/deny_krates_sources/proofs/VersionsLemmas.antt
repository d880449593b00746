-- Numbers joined by dots.
use Rattle.std.proofs.Common.{◌≡◌, ◌<◌, ◌+◌, ◌-◌, ◌*◌, true≢false, ℕ, suc, List, [], ◌∷◌, Bool, true, false, Option}
use Rattle.std.proofs.Common.{Some, None, length, get_or, drop, take, refl, sym, ap, ◌∙◌, arith}
use Rattle.std.specs.Prelude.{◌==◌, is_some, option_copied}
use Rattle.std.specs.Borrow.{Bor}
use Rattle.std.specs.Char.{is_ascii_digit, digit_value}
use Rattle.std.specs.List.{after_first, before_first, position_or_len}
use Rattle.std.specs.Str.Parse.{digits_value}
use Rattle.std.proofs.lemmas.Bool.Decides.{nat_tests}
use Rattle.std.proofs.lemmas.Int.Digits.{digits_value_more}
use Rattle.form_urlencoded.specs.Form.{onto_first, split}
use Rattle.semver.specs.Parse.{Parts}
use Rattle.deny_krates_sources.specs.Versions.{number_of, release_of, rust_version_of, whole_release}
use Rattle.deny_krates_sources.specs.private.Versions.{pieces_of}

pub next_value : (ds : List ℕ) (i number : ℕ) → i < length ds → is_ascii_digit (get_or ds i 0) ≡ true
    → number ≡ digits_value 10 (take i ds)
    → digits_value 10 (take (i + 1) ds) ≡ number * 10 + (get_or ds i 0 - 48)
next_value ds i number inside digit value =
    let worth : digit_value (get_or ds i 0) ≡ get_or ds i 0 - 48 = grind (arith, nat_tests) in
    rw (digits_value_more 10 ds i inside, worth, value)

abbrev is_dot : ℕ → Bool
is_dot b = b == 46

-- a text without a dot is one piece
pub no_dot : (text : List ℕ) → position_or_len is_dot text ≡ length text → split 46 text ≡ text ∷ []
unfolding split
no_dot [] none = refl
no_dot (b ∷ bytes) none = by_test (is_dot b) refl (no_dot bytes)
  where
    by_test : (t : Bool) → is_dot b ≡ t → (position_or_len is_dot bytes ≡ length bytes → split 46 bytes ≡ bytes ∷ [])
        → split 46 (b ∷ bytes) ≡ (b ∷ bytes) ∷ []
    by_test true is rest = let here = rw is at none in absurd (omega (arith, here))
    by_test false is rest = let later = rw is at none in rw is (ap (onto_first b) (rest (omega (arith, later))))

shifted : (b : ℕ) (bytes : List ℕ) (n : ℕ)
    → (take (1 + n) (b ∷ bytes) ≡ b ∷ take n bytes) × (drop (1 + n + 1) (b ∷ bytes) ≡ drop (n + 1) bytes)
shifted b bytes n =
    let one : 1 + n ≡ suc n = omega arith in
    let two : 1 + n + 1 ≡ suc (n + 1) = omega arith in
    (rw one refl, rw two refl)

-- the text before the first dot is the first piece
at_dot : (text : List ℕ) → position_or_len is_dot text < length text
    → split 46 text ≡ before_first is_dot text ∷ split 46 (after_first is_dot text)
unfolding split
at_dot [] some = absurd (omega (arith, some))
at_dot (b ∷ bytes) some = by_test (is_dot b) refl (at_dot bytes)
  where
    by_test : (t : Bool) → is_dot b ≡ t
        → (position_or_len is_dot bytes < length bytes → split 46 bytes ≡ before_first is_dot bytes ∷ split 46
        (after_first is_dot bytes))
        → split 46 (b ∷ bytes) ≡ before_first is_dot (b ∷ bytes) ∷ split 46 (after_first is_dot (b ∷ bytes))
    by_test true is rest = rw is refl
    by_test false is rest = let later = rw is at some in let both = shifted b bytes (position_or_len is_dot bytes) in
        rw (is, both.0, both.1) (ap (onto_first b) (rest (omega (arith, later))))

pub cut_at : (text piece rest : List ℕ) → piece ≡ before_first is_dot text → rest ≡ after_first is_dot text
    → position_or_len is_dot text < length text → piece ∷ split 46 rest ≡ split 46 text
cut_at text piece rest before later some = rw (before, later) (sym (at_dot text some))

some_piece : (text : List ℕ) → (piece : List ℕ) × (pieces : List (List ℕ)) × (split 46 text ≡ piece ∷ pieces)
unfolding split
some_piece [] = ([], [], refl)
some_piece (b ∷ bytes) = by_test (is_dot b) refl (some_piece bytes)
  where
    by_test : (t : Bool) → is_dot b ≡ t
        → (piece : List ℕ) × (pieces : List (List ℕ)) × (split 46 bytes ≡ piece ∷ pieces)
        → (piece : List ℕ) × (pieces : List (List ℕ)) × (split 46 (b ∷ bytes) ≡ piece ∷ pieces)
    by_test true is rest = ([], split 46 bytes, rw is refl)
    by_test false is rest = (b ∷ rest.0, rest.1, rw is (ap (onto_first b) rest.2))

-- one to three numbers make a release
pub one_number : (text a : List ℕ) (first : Option (Bor (List ℕ))) (x : Option ℕ) (made : Option Parts)
    → first ≡ None → pieces_of a (option_copied first) ≡ split 46 text → x ≡ number_of a
    → made ≡ whole_release x (Some 0) (Some 0) → made ≡ rust_version_of text
unfolding rust_version_of release_of
one_number text a first x made none one x_is is =
    let whole : a ∷ [] ≡ split 46 text = rw none at one in
    rw (← whole, ← x_is) is

pub two_numbers : (text a b : List ℕ) (first second : Option (Bor (List ℕ))) (after_a : Bor (List ℕ))
    (x y : Option ℕ) (made : Option Parts)
    → first ≡ Some after_a → pieces_of a (option_copied first) ≡ split 46 text
    → second ≡ None → pieces_of b (option_copied second) ≡ split 46 after_a.now
    → x ≡ number_of a → y ≡ number_of b → made ≡ whole_release x y (Some 0) → made ≡ rust_version_of text
unfolding rust_version_of release_of
two_numbers text a b first second after_a x y made some one none two x_is y_is is =
    let whole : a ∷ split 46 after_a.now ≡ split 46 text = rw some at one in
    let last : b ∷ [] ≡ split 46 after_a.now = rw none at two in
    rw (← whole, ← last, ← x_is, ← y_is) is

pub three_numbers : (text a b c : List ℕ) (first second third : Option (Bor (List ℕ)))
    (after_a after_b : Bor (List ℕ)) (x y z : Option ℕ) (made : Option Parts)
    → first ≡ Some after_a → pieces_of a (option_copied first) ≡ split 46 text
    → second ≡ Some after_b → pieces_of b (option_copied second) ≡ split 46 after_a.now
    → is_some third ≡ false → pieces_of c (option_copied third) ≡ split 46 after_b.now
    → x ≡ number_of a → y ≡ number_of b → z ≡ number_of c → made ≡ whole_release x y z → made ≡ rust_version_of text
unfolding rust_version_of release_of
three_numbers text a b c first second (Some rest) after_a after_b x y z made some one some' two none three x_is y_is
    z_is is = absurd (true≢false none)
three_numbers text a b c first second None after_a after_b x y z made some one some' two none three x_is y_is z_is is =
    let whole : a ∷ split 46 after_a.now ≡ split 46 text = rw some at one in
    let later : b ∷ split 46 after_b.now ≡ split 46 after_a.now = rw some' at two in
    rw (← whole, ← later, ← three, ← x_is, ← y_is, ← z_is) is

-- four numbers are no version of Rust
pub too_many : (text a b c : List ℕ) (first second third : Option (Bor (List ℕ))) (after_a after_b : Bor (List ℕ))
    → first ≡ Some after_a → pieces_of a (option_copied first) ≡ split 46 text
    → second ≡ Some after_b → pieces_of b (option_copied second) ≡ split 46 after_a.now
    → is_some third ≡ true → pieces_of c (option_copied third) ≡ split 46 after_b.now
    → None ≡ rust_version_of text
unfolding rust_version_of release_of
too_many text a b c first second third after_a after_b is one is' two some three =
    of_four third some (pieces a text first after_a one is) (pieces b after_a.now second after_b two is') three
  where
    pieces : (piece whole : List ℕ) (o : Option (Bor (List ℕ))) (rest : Bor (List ℕ))
        → pieces_of piece (option_copied o) ≡ split 46 whole → o ≡ Some rest
        → split 46 whole ≡ piece ∷ split 46 rest.now
    pieces piece whole o rest known same =
        sym known ∙ ap (λ (o : Option (Bor (List ℕ))). pieces_of piece (option_copied o)) same

    of_four : (third : Option (Bor (List ℕ))) → is_some third ≡ true → split 46 text ≡ a ∷ split 46 after_a.now
        → split 46 after_a.now ≡ b ∷ split 46 after_b.now → pieces_of c (option_copied third) ≡ split 46 after_b.now
        → None ≡ release_of (split 46 text)
    of_four None some one two three = absurd (true≢false (sym some))
    of_four (Some rest) some one two three = let last = some_piece rest.now in rw (one, two, ← three, last.2) refl
