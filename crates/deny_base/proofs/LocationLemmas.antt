-- Locations, counted by bytes and by characters.
use Rattle.std.proofs.Common.{◌≡◌, ℕ, ◌||◌, ◌&&◌, ◌+◌, ◌-◌, ◌*◌, ◌/◌, ◌%◌, ◌<◌, ◌≤◌, Bool, true, false, cond, not, ltb}
use Rattle.std.proofs.Common.{leb, List, [], ◌∷◌, ◌++◌, length, take, drop, reverse, get_or, Some, None, refl, inl, inr}
use Rattle.std.proofs.Common.{sym, ap, ◌∙◌, arith, append_assoc, length-append, length-drop}
use Rattle.std.specs.List.{after_last, count_by, prefix_len, fold}
use Rattle.std.specs.Str.{chars, IsUtf8, IsCharBoundary}
use Rattle.std.proofs.lemmas.Bool.{ltb-true, ltb-false, lt-ltb, le-ltb, le-leb, lt-leb, ne_eqb, cases_lt}
use Rattle.std.proofs.lemmas.List.{reverse-append, length-reverse, drop-append-le, take_more, get_or-take, get_or-drop}
use Rattle.std.proofs.lemmas.List.{get_or_past, length-take, length-take-le}
use Rattle.std.proofs.lemmas.List.{append-nil}
use Rattle.std.proofs.lemmas.List.Sums.{prefix_len-le-length, sum_by_push, count_by-le-length, fold-append}
use Rattle.std.proofs.lemmas.Str.{IsUtf8-take, encodes-chars}
use Rattle.std.proofs.Math.ListN.{drop_of_length-le}
use lib.Utf8.{encode, encodes}
use Rattle.deny_base.specs.Files.{is_newline, begins_character, is_boundary, location_at, location_of}
use Rattle.deny_base.specs.private.Marks.{location_after, past, AreMarks}
use Rattle.deny_base.specs.declared.files.Location.{Location}

cut_push : {X : Type 0} (last : Bool) (xs : List X) (x : X) (k : ℕ) → k ≤ length xs
    → drop (length (xs ++ x ∷ []) - cond (not last) (1 + k) 0) (xs ++ x ∷ [])
    ≡ cond last [] (drop (length xs - k) xs ++ x ∷ [])
cut_push true xs x k fits = drop_of_length-le (xs ++ x ∷ []) (omega arith)
cut_push {X} false xs x k fits =
    let n : length (xs ++ x ∷ []) - (1 + k) ≡ length xs - k = omega (arith, length-append xs (x ∷ [])) in
    ap (λ n. drop n (xs ++ x ∷ [])) n ∙ drop-append-le (length xs - k) xs (x ∷ []) (omega arith)

-- the elements behind the last one that passes a test, after one more element
after_last-push : {X : Type 0} (p : X → Bool) (xs : List X) (x : X)
    → after_last p (xs ++ x ∷ []) ≡ cond (p x) [] (after_last p xs ++ x ∷ [])
after_last-push {X} p xs x =
    let q : X → Bool = λ y. not (p y) in
    let turned : reverse (xs ++ x ∷ []) ≡ x ∷ reverse xs = reverse-append xs (x ∷ []) in
    ap (λ (ys : List X). drop (length (xs ++ x ∷ []) - prefix_len q ys) (xs ++ x ∷ [])) turned
    ∙ cut_push (p x) xs x (prefix_len q (reverse xs))
    (omega (arith, prefix_len-le-length q (reverse xs), length-reverse xs))

location_from : ℕ → ℕ → Location
location_from line column = record { line = line; column = column }

count-cond : (p : ℕ → Bool) (last : Bool) (xs : List ℕ) (x : ℕ)
    → count_by p (cond last [] (xs ++ x ∷ [])) ≡ cond last 0 (count_by p xs + cond (p x) 1 0)
count-cond p true xs x = refl
count-cond p false xs x = sum_by_push (λ y. cond (p y) 1 0) xs x

past_cases : (newline begins : Bool) (line column : ℕ)
    → location_from (line + cond newline 1 0) (cond newline 0 (column + cond begins 1 0))
    ≡ cond newline (location_from (line + 1) 0) (location_from line (cond begins (column + 1) column))
past_cases true begins line column = refl
past_cases false true line column = ap (λ n. location_from n (column + 1)) (omega arith)
past_cases false false line column = ap (λ n. location_from n (column + 0)) (omega arith)
    ∙ ap (location_from line) (omega arith)

location_after-push : (bytes : List ℕ) (byte : ℕ)
    → location_after (bytes ++ byte ∷ []) ≡ past (location_after bytes) byte
unfolding location_after location_from
location_after-push bytes byte =
    let line = sum_by_push (λ y. cond (is_newline y) 1 0) bytes byte in
    let column = ap (count_by begins_character) (after_last-push is_newline bytes byte)
    ∙ count-cond begins_character (is_newline byte) (after_last is_newline bytes) byte in
    (λ i. location_from (line i) (column i))
    ∙ past_cases (is_newline byte) (begins_character byte) (count_by is_newline bytes)
    (count_by begins_character (after_last is_newline bytes))

location_after-more : (text : List ℕ) (n byte : ℕ) → n < length text → byte ≡ get_or text n 0
    → location_after (take (n + 1) text) ≡ past (location_after (take n text)) byte
location_after-more text n byte within is =
    ap location_after (take_more text n 0 within) ∙ location_after-push (take n text) (get_or text n 0)
    ∙ ap (past (location_after (take n text))) (sym is)

location_after-line : (bytes : List ℕ) → (location_after bytes).line ≤ length bytes
unfolding location_after
location_after-line bytes = count_by-le-length is_newline bytes

location_after-column : (bytes : List ℕ) → (location_after bytes).column ≤ length bytes
unfolding location_after
location_after-column bytes = omega (
  arith,
  count_by-le-length begins_character (after_last is_newline bytes),
  length-drop (length bytes - prefix_len (λ x. not (is_newline x)) (reverse bytes)) bytes,
)

-- the location after one more byte of a part of the text
pub advanced : (text : List ℕ) (from to n : ℕ) (at : Location) → from ≤ to → to ≤ length text
    → n < length (take (to - from) (drop from text))
    → at ≡ location_after (take (from + n) text)
    → past at (get_or (take (to - from) (drop from text)) n 0) ≡ location_after (take (from + (n + 1)) text)
advanced text from to n at order within below is =
    let byte = get_or (take (to - from) (drop from text)) n 0 in
    let inside : n < to - from = omega (arith, below, length-take (to - from) (drop from text)) in
    let read : byte ≡ get_or text (from + n) 0 = get_or-take (to - from) (drop from text) n 0 inside
    ∙ get_or-drop from text n 0 in
    ap (λ a. past a byte) is ∙ sym (location_after-more text (from + n) byte (omega arith) read)
    ∙ ap (λ k. location_after (take k text)) (omega arith)

-- line and column are at most the number of bytes
pub record IsWithin (at : Location) (n : ℕ) : Type 0 where
  pub line : at.line < n
  pub column : at.column < n

pub location_within : (text : List ℕ) (from to n : ℕ) (at : Location) → from ≤ to → to ≤ length text
    → n < length (take (to - from) (drop from text))
    → at ≡ location_after (take (from + n) text) → IsWithin at (length text)
location_within text from to n at order within below is =
    let inside : from + n < length text = omega (arith, below, length-take (to - from) (drop from text)) in
    let taken : length (take (from + n) text) ≡ from + n = length-take-le (from + n) text (omega arith) in
    record {
      line = omega (arith, ap (λ (a : Location). a.line) is, location_after-line (take (from + n) text));
      column = omega (arith, ap (λ (a : Location). a.column) is, location_after-column (take (from + n) text));
    }

-- a value that each further element changes in one way is a fold
fold_from_push : {X S : Type 0} (f : S → X → S) (g : List X → S)
    → ((xs : List X) (x : X) → g (xs ++ x ∷ []) ≡ f (g xs) x)
    → (prefix xs : List X) → g (prefix ++ xs) ≡ fold f (g prefix) xs
fold_from_push f g more prefix [] = ap g (append-nil prefix)
fold_from_push {X} {S} f g more prefix (x ∷ xs) =
    ap g (sym (append_assoc prefix (x ∷ []) xs)) ∙ fold_from_push f g more (prefix ++ x ∷ []) xs
    ∙ ap (λ (s : S). fold f s xs) (more prefix x)

-- the location behind one more character
behind : Location → ℕ → Location
behind at c = cond (is_newline c) (location_from (at.line + 1) 0) (location_from at.line (at.column + 1))

location_of_characters : List ℕ → Location
location_of_characters cs = location_from (count_by is_newline cs) (length (after_last is_newline cs))

length-cond : (last : Bool) (xs : List ℕ) (x : ℕ) → length (cond last [] (xs ++ x ∷ [])) ≡ cond last 0 (length xs + 1)
length-cond true xs x = refl
length-cond false xs x = length-append xs (x ∷ [])

behind_cases : (newline : Bool) (line column : ℕ)
    → location_from (line + cond newline 1 0) (cond newline 0 (column + 1))
    ≡ cond newline (location_from (line + 1) 0) (location_from line (column + 1))
behind_cases true line column = refl
behind_cases false line column = ap (λ n. location_from n (column + 1)) (omega arith)

location_of_characters-push : (cs : List ℕ) (c : ℕ)
    → location_of_characters (cs ++ c ∷ []) ≡ behind (location_of_characters cs) c
unfolding location_of_characters behind location_from
location_of_characters-push cs c =
    let line = sum_by_push (λ y. cond (is_newline y) 1 0) cs c in
    let column = ap (length {A = ℕ}) (after_last-push is_newline cs c)
    ∙ length-cond (is_newline c) (after_last is_newline cs) c in
    (λ i. location_from (line i) (column i))
    ∙ behind_cases (is_newline c) (count_by is_newline cs) (length (after_last is_newline cs))

past_by : (at : Location) (byte : ℕ) (newline begins : Bool) → is_newline byte ≡ newline
    → begins_character byte ≡ begins
    → past at byte ≡ cond newline (location_from (at.line + 1) 0)
    (location_from at.line (cond begins (at.column + 1) at.column))
unfolding location_from
past_by at byte newline begins n b = λ i. cond (n i) (location_from (at.line + 1) 0)
    (location_from at.line (cond (b i) (at.column + 1) at.column))

not_newline : (byte : ℕ) → 128 ≤ byte → is_newline byte ≡ false
not_newline byte high = ne_eqb byte 10 (λ e. omega (arith, e))

past_first : (at : Location) (byte : ℕ) → 192 ≤ byte → past at byte ≡ location_from at.line (at.column + 1)
past_first at byte high =
    let low : ltb byte 128 ≡ false = le-ltb byte 128 (omega arith) in
    let lead = le-leb 192 byte high in
    past_by at byte false true (not_newline byte (omega arith)) (λ i. low i || lead i)

past_next : (at : Location) (bits : ℕ) → past at (128 + bits % 64) ≡ at
unfolding location_from
past_next at bits =
    let byte : ℕ = 128 + bits % 64 in
    let low : ltb byte 128 ≡ false = le-ltb byte 128 (omega arith) in
    let lead : leb 192 byte ≡ false = lt-leb 192 byte (omega arith) in
    past_by at byte false false (not_newline byte (omega arith)) (λ i. low i || lead i)

past_ascii : (at : Location) (byte : ℕ) → byte < 128 → past at byte ≡ behind at byte
unfolding behind
past_ascii at byte low =
    let ascii : ltb byte 128 ≡ true = lt-ltb byte 128 low in
    past_by at byte (is_newline byte) true refl (λ i. ascii i || leb 192 byte)

behind_high : (at : Location) (c : ℕ) → 128 ≤ c → location_from at.line (at.column + 1) ≡ behind at c
unfolding behind
behind_high at c high = sym
    (ap (λ newline. cond newline (location_from (at.line + 1) 0) (location_from at.line (at.column + 1)))
    (not_newline c high))

encoded_by : (at : Location) (c : ℕ) (one two three : Bool) → ltb c 128 ≡ one
    → fold past at (cond one (c ∷ [])
    (cond two ((192 + c / 64) ∷ (128 + c % 64) ∷ [])
    (cond three ((224 + c / 4096) ∷ (128 + c / 64 % 64) ∷ (128 + c % 64) ∷ [])
    ((240 + c / 262144) ∷ (128 + c / 4096 % 64) ∷ (128 + c / 64 % 64) ∷ (128 + c % 64) ∷ []))))
    ≡ behind at c
encoded_by at c true two three is = past_ascii at c (ltb-true c 128 is)
encoded_by at c false true three is =
    past_next (past at (192 + c / 64)) c ∙ past_first at (192 + c / 64) (omega arith)
    ∙ behind_high at c (ltb-false c 128 is)
encoded_by at c false false true is =
    past_next (past (past at (224 + c / 4096)) (128 + c / 64 % 64)) c
    ∙ past_next (past at (224 + c / 4096)) (c / 64) ∙ past_first at (224 + c / 4096) (omega arith)
    ∙ behind_high at c (ltb-false c 128 is)
encoded_by at c false false false is =
    past_next (past (past (past at (240 + c / 262144)) (128 + c / 4096 % 64)) (128 + c / 64 % 64)) c
    ∙ past_next (past (past at (240 + c / 262144)) (128 + c / 4096 % 64)) (c / 64)
    ∙ past_next (past at (240 + c / 262144)) (c / 4096) ∙ past_first at (240 + c / 262144) (omega arith)
    ∙ behind_high at c (ltb-false c 128 is)

-- the bytes of a character advance the location by one character
behind_encode : (at : Location) (c : ℕ) → fold past at (encode c) ≡ behind at c
unfolding encode
behind_encode at c = encoded_by at c (ltb c 128) (ltb c 2048) (ltb c 65536) refl

behind_encodes : (at : Location) (cs : List ℕ) → fold past at (encodes cs) ≡ fold behind at cs
behind_encodes at [] = refl
behind_encodes at (c ∷ cs) =
    fold-append past at (encode c) (encodes cs) ∙ ap (λ (a : Location). fold past a (encodes cs)) (behind_encode at c)
    ∙ behind_encodes (behind at c) cs

no_characters : location_of_characters [] ≡ location_after []
unfolding location_of_characters location_after location_from
no_characters = refl

location_of_encodes : (cs : List ℕ) → location_after (encodes cs) ≡ location_of_characters cs
location_of_encodes cs =
    fold_from_push past location_after location_after-push [] (encodes cs)
    ∙ behind_encodes (location_after []) cs
    ∙ sym (fold_from_push behind location_of_characters location_of_characters-push [] cs
    ∙ ap (λ (a : Location). fold behind a cs) no_characters)

-- at a character boundary, counting by bytes and counting by characters agree
location_at_boundary : (text : List ℕ) (offset : ℕ) → IsUtf8 text → IsCharBoundary text offset
    → location_after (take offset text) ≡ location_at text offset
unfolding location_at location_of_characters location_from
location_at_boundary text offset utf8 boundary =
    ap location_after (sym (encodes-chars (take offset text) (IsUtf8-take text offset utf8 boundary)))
    ∙ location_of_encodes (chars (take offset text))

-- a text begins at line 0 and column 0
pub first_location : ◌≡◌ {A = Location} (record { line = 0; column = 0 }) (location_after [])
unfolding location_after
first_location = refl

pub first_mark : (text : List ℕ) (marks : List Location) → marks ≡ record { line = 0; column = 0 } ∷ []
    → AreMarks text 0 marks
first_mark text marks is = record {
  count = ap length is;
  each = λ k d below. let first : k ≡ 0 = omega (arith, below, ap length is) in
      (λ i. get_or (is i) (first i) d) ∙ first_location ∙ ap (λ j. location_after (take (256 * j) text)) (sym first);
}

begins_by : (byte : ℕ) → (128 ≤ byte → 192 ≤ byte) → begins_character byte ≡ true
begins_by byte high = elim (cases_lt byte 128) [
  | inl low ↦ (let ascii = lt-ltb byte 128 low in λ i. ascii i || leb 192 byte)
  | inr above ↦ (let other = le-ltb byte 128 above in let lead = le-leb 192 byte (high above) in λ i. other i || lead i)
]

is_boundary-true : (text : List ℕ) (offset : ℕ) → IsCharBoundary text offset → is_boundary text offset ≡ true
is_boundary-true text offset boundary =
    let fits = le-leb offset (length text) boundary.0 in
    let begins = begins_by (get_or text offset 0) (λ high. elim (cases_lt offset (length text)) [
      | inl within ↦ boundary.1 within high
      | inr past ↦ omega (arith, get_or_past text offset 0 past, high)
    ]) in
    λ i. fits i && begins i

-- the location of a character boundary, counted by bytes
pub located : (text : List ℕ) (offset : ℕ) (at : Location) → IsUtf8 text → IsCharBoundary text offset
    → at ≡ location_after (take offset text)
    → Some at ≡ location_of text offset
located text offset at utf8 boundary is =
    ap Some (is ∙ location_at_boundary text offset utf8 boundary)
    ∙ sym (ap (λ known. cond known (Some (location_at text offset)) None) (is_boundary-true text offset boundary))
