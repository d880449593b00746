-- A text is read as the expression that it spells, or bad at the offset where it goes wrong.
use Rattle.std.proofs.Common.{◌≡◌, ◌≤◌, ℕ, ◌+◌, ◌-◌, ◌==◌, if◌then◌else◌, Bool, true, false, List, [], ◌∷◌, ◌++◌}
use Rattle.std.proofs.Common.{length, Option, Some, None, Result, Ok, Err, refl, sym, ◌∙◌, ap, subst, append_assoc}
use Rattle.std.proofs.Common.{append-nil, length-append, option_and_then, arith}
use Rattle.std.specs.List.{list_all}
use Rattle.std.proofs.lemmas.List.Folds.{list_all-append}
use Rattle.std.proofs.lemmas.Bool.Decides.{nat_tests}
use Rattle.deny_spdx.specs.declared.token.SpdxToken.{SpdxToken}
use Rattle.deny_spdx.specs.declared.token.SpdxToken.TheVariants.{Word, Or, Open, Close}
use Rattle.deny_spdx.specs.declared.error.SpdxError.{SpdxError}
use Rattle.deny_spdx.specs.declared.error.SpdxError.TheVariants as error
use Rattle.deny_spdx.specs.declared.expression.Expression.{Expression}
use Rattle.deny_spdx.specs.declared.reader.Reader.{Reader}
use Rattle.deny_spdx.specs.Tokens.{is_blank, is_word_byte, begins_token, IsWord, EndsWord, BeginsWith, word, plus}
use Rattle.deny_spdx.specs.Tokens.{slash, opening, closing, token_of, HasTokens, none, blank, more}
use Rattle.deny_spdx.specs.Grammar.{IsExpression}
use Rattle.deny_spdx.specs.Bad.{Spells, IsBadAt}
use Rattle.deny_spdx.specs.private.Bad.{IsAnswer}
use Rattle.deny_spdx.specs.Reader.{start, settled, step, whole}
use Rattle.deny_spdx.specs.private.Reader.{run_by}
use Rattle.deny_spdx.specs.private.Reading as reading
use Rattle.deny_spdx.specs.private.Reading.{IsStuck, NoBlankFirst}
use Rattle.deny_spdx.specs.Reads.{Reading, Read, BadAt, Progress, On, Bad, taken, and_on, word_ended, plus_ended}
use Rattle.deny_spdx.specs.Reads.{mark_taken, byte_taken, read_as, at_end, then_read, read_from, reading_in, IsReading}
use Rattle.deny_spdx.proofs.TokenLemmas.{not_blank, tokens_then, rest_shorter}
use Rattle.deny_spdx.proofs.PrefixLemmas.{no_plus_byte, plus_byte, no_token_byte}
use Rattle.deny_spdx.proofs.StepsLemmas.{run_by-append}
use Rattle.deny_spdx.proofs.AnswerLemmas.{stops_bad}
use Rattle.deny_spdx.proofs.KeepsLemmas.{expression_keeps, expression_clear, expression_found, expression_ends}
use Rattle.deny_spdx.proofs.BadLemmas.{spells_same, offset_same, bad_spells}

-- the grammar agrees with a reading of the text
abbrev IsRight : List ℕ → Reading → Type 0
IsRight text (Read e) = Spells IsExpression text e
IsRight text (BadAt offset) = IsBadAt IsExpression text offset

-- The text before the rest consists of tokens, which lead to this reader, and bytes of a word; the rest begins at an
-- offset.
record IsAmid (text rest : List ℕ) (at : ℕ) (reader : Reader) (word : List ℕ) : Type 0 where
  pub tokens : List SpdxToken
  pub before : HasTokens text tokens (word ++ rest)
  pub runs : run_by step start tokens ≡ Some reader
  pub each : list_all is_word_byte word ≡ true
  pub offset : at + length rest ≡ length text

abbrev IsProgress : List ℕ → List ℕ → ℕ → Progress → Type 0
IsProgress text rest at (On reader w) = IsAmid text rest at reader w
IsProgress text rest at (Bad offset) = IsBadAt IsExpression text offset

-- the text before the rest consists of tokens, which lead to this reader, or is bad at an offset
abbrev IsEnded : List ℕ → List ℕ → ℕ → Progress → Type 0
IsEnded text rest at (On reader w) = IsAmid text rest at reader []
IsEnded text rest at (Bad offset) = IsBadAt IsExpression text offset

-- ---- a token

plain_first : {after : List ℕ} {t : SpdxToken} (rest : List ℕ) → BeginsWith rest t after → NoBlankFirst rest
plain_first [] begins = tt
plain_first (b ∷ bs) begins = plain_at (is_blank b) refl
  where
    plain_at : (c : Bool) → is_blank b ≡ c → is_blank b ≡ false
    plain_at true e = absurd (not_blank b bs begins refl e)
    plain_at false e = e

-- the reader cannot continue after these tokens
stuck_bad : (text rest : List ℕ) (offset : ℕ) (reader : Reader) (tokens : List SpdxToken) → HasTokens text tokens rest
    → run_by step start tokens ≡ Some reader → NoBlankFirst rest → IsStuck step reader rest
    → offset + length rest ≡ length text → IsBadAt IsExpression text offset
stuck_bad text rest offset reader tokens before runs plain stuck at =
    stops_bad IsExpression step start (λ s. whole (settled s)) expression_keeps text offset (record {
      rest = rest;
      last = reader;
      to = record { tokens = tokens; before = before; runs = runs; plain = plain };
      stuck = stuck;
      at = at;
    })

-- a token that has the bytes of the word and some of the rest
taken_ended : {text rest after w : List ℕ} {at : ℕ} {reader : Reader} {t : SpdxToken} (offset behind : ℕ)
    → IsAmid text rest at reader w → BeginsWith (w ++ rest) t after
    → offset + length (w ++ rest) ≡ length text → behind + length after ≡ length text
    → (o : Option Reader) → step reader t ≡ o → IsEnded text after behind (taken o offset)
taken_ended {text} {rest} {w = w} {reader = reader} {t = t} offset behind d begins here there None e =
    stuck_bad text (w ++ rest) offset reader d.tokens d.before d.runs (plain_first (w ++ rest) begins)
    (reading.token t begins e) here
taken_ended {after = after} {reader = reader} {t = t} offset behind d begins here there (Some next) e = record {
  tokens = d.tokens ++ t ∷ [];
  before = tokens_then after (t ∷ []) d.before (more begins none);
  runs = run_by-append step start reader d.tokens (t ∷ []) d.runs ∙ ap (option_and_then (λ x. Some x)) e;
  each = refl;
  offset = there;
}

-- no word is left after a token
taken_progress : (text rest : List ℕ) (at offset : ℕ) (o : Option Reader) → IsEnded text rest at (taken o offset)
    → IsProgress text rest at (taken o offset)
taken_progress text rest at offset None d = d
taken_progress text rest at offset (Some reader) d = d

-- a byte that begins no token
byte_bad : (text bytes : List ℕ) (b at : ℕ) (reader : Reader) → IsAmid text (b ∷ bytes) at reader []
    → is_blank b ≡ false → begins_token b ≡ false → IsBadAt IsExpression text at
byte_bad text bytes b at reader d plain nothing =
    stuck_bad text (b ∷ bytes) at reader d.tokens d.before d.runs plain (reading.no_token b nothing) d.offset

-- ---- a word that ends

some_bytes : (x : ℕ) (xs : List ℕ) → (length (x ∷ xs) == 0) ≡ false
some_bytes x xs = grind (arith, nat_tests)

-- the offset of the first byte of the word
word_begins : {text rest : List ℕ} {at : ℕ} {reader : Reader} (w : List ℕ) → IsAmid text rest at reader w
    → (at - length w) + length (w ++ rest) ≡ length text
word_begins {text} {rest} {at} w d =
    let here : at + length rest ≡ length text = d.offset in
    let within : length (w ++ rest) ≤ length text = rest_shorter d.before in
    let all : length (w ++ rest) ≡ length w + length rest = length-append w rest in
    omega arith

word_is_ended : (text rest : List ℕ) (at : ℕ) (reader : Reader) (w : List ℕ) → IsAmid text rest at reader w
    → EndsWord rest → IsEnded text rest at (word_ended reader w at)
unfolding word_ended
word_is_ended text rest at reader [] d ends = d
word_is_ended text rest at reader (x ∷ xs) d ends =
    let is : IsWord (x ∷ xs) = record { some = omega arith; each = d.each } in
    let P : Bool → Type 0 = λ c. IsEnded text rest at
    (if c then On reader [] else taken (step reader (token_of (x ∷ xs))) (at - length (x ∷ xs))) in
    subst P (sym (some_bytes x xs)) (taken_ended (at - length (x ∷ xs)) at d (word (x ∷ xs) is ends)
    (word_begins (x ∷ xs) d) d.offset (step reader (token_of (x ∷ xs))) refl)

behind_byte : (text bytes : List ℕ) (b at : ℕ) → at + length (b ∷ bytes) ≡ length text
    → (at + 1) + length bytes ≡ length text
behind_byte text bytes b at e = omega (arith, e)

plus_is_ended : (text bytes : List ℕ) (at : ℕ) (reader : Reader) (w : List ℕ) → IsAmid text (43 ∷ bytes) at reader w
    → IsProgress text bytes (at + 1) (plus_ended reader w at)
unfolding plus_ended is_blank begins_token is_word_byte
plus_is_ended text bytes at reader [] d = byte_bad text bytes 43 at reader d refl refl
plus_is_ended text bytes at reader (x ∷ xs) d =
    let is : IsWord (x ∷ xs) = record { some = omega arith; each = d.each } in
    let P : Bool → Type 0 = λ c. IsProgress text bytes (at + 1)
    (if c then Bad at else taken (step reader (Word (x ∷ xs))) (at - length (x ∷ xs))) in
    subst P (sym (some_bytes x xs)) (taken_progress text bytes (at + 1) (at - length (x ∷ xs))
    (step reader (Word (x ∷ xs))) (taken_ended (at - length (x ∷ xs)) (at + 1) d (plus (x ∷ xs) is)
    (word_begins (x ∷ xs) d) (behind_byte text bytes 43 at d.offset) (step reader (Word (x ∷ xs))) refl))

-- ---- a byte

blank_taken : (text bytes : List ℕ) (b at : ℕ) (reader : Reader) → IsAmid text (b ∷ bytes) at reader []
    → is_blank b ≡ true → IsAmid text bytes (at + 1) reader []
blank_taken text bytes b at reader d is = let P : List SpdxToken → Type 0 = λ x. HasTokens text x bytes in record {
  tokens = d.tokens;
  before = subst P (append-nil d.tokens) (tokens_then bytes [] d.before (blank b is none));
  runs = d.runs;
  each = refl;
  offset = behind_byte text bytes b at d.offset;
}

one_byte : (text bytes : List ℕ) (b at : ℕ) (reader : Reader) (t : SpdxToken) → IsAmid text (b ∷ bytes) at reader []
    → BeginsWith (b ∷ bytes) t bytes → IsProgress text bytes (at + 1) (taken (step reader t) at)
one_byte text bytes b at reader t d begins = taken_progress text bytes (at + 1) at (step reader t)
    (taken_ended at (at + 1) d begins d.offset (behind_byte text bytes b at d.offset) (step reader t) refl)

mark_at : (text bytes : List ℕ) (b at : ℕ) (reader : Reader) → IsAmid text (b ∷ bytes) at reader []
    → is_word_byte b ≡ false → (u x y z : Bool) → is_blank b ≡ u → (b == 40) ≡ x → (b == 41) ≡ y → (b == 47) ≡ z
    → IsProgress text bytes (at + 1) (if u then On reader []
    else (if x then taken (step reader Open) at
    else (if y then taken (step reader Close) at else (if z then taken (step reader Or) at else Bad at))))
mark_at text bytes b at reader d other true x y z e f g h = blank_taken text bytes b at reader d e
mark_at text bytes b at reader d other false true y z e f g h =
    let here : 40 ≡ b = grind (arith, nat_tests, f) in
    let P : ℕ → Type 0 = λ m. BeginsWith (m ∷ bytes) Open bytes in
    one_byte text bytes b at reader Open d (subst P here opening)
mark_at text bytes b at reader d other false false true z e f g h =
    let here : 41 ≡ b = grind (arith, nat_tests, g) in
    let P : ℕ → Type 0 = λ m. BeginsWith (m ∷ bytes) Close bytes in
    one_byte text bytes b at reader Close d (subst P here closing)
mark_at text bytes b at reader d other false false false true e f g h =
    let here : 47 ≡ b = grind (arith, nat_tests, h) in
    let P : ℕ → Type 0 = λ m. BeginsWith (m ∷ bytes) Or bytes in
    one_byte text bytes b at reader Or d (subst P here slash)
mark_at text bytes b at reader d other false false false false e f g h =
    byte_bad text bytes b at reader d e (no_token_byte b other f g h)

mark_is_taken : (text bytes : List ℕ) (b at : ℕ) (p : Progress) → IsEnded text (b ∷ bytes) at p
    → is_word_byte b ≡ false → IsProgress text bytes (at + 1) (and_on (mark_taken b at) p)
unfolding mark_taken
mark_is_taken text bytes b at (On reader w) d other = mark_at text bytes b at reader d other
    (is_blank b) (b == 40) (b == 41) (b == 47) refl refl refl refl
mark_is_taken text bytes b at (Bad offset) d other = d

word_goes_on : (text bytes : List ℕ) (b at : ℕ) (reader : Reader) (w : List ℕ) → IsAmid text (b ∷ bytes) at reader w
    → is_word_byte b ≡ true → IsAmid text bytes (at + 1) reader (w ++ b ∷ [])
word_goes_on text bytes b at reader w d is = let P : List ℕ → Type 0 = λ x. HasTokens text d.tokens x in record {
  tokens = d.tokens;
  before = subst P (sym (append_assoc w (b ∷ []) bytes)) d.before;
  runs = d.runs;
  each = list_all-append is_word_byte w (b ∷ []) ∙ rw (d.each, is) refl;
  offset = behind_byte text bytes b at d.offset;
}

byte_at : (text bytes : List ℕ) (b at : ℕ) (reader : Reader) (w : List ℕ) → IsAmid text (b ∷ bytes) at reader w
    → (x y : Bool) → is_word_byte b ≡ x → (b == 43) ≡ y
    → IsProgress text bytes (at + 1) (if x then On reader (w ++ b ∷ [])
    else (if y then plus_ended reader w at else and_on (mark_taken b at) (word_ended reader w at)))
byte_at text bytes b at reader w d true y e f = word_goes_on text bytes b at reader w d e
byte_at text bytes b at reader w d false true e f =
    let P : ℕ → Type 0 = λ m. IsAmid text (m ∷ bytes) at reader w in
    plus_is_ended text bytes at reader w (subst P (plus_byte b f) d)
byte_at text bytes b at reader w d false false e f =
    mark_is_taken text bytes b at (word_ended reader w at)
    (word_is_ended text (b ∷ bytes) at reader w d (e, no_plus_byte b f)) e

byte_is_taken : (text bytes : List ℕ) (b at : ℕ) (reader : Reader) (w : List ℕ) → IsAmid text (b ∷ bytes) at reader w
    → IsProgress text bytes (at + 1) (byte_taken reader w at b)
unfolding byte_taken
byte_is_taken text bytes b at reader w d = byte_at text bytes b at reader w d (is_word_byte b) (b == 43) refl refl

-- ---- the whole text

whole_right : (text : List ℕ) (at : ℕ) (reader : Reader) → IsAmid text [] at reader [] → (o : Option Expression)
    → o ≡ whole (settled reader) → IsRight text (read_as o at)
whole_right text at reader d (Some e) is = expression_found start reader text (Some e) e refl
    (record { tokens = d.tokens; all = d.before; runs = d.runs }) is refl
whole_right text at reader d None is =
    let end : length text ≡ at = omega (arith, d.offset) in
    let P : ℕ → Type 0 = λ n. IsBadAt IsExpression text n in
    subst P end (expression_ends start reader text None refl
    (record { tokens = d.tokens; all = d.before; runs = d.runs }) is refl)

end_right : (text : List ℕ) (at : ℕ) (p : Progress) → IsEnded text [] at p → IsRight text (at_end at p)
end_right text at (On reader w) d = whole_right text at reader d (whole (settled reader)) refl
end_right text at (Bad offset) d = d

then_right : (text bytes : List ℕ) (at : ℕ)
    → ((reader : Reader) (w : List ℕ) → IsAmid text bytes at reader w → IsRight text (read_from reader w at bytes))
    → (p : Progress) → IsProgress text bytes at p
    → IsRight text (then_read (λ reader w. read_from reader w at bytes) p)
then_right text bytes at on (On reader w) d = on reader w d
then_right text bytes at on (Bad offset) d = d

read_right : (text : List ℕ) (reader : Reader) (w : List ℕ) (at : ℕ) (bytes : List ℕ) → IsAmid text bytes at reader w
    → IsRight text (read_from reader w at bytes)
read_right text reader w at [] d = end_right text at (word_ended reader w at)
    (word_is_ended text [] at reader w d tt)
read_right text reader w at (b ∷ bytes) d = then_right text bytes (at + 1)
    (λ behind more e. read_right text behind more (at + 1) bytes e)
    (byte_taken reader w at b) (byte_is_taken text bytes b at reader w d)

reading_right : (text : List ℕ) → IsRight text (reading_in text)
unfolding reading_in
reading_right text = read_right text start [] 0 text
    (record { tokens = []; before = none; runs = refl; each = refl; offset = omega arith })

pub right_as : (text : List ℕ) (found : Reading) → reading_in text ≡ found → IsRight text found
right_as text found e = let P : Reading → Type 0 = λ x. IsRight text x in subst P e (reading_right text)

-- ---- the result of parsing is the reading of the text

read_same : (text : List ℕ) (e : Expression) (found : Reading) → Spells IsExpression text e → IsRight text found
    → found ≡ Read e
read_same text e (Read x) d is = ap Read (spells_same IsExpression expression_clear text x e is d)
read_same text e (BadAt offset) d is = absurd (bad_spells IsExpression text offset e is d)

bad_same : (text : List ℕ) (offset : ℕ) (found : Reading) → IsBadAt IsExpression text offset → IsRight text found
    → found ≡ BadAt offset
bad_same text offset (Read x) d is = absurd (bad_spells IsExpression text offset x d is)
bad_same text offset (BadAt other) d is = ap BadAt (offset_same IsExpression text other offset is d)

pub answer_reads : (text : List ℕ) (result : Result Expression SpdxError) → IsAnswer IsExpression text result
    → IsReading text result
answer_reads text (Ok e) d = read_same text e (reading_in text) d (reading_right text)
answer_reads text (Err (error.Bad offset)) d = bad_same text offset (reading_in text) d (reading_right text)
answer_reads text (Err error.Memory) d = tt
