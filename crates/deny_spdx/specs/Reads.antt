-- The reading of a text, as a function of the text: each token is taken by a reader.
use Rattle.std.specs.Prelude.{◌≡◌, ◌==◌, ◌+◌, ◌-◌, ℕ, if◌then◌else◌, List, [], ◌∷◌, ◌++◌, length, Option, Some, None}
use Rattle.std.specs.Prelude.{Result, Ok, Err}
use Rattle.deny_spdx.specs.declared.token.SpdxToken.TheVariants.{Word, Or, Open, Close}
use Rattle.deny_spdx.specs.declared.error.SpdxError.{SpdxError}
use Rattle.deny_spdx.specs.declared.error.SpdxError.TheVariants as error
use Rattle.deny_spdx.specs.declared.expression.Expression.{Expression}
use Rattle.deny_spdx.specs.declared.reader.Reader.{Reader}
use Rattle.deny_spdx.specs.Reader.{settled, start, step, whole}
use Rattle.deny_spdx.specs.Tokens.{is_blank, is_word_byte, token_of}

-- the reading of a text: an expression, or none, since it is bad at an offset
pub data Reading : Type 0 where
  Read : Expression → Reading
  BadAt : ℕ → Reading

-- the reader after the tokens so far, with the bytes of a word that may continue; or the offset where the text is bad
pub data Progress : Type 0 where
  On : Reader → List ℕ → Progress
  Bad : ℕ → Progress

-- the reader after a token, which begins at an offset
abbrev pub taken : Option Reader → ℕ → Progress
taken None at = Bad at
taken (Some reader) at = On reader []

-- the progress after a word that has ended
abbrev pub and_on : (Reader → Progress) → Progress → Progress
and_on next (On reader word) = next reader
and_on next (Bad at) = Bad at

-- the word that ends before an offset, if there is one
unfoldable pub word_ended : Reader → List ℕ → ℕ → Progress
word_ended reader word end =
    if length word == 0 then On reader [] else taken (step reader (token_of word)) (end - length word)

-- the word that ends before a '+', with which it is no operator
unfoldable pub plus_ended : Reader → List ℕ → ℕ → Progress
plus_ended reader word end =
    if length word == 0 then Bad end else taken (step reader (Word word)) (end - length word)

-- a byte that is in no word and is no '+'
unfoldable pub mark_taken : ℕ → ℕ → Reader → Progress
mark_taken byte at reader =
    if is_blank byte then On reader []
    else (if byte == 40 then taken (step reader Open) at
    else (if byte == 41 then taken (step reader Close) at
    else (if byte == 47 then taken (step reader Or) at else Bad at)))

unfoldable pub byte_taken : Reader → List ℕ → ℕ → ℕ → Progress
byte_taken reader word at byte =
    if is_word_byte byte then On reader (word ++ byte ∷ [])
    else (if byte == 43 then plus_ended reader word at
    else and_on (mark_taken byte at) (word_ended reader word at))

abbrev pub read_as : Option Expression → ℕ → Reading
read_as None at = BadAt at
read_as (Some e) at = Read e

-- the whole expression that ends at an offset
abbrev pub at_end : ℕ → Progress → Reading
at_end end (On reader word) = read_as (whole (settled reader)) end
at_end end (Bad at) = BadAt at

abbrev pub then_read : (Reader → List ℕ → Reading) → Progress → Reading
then_read next (On reader word) = next reader word
then_read next (Bad at) = BadAt at

abbrev pub read_from : Reader → List ℕ → ℕ → List ℕ → Reading
read_from reader word at [] = at_end at (word_ended reader word at)
read_from reader word at (byte ∷ bytes) =
    then_read (λ behind more. read_from behind more (at + 1) bytes) (byte_taken reader word at byte)

-- the reading of the text
unfoldable pub reading_in : List ℕ → Reading
reading_in text = read_from start [] 0 text

-- the result of parsing is the reading of the text
abbrev pub IsReading : List ℕ → Result Expression SpdxError → Type 0
IsReading text (Ok e) = reading_in text ≡ Read e
IsReading text (Err (error.Bad offset)) = reading_in text ≡ BadAt offset
IsReading text (Err error.Memory) = Unit {0}
