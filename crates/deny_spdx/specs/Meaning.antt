-- The meaning of the text of one requirement, as a function of the text.
use Rattle.std.specs.Prelude.{◌==◌, ◌&&◌, ℕ, Bool, not, if◌then◌else◌, List, [], ◌∷◌, length, map, filter, nat_lt}
use Rattle.std.specs.Prelude.{Option, Some, None, ◌≡◌, Result, Ok, Err}
use Rattle.std.specs.List.{list_all, slice_split}
use Rattle.deny_spdx.specs.declared.token.SpdxToken.{SpdxToken}
use Rattle.deny_spdx.specs.declared.token.SpdxToken.TheVariants.{Word, With}
use Rattle.deny_spdx.specs.declared.requirement.Requirement.{Requirement}
use Rattle.deny_spdx.specs.declared.error.SpdxError.{SpdxError}
use Rattle.deny_spdx.specs.declared.error.SpdxError.TheVariants.{Bad, Memory}
use Rattle.deny_spdx.specs.Tokens.{is_blank, is_word_byte, token_of}

-- a text with a blank after each '+', which ends a word
abbrev pub spaced : List ℕ → List ℕ
spaced [] = []
spaced (b ∷ bs) = if b == 43 then 43 ∷ 32 ∷ spaced bs else b ∷ spaced bs

-- the parts of a text between blanks, where a '+' ends its part
abbrev pub parts_of : List ℕ → List (List ℕ)
parts_of text = filter (λ part. not (length part == 0)) (slice_split is_blank (spaced text))

abbrev pub is_word : List ℕ → Bool
is_word part = nat_lt 0 (length part) && list_all is_word_byte part

-- a part without the '+' at its end, if it has one
abbrev pub without_plus : List ℕ → List ℕ
without_plus [] = []
without_plus (b ∷ []) = if b == 43 then [] else b ∷ []
without_plus (b ∷ c ∷ bs) = b ∷ without_plus (c ∷ bs)

-- the token that a part is; with '+' it is a word, whatever precedes it
abbrev pub part_token : List ℕ → Option SpdxToken
part_token part =
    if is_word part then Some (token_of part)
    else (if is_word (without_plus part) then Some (Word (without_plus part)) else None)

-- a word, or word WITH word
abbrev pub requirement_of : List (Option SpdxToken) → Option Requirement
requirement_of (Some (Word id) ∷ []) = Some (record { id = id; exception = None })
requirement_of (Some (Word id) ∷ Some With ∷ Some (Word exception) ∷ []) =
    Some (record { id = id; exception = Some exception })
requirement_of _ = None

-- the one requirement that the text is, without the '+' of its words
unfoldable pub requirement_in : List ℕ → Option Requirement
requirement_in text = requirement_of (map part_token (parts_of text))

-- the result is the meaning of the text, and bad where it has none
abbrev pub IsMeaning : List ℕ → Result Requirement SpdxError → Type 0
IsMeaning text (Ok r) = requirement_in text ≡ Some r
IsMeaning text (Err (Bad offset)) = requirement_in text ≡ None
IsMeaning text (Err Memory) = Unit {0}
