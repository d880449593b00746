-- The first fault of a text that is no glob.
use Rattle.std.specs.Prelude.{ℕ, ◌+◌, ◌<◌, ◌≡◌, List, [], ◌∷◌, ◌++◌, length, take, Bool, true, false, IsTrue, ◌==◌, not}
use Rattle.std.specs.Prelude.{nat_lt, Option, Some, None, encode_utf8_all, if◌then◌else◌}
use Rattle.std.specs.Str.{chars}
use Rattle.deny_globs.specs.declared.token.CharacterRange.{CharacterRange}
use Rattle.deny_globs.specs.declared.piece.Piece.{Piece}
use Rattle.deny_globs.specs.declared.piece.Piece.TheVariants.{Token, Middle, Open, Comma, Close}
use Rattle.deny_globs.specs.Characters.{backslash, open_bracket, close_bracket, dash, open_brace, close_brace}
use Rattle.deny_globs.specs.Pieces.{may_be_member, AreMembers, IsMark, Spells}
use Rattle.deny_globs.specs.Tree.{most_braces}

-- the numbers of the `{` that are still open after the pieces, the innermost first; none where a brace is wrong
abbrev pub open_behind : List ℕ → List Piece → Option (List ℕ)
open_behind opened [] = Some opened
open_behind opened (Open at ∷ pieces) = if nat_lt (length opened) most_braces then open_behind (at ∷ opened) pieces
    else None
open_behind [] (Close at ∷ pieces) = None
open_behind (last ∷ opened) (Close at ∷ pieces) = open_behind opened pieces
open_behind opened (Token token ∷ pieces) = open_behind opened pieces
open_behind opened (Middle ∷ pieces) = open_behind opened pieces
open_behind opened (Comma ∷ pieces) = open_behind opened pieces

-- the first of the opened, or this number where none is open
abbrev pub outermost : List ℕ → ℕ → ℕ
outermost [] at = at
outermost (last ∷ opened) at = outermost opened last

abbrev pub is_empty : List ℕ → Bool
is_empty [] = true
is_empty (c ∷ cs) = false

-- a range whose ends fall begins this many characters into the class, after members that are good
pub data FallsAt : List ℕ → ℕ → Type 0 where
  falls : {ranges : List CharacterRange} (members behind : List ℕ) (first last : ℕ) →
      AreMembers true members (first ∷ dash ∷ last ∷ behind) ranges → IsTrue (may_be_member (is_empty members) first)
      → IsTrue (not (last == close_bracket)) → last < first →
      FallsAt (members ++ first ∷ dash ∷ last ∷ behind) (length members)

-- The text up to here spells pieces without a fault, and the characters after them remain.
pub record IsReadTo (characters before behind opened : List ℕ) : Type 0 where
  pub pieces : List Piece
  pub whole : characters ≡ before ++ behind
  pub spelled : Spells 0 before behind pieces
  pub braces : open_behind [] pieces ≡ Some opened

-- the number of the first bad character
pub data FirstFault : List ℕ → ℕ → Type 0 where
  unopened : {characters : List ℕ} (before behind : List ℕ) → IsReadTo characters before (close_brace ∷ behind) []
      → FirstFault characters (length before)
  too_deep : {characters : List ℕ} (before behind opened : List ℕ)
      → IsReadTo characters before (open_brace ∷ behind) opened → length opened ≡ most_braces
      → FirstFault characters (length before)
  nothing_escaped : {characters : List ℕ} (before opened : List ℕ) → IsReadTo characters before (backslash ∷ []) opened
      → FirstFault characters (length before)
  falling_range : {characters : List ℕ} {negated : Bool} (before mark body opened : List ℕ) (into : ℕ)
      → IsReadTo characters before (open_bracket ∷ (mark ++ body)) opened →
      IsMark mark body negated → FallsAt body into → FirstFault characters (length before + 1 + length mark + into)
  -- nothing else is bad: the first class or brace that is not closed
  unclosed_class : {characters : List ℕ} {negated : Bool} {ranges : List CharacterRange}
      (before mark members opened : List ℕ) → IsReadTo characters before (open_bracket ∷ (mark ++ members)) opened →
      IsMark mark members negated → AreMembers true members [] ranges
      → FirstFault characters (outermost opened (length before))
  unclosed_brace : {characters : List ℕ} (last : ℕ) (opened : List ℕ)
      → IsReadTo characters characters [] (last ∷ opened) → FirstFault characters (outermost opened last)

-- The first bad character of the text begins at this byte.
pub record IsBadAt (text : List ℕ) (byte : ℕ) : Type 0 where
  pub character : ℕ
  pub fault : FirstFault (chars text) character
  pub offset : byte ≡ length (encode_utf8_all (take character (chars text)))
