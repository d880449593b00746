-- The pieces of a pattern.
use Rattle.std.specs.Prelude.{ℕ, ◌+◌, ◌<◌, ◌≤◌, ◌≡◌, List, [], ◌∷◌, ◌++◌, length, Bool, true, false, IsTrue, ◌==◌, ◌&&◌}
use Rattle.std.specs.Prelude.{◌||◌, not}
use Rattle.std.specs.List.{list_all}
use Rattle.deny_globs.specs.declared.token.CharacterRange.{CharacterRange}
use Rattle.deny_globs.specs.declared.token.Token.TheVariants.{Character, AnyCharacter, OneOf, AnyText, LeadingFolders}
use Rattle.deny_globs.specs.declared.token.Token.TheVariants.{TrailingPath}
use Rattle.deny_globs.specs.declared.piece.Piece.{Piece}
use Rattle.deny_globs.specs.declared.piece.Piece.TheVariants.{Token, Middle, Open, Comma, Close}
use Rattle.deny_globs.specs.Characters.{slash, star, question_mark, backslash, open_bracket, close_bracket, dash, comma}
use Rattle.deny_globs.specs.Characters.{open_brace, close_brace, is_mark, is_plain, begins, begins_mark}

-- whether a character is a member of a class; a `]` is one only where it comes first
abbrev pub may_be_member : Bool → ℕ → Bool
may_be_member is_first c = is_first || not (c == close_bracket)

-- whether the characters after a member make a range of it: a `-` and a character that does not close the class
abbrev pub begins_range : List ℕ → Bool
begins_range [] = false
begins_range (c ∷ []) = false
begins_range (c ∷ last ∷ rest) = (c == dash) && not (last == close_bracket)

-- the characters are members of a class, from the first on or from a later one, followed by the rest
pub data AreMembers : Bool → List ℕ → List ℕ → List CharacterRange → Type 0 where
  no_more : {is_first : Bool} {behind : List ℕ} → AreMembers is_first [] behind []
  range : {is_first : Bool} {first last : ℕ} {cs behind : List ℕ} {ranges : List CharacterRange} →
      IsTrue (may_be_member is_first first) → IsTrue (not (last == close_bracket)) → first ≤ last
      → AreMembers false cs behind ranges →
      AreMembers is_first (first ∷ dash ∷ last ∷ cs) behind (record { first = first; last = last } ∷ ranges)
  one : {is_first : Bool} {c : ℕ} {cs behind : List ℕ} {ranges : List CharacterRange} →
      IsTrue (may_be_member is_first c) → begins_range (cs ++ behind) ≡ false → AreMembers false cs behind ranges →
      AreMembers is_first (c ∷ cs) behind (record { first = c; last = c } ∷ ranges)

-- the mark that negates a class, or none, and the rest
pub data IsMark : List ℕ → List ℕ → Bool → Type 0 where
  negates : {c : ℕ} {behind : List ℕ} → IsTrue (is_mark c) → IsMark (c ∷ []) behind true
  no_mark : {behind : List ℕ} → begins_mark behind ≡ false → IsMark [] behind false

-- whether a `/` before these last characters is `/**` at the end
abbrev pub is_trailing : List ℕ → Bool
is_trailing [] = false
is_trailing (a ∷ []) = false
is_trailing (a ∷ b ∷ []) = (a == star) && (b == star)
is_trailing (a ∷ b ∷ c ∷ rest) = false

-- whether a `/` before these characters begins `/**/`
abbrev pub is_middle : List ℕ → Bool
is_middle [] = false
is_middle (a ∷ []) = false
is_middle (a ∷ b ∷ []) = false
is_middle (a ∷ b ∷ c ∷ rest) = (a == star) && ((b == star) && (c == slash))

-- whether a run of this many `*` at this index, before these characters, is part of `**/` at the start
abbrev pub is_leading : ℕ → ℕ → List ℕ → Bool
is_leading at count behind = (at == 0) && ((count == 2) && begins slash behind)

-- characters of a pattern, the first with this number, are this piece, followed by the rest
pub data IsPiece : ℕ → List ℕ → List ℕ → Piece → Type 0 where
  question : {at : ℕ} {behind : List ℕ} → IsPiece at (question_mark ∷ []) behind (Token AnyCharacter)
  leading : {at : ℕ} {behind : List ℕ} → at ≡ 0 → IsPiece at (star ∷ star ∷ slash ∷ []) behind (Token LeadingFolders)
  stars : {at : ℕ} {cs behind : List ℕ} → IsTrue (list_all (λ c. c == star) cs) → 0 < length cs
      → begins star behind ≡ false → is_leading at (length cs) behind ≡ false → IsPiece at cs behind (Token AnyText)
  middle : {at : ℕ} {behind : List ℕ} → IsPiece at (slash ∷ star ∷ star ∷ slash ∷ []) behind Middle
  trailing : {at : ℕ} → IsPiece at (slash ∷ star ∷ star ∷ []) [] (Token TrailingPath)
  lone_slash : {at : ℕ} {behind : List ℕ} → is_trailing behind ≡ false → is_middle behind ≡ false
      → IsPiece at (slash ∷ []) behind (Token (Character slash))
  escaped : {at c : ℕ} {behind : List ℕ} → IsPiece at (backslash ∷ c ∷ []) behind (Token (Character c))
  class : {at : ℕ} {negated : Bool} {ranges : List CharacterRange} (mark members : List ℕ) {behind : List ℕ} →
      IsMark mark (members ++ close_bracket ∷ behind) negated → AreMembers true members (close_bracket ∷ behind) ranges
      → 0 < length members →
      IsPiece at (open_bracket ∷ (mark ++ (members ++ close_bracket ∷ []))) behind
      (Token (OneOf (record { negated = negated; ranges = ranges })))
  open_braces : {at : ℕ} {behind : List ℕ} → IsPiece at (open_brace ∷ []) behind (Open at)
  parting_comma : {at : ℕ} {behind : List ℕ} → IsPiece at (comma ∷ []) behind Comma
  close_braces : {at : ℕ} {behind : List ℕ} → IsPiece at (close_brace ∷ []) behind (Close at)
  itself : {at c : ℕ} {behind : List ℕ} → IsTrue (is_plain c) → IsTrue (not (c == slash))
      → IsPiece at (c ∷ []) behind (Token (Character c))

-- characters, the first with this number, are these pieces, followed by the rest
pub data Spells : ℕ → List ℕ → List ℕ → List Piece → Type 0 where
  nothing : {at : ℕ} {behind : List ℕ} → Spells at [] behind []
  next : {at : ℕ} {behind : List ℕ} {piece : Piece} {pieces : List Piece} (prefix more : List ℕ) →
      IsPiece at prefix (more ++ behind) piece → Spells (at + length prefix) more behind pieces
      → Spells at (prefix ++ more) behind (piece ∷ pieces)
