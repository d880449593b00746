-- The promises of the functions that read a pattern.
use Rattle.std.specs.Prelude.{ℕ, ◌+◌, ◌<◌, ◌≤◌, ◌≡◌, ◌⊎◌, List, [], ◌∷◌, ◌++◌, length, take, drop, IsTrue, ◌==◌, not}
use Rattle.std.specs.Prelude.{Bool, true, false}
use Rattle.deny_globs.specs.declared.token.CharacterRange.{CharacterRange}
use Rattle.deny_globs.specs.declared.token.Token.TheVariants.{OneOf}
use Rattle.deny_globs.specs.declared.piece.Piece.{Piece}
use Rattle.deny_globs.specs.declared.piece.Piece.TheVariants.{Token}
use Rattle.deny_globs.specs.declared.stop.Stop.{Stop}
use Rattle.deny_globs.specs.declared.stop.Stop.TheVariants.{Fault, Memory}
use Rattle.deny_globs.specs.Characters.{backslash, open_bracket, close_bracket, dash, begins}
use Rattle.deny_globs.specs.Pieces.{begins_range, AreMembers, IsMark, IsPiece}
use Rattle.deny_globs.specs.Faults.{FallsAt}

-- one more member, of this many characters
pub data AddsMember : List ℕ → ℕ → List CharacterRange → List CharacterRange → Type 0 where
  adds_range : {rest behind : List ℕ} {first last size : ℕ} {old new : List CharacterRange}
      → rest ≡ first ∷ dash ∷ last ∷ behind → IsTrue (not (last == close_bracket)) → first ≤ last → size ≡ 3 →
      new ≡ old ++ record { first = first; last = last } ∷ [] → AddsMember rest size old new
  adds_one : {rest behind : List ℕ} {c size : ℕ} {old new : List CharacterRange} → rest ≡ c ∷ behind
      → begins_range behind ≡ false → size ≡ 1 →
      new ≡ old ++ record { first = c; last = c } ∷ [] → AddsMember rest size old new

-- The rest begins with a range whose ends fall.
pub record IsFalling (rest : List ℕ) : Type 0 where
  pub first : ℕ
  pub last : ℕ
  pub behind : List ℕ
  pub whole : rest ≡ first ∷ dash ∷ last ∷ behind
  pub is_last : IsTrue (not (last == close_bracket))
  pub falls : last < first

abbrev pub StopsMember : ℕ → List ℕ → Stop → Type 0
StopsMember at rest (Fault i) = (i ≡ at) × IsFalling rest
StopsMember at rest Memory = Unit {0}

-- the class closes after this many characters, or a member follows them
abbrev pub ClosesAt : List ℕ → ℕ → Type 0
ClosesAt body next = (0 < next) × IsTrue (begins close_bracket (drop next body))

abbrev pub GoesOnAt : List ℕ → ℕ → Type 0
GoesOnAt body next = (next ≡ 0) ⊎ (begins close_bracket (drop next body) ≡ false)

abbrev pub piece_of_class : Bool → List CharacterRange → Piece
piece_of_class negated ranges = Token (OneOf (record { negated = negated; ranges = ranges }))

-- This many characters are the members, and a `]` follows them.
pub record IsClosedClass (body : List ℕ) (size : ℕ) (ranges : List CharacterRange) : Type 0 where
  pub some : 0 < size
  pub within : size < length body
  pub members : AreMembers true (take size body) (drop size body) ranges
  pub closed : IsTrue (begins close_bracket (drop size body))

-- The members reach to the end.
pub record IsUnclosed (body : List ℕ) : Type 0 where
  pub ranges : List CharacterRange
  pub members : AreMembers true body [] ranges

abbrev pub StopsMembers : ℕ → ℕ → List ℕ → Stop → Type 0
StopsMembers at unclosed body (Fault i) = ((into : ℕ) × FallsAt body into × (i ≡ at + into)) ⊎
    (IsUnclosed body × (i ≡ unclosed))
StopsMembers at unclosed body Memory = Unit {0}

-- This many characters are the piece.
pub record IsPieceOf (at : ℕ) (rest : List ℕ) (size : ℕ) (piece : Piece) : Type 0 where
  pub some : 0 < size
  pub within : size ≤ length rest
  pub is_piece : IsPiece at (take size rest) (drop size rest) piece

-- no piece can be read
pub data IsStop (at unclosed : ℕ) : List ℕ → ℕ → Type 0 where
  escapes_nothing : IsStop at unclosed (backslash ∷ []) at
  has_falling_range : {negated : Bool} (mark body : List ℕ) (into : ℕ) → IsMark mark body negated → FallsAt body into
      → IsStop at unclosed (open_bracket ∷ (mark ++ body)) (at + 1 + length mark + into)
  is_unclosed : {negated : Bool} (mark body : List ℕ) → IsMark mark body negated → IsUnclosed body
      → IsStop at unclosed (open_bracket ∷ (mark ++ body)) unclosed

abbrev pub StopsPiece : ℕ → ℕ → List ℕ → Stop → Type 0
StopsPiece at unclosed rest (Fault i) = IsStop at unclosed rest i
StopsPiece at unclosed rest Memory = Unit {0}
