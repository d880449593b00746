-- A reading with one more piece, with the innermost open brace first.
use Rattle.std.specs.Prelude.{ℕ, ◌≡◌, ◌<◌, ◌⊎◌, List, [], ◌∷◌, ◌++◌, length, reverse, drop, Option, Some, None, nat_lt}
use Rattle.std.specs.Prelude.{if◌then◌else◌}
use Rattle.deny_globs.specs.declared.token.Token.{Token}
use Rattle.deny_globs.specs.declared.token.Token.TheVariants.{Character, AnyText, MiddleFolders, Alternatives}
use Rattle.deny_globs.specs.declared.piece.Piece.{Piece}
use Rattle.deny_globs.specs.declared.piece.Piece.TheVariants.{Token as Whole, Middle, Open, Comma, Close}
use Rattle.deny_globs.specs.declared.stop.Stop.{Stop}
use Rattle.deny_globs.specs.declared.stop.Stop.TheVariants.{Fault, Memory}
use Rattle.deny_globs.specs.declared.reading.OpenBrace.{OpenBrace}
use Rattle.deny_globs.specs.declared.reading.GlobReading.{GlobReading}
use Rattle.deny_globs.specs.Characters.{slash, comma}
use Rattle.deny_globs.specs.Faults.{FirstFault}
use Rattle.deny_globs.specs.private.Steps.{IsPieceOf, IsStop}
use Rattle.deny_globs.specs.Tree.{most_braces}

-- a reading with the innermost brace first
abbrev pub inner_first : GlobReading → GlobReading
inner_first reading = record { opened = reverse reading.opened; tokens = reading.tokens }

abbrev pub middle_of : List OpenBrace → List Token
middle_of [] = MiddleFolders ∷ []
middle_of (brace ∷ opened) = Character slash ∷ AnyText ∷ Character slash ∷ []

abbrev pub parted : List OpenBrace → List Token → GlobReading
parted [] tokens = record { opened = []; tokens = tokens ++ Character comma ∷ [] }
parted (brace ∷ opened) tokens = record
    { opened = record brace { alternatives = brace.alternatives ++ tokens ∷ [] } ∷ opened; tokens = [] }

abbrev pub closed : List OpenBrace → List Token → Option GlobReading
closed [] tokens = None
closed (brace ∷ opened) tokens = Some
    (record { opened = opened; tokens = brace.before ++ Alternatives (brace.alternatives ++ tokens ∷ []) ∷ [] })

-- the reading with one more piece, or none where the piece is a brace that is bad here
abbrev pub after_piece : GlobReading → Piece → Option GlobReading
after_piece reading (Whole token) = Some (record { opened = reading.opened; tokens = reading.tokens ++ token ∷ [] })
after_piece reading Middle = Some
    (record { opened = reading.opened; tokens = reading.tokens ++ middle_of reading.opened })
after_piece reading (Open at) =
    if nat_lt (length reading.opened) most_braces then Some
    (record {
      opened = record { at = at; before = reading.tokens; alternatives = [] } ∷ reading.opened;
      tokens = [];
    }) else None
after_piece reading Comma = Some (parted reading.opened reading.tokens)
after_piece reading (Close at) = closed reading.opened reading.tokens

-- the number of the character of a brace
abbrev pub brace_of : Piece → Option ℕ
brace_of (Open at) = Some at
brace_of (Close at) = Some at
brace_of (Whole token) = None
brace_of Middle = None
brace_of Comma = None

-- reading stops since the piece is a brace that is bad here, or memory ran out
abbrev pub StopsReading : GlobReading → Piece → Stop → Type 0
StopsReading reading piece (Fault i) = (after_piece reading piece ≡ None) × (brace_of piece ≡ Some i)
StopsReading reading piece Memory = Unit {0}

-- a fault at this character has this reason
abbrev pub StopsAt : ℕ → Type 0 → Stop → Type 0
StopsAt at why (Fault i) = (i ≡ at) × why
StopsAt at why Memory = Unit {0}

abbrev pub OpensAt : ℕ → GlobReading → GlobReading → Type 0
OpensAt at old new = (length old.opened < most_braces)
    × (new ≡ record {
      opened = old.opened ++ record { at = at; before = old.tokens; alternatives = [] } ∷ [];
      tokens = [];
    })

-- a comma: outside braces it is itself, and inside it ends an alternative of the innermost brace
pub data Parts : GlobReading → GlobReading → Type 0 where
  itself : {old new : GlobReading} → old.opened ≡ [] → new ≡ record old { tokens = old.tokens ++ Character comma ∷ [] }
      → Parts old new
  parts : {old new : GlobReading} (outer : List OpenBrace) (brace : OpenBrace) → old.opened ≡ outer ++ brace ∷ [] →
      new ≡ record {
        opened = outer ++ record brace { alternatives = brace.alternatives ++ old.tokens ∷ [] } ∷ [];
        tokens = [];
      } → Parts old new

-- A closing brace makes one token of the innermost brace.
pub record Closes (old new : GlobReading) : Type 0 where
  pub outer : List OpenBrace
  pub brace : OpenBrace
  pub was : old.opened ≡ outer ++ brace ∷ []
  pub now_is : new ≡ record
      { opened = outer; tokens = brace.before ++ Alternatives (brace.alternatives ++ old.tokens ∷ []) ∷ [] }

-- the number of the first of the braces, or this number
abbrev pub outermost_of : List OpenBrace → ℕ → ℕ
outermost_of [] at = at
outermost_of (brace ∷ opened) at = brace.at

-- a brace is open at the end, and this is the outermost
abbrev pub StopsEnd : List OpenBrace → Stop → Type 0
StopsEnd opened (Fault i) = (brace : OpenBrace) × (inner : List OpenBrace) × (opened ≡ brace ∷ inner) × (i ≡ brace.at)
StopsEnd opened Memory = Unit {0}

-- The reading has one more piece, of this many characters.
pub record ReadsOn (characters : List ℕ) (next size : ℕ) (old new : GlobReading) : Type 0 where
  pub piece : Piece
  pub is_piece : IsPieceOf next (drop next characters) size piece
  pub after : after_piece (inner_first old) piece ≡ Some (inner_first new)

-- The next piece is a brace that is bad here.
pub record IsBadBrace (characters : List ℕ) (next : ℕ) (old : GlobReading) (i : ℕ) : Type 0 where
  pub size : ℕ
  pub piece : Piece
  pub is_piece : IsPieceOf next (drop next characters) size piece
  pub after : after_piece (inner_first old) piece ≡ None
  pub brace : brace_of piece ≡ Some i

abbrev pub StopsNext : List ℕ → ℕ → GlobReading → Stop → Type 0
StopsNext characters next old (Fault i) = IsStop next (outermost_of old.opened next) (drop next characters) i ⊎
    IsBadBrace characters next old i
StopsNext characters next old Memory = Unit {0}

-- a fault is the first bad character
abbrev pub StopsGlob : List ℕ → Stop → Type 0
StopsGlob characters (Fault i) = FirstFault characters i
StopsGlob characters Memory = Unit {0}
