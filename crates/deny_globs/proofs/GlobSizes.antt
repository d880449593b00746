-- A glob has no more states than characters.
use Rattle.std.proofs.Common.{◌≡◌, ℕ, ◌+◌, ◌≤◌, List, [], ◌∷◌, ◌++◌, length, arith, length-append}
use Rattle.std.specs.List.{sum_by}
use Rattle.std.proofs.lemmas.List.Sums.{sum_by-cons}
use Rattle.deny_globs.specs.declared.token.Token.{Token}
use Rattle.deny_globs.specs.declared.token.Token.TheVariants.{Character, AnyText, MiddleFolders, Alternatives}
use Rattle.deny_globs.specs.declared.piece.Piece.{Piece}
use Rattle.deny_globs.specs.declared.piece.Piece.TheVariants.{Token as Whole, Middle, Open, Comma, Close}
use Rattle.deny_globs.specs.Characters.{slash, comma}
use Rattle.deny_globs.specs.Pieces as pieces
use Rattle.deny_globs.specs.Pieces.{IsPiece, Spells}
use Rattle.deny_globs.specs.private.Sizes.{states_in, states_of}
use Rattle.deny_globs.specs.Tree.{IsGlob, AreTokens, AreAlternatives, nothing, token, middle, middle_inside}
use Rattle.deny_globs.specs.Tree.{comma_outside, braces, last, more}
use Rattle.deny_globs.proofs.SizeLemmas.{size_character, size_any_character, size_class, size_any_text, size_leading}
use Rattle.deny_globs.proofs.SizeLemmas.{size_trailing, size_middle, size_alternatives, size_cons}

-- the number of states for a piece
piece_states : Piece → ℕ
piece_states (Whole t) = states_in t
piece_states Middle = 4
piece_states (Open at) = 1
piece_states Comma = 1
piece_states (Close at) = 1

pieces_states : List Piece → ℕ
pieces_states [] = 0
pieces_states (piece ∷ others) = piece_states piece + pieces_states others

piece_fits : {at : ℕ} {cs behind : List ℕ} {piece : Piece} → IsPiece at cs behind piece → piece_states piece ≤ length cs
unfolding piece_states
piece_fits pieces.question = omega (arith, size_any_character)
piece_fits (pieces.leading e) = omega (arith, size_leading)
piece_fits (pieces.stars all some next not) = omega (arith, size_any_text, some)
piece_fits pieces.middle = omega arith
piece_fits pieces.trailing = omega (arith, size_trailing)
piece_fits (pieces.lone_slash a b) = omega (arith, size_character slash)
piece_fits (pieces.escaped {c = c}) = omega (arith, size_character c)
piece_fits (pieces.class {negated = negated} {ranges = ranges} mark members m a some) = omega (
  arith,
  size_class (record { negated = negated; ranges = ranges }),
)
piece_fits pieces.open_braces = omega arith
piece_fits pieces.parting_comma = omega arith
piece_fits pieces.close_braces = omega arith
piece_fits (pieces.itself {c = c} a b) = omega (arith, size_character c)

spelled_states : {at : ℕ} {cs behind : List ℕ} {ps : List Piece} → Spells at cs behind ps → pieces_states ps ≤ length cs
unfolding pieces_states
spelled_states pieces.nothing = omega arith
spelled_states (pieces.next prefix rest p s) = omega (arith, piece_fits p, spelled_states s, length-append prefix rest)

pieces_append : (ps qs : List Piece) → pieces_states (ps ++ qs) ≡ pieces_states ps + pieces_states qs
unfolding pieces_states
pieces_append [] qs = omega arith
pieces_append (p ∷ ps) qs = omega (arith, pieces_append ps qs)

mutual
  unfolding pieces_states piece_states

  tokens_states : {depth : ℕ} {ps : List Piece} {tokens : List Token} → AreTokens depth ps tokens
      → states_of tokens ≤ pieces_states ps
  tokens_states nothing = omega arith
  tokens_states (token {token = t} {tokens = ts} more_tokens) = omega (arith, size_cons t ts, tokens_states more_tokens)
  tokens_states (middle {tokens = ts} more_tokens) = omega (
    arith,
    size_cons MiddleFolders ts,
    size_middle,
    tokens_states more_tokens,
  )
  tokens_states (middle_inside {tokens = ts} more_tokens) =
      omega (
        arith,
        size_cons (Character slash) (AnyText ∷ Character slash ∷ ts),
        size_cons AnyText (Character slash ∷ ts),
        size_cons (Character slash) ts,
        size_character slash,
        size_any_text,
        tokens_states more_tokens,
      )
  tokens_states (comma_outside {tokens = ts} more_tokens) = omega (
    arith,
    size_cons (Character comma) ts,
    size_character comma,
    tokens_states more_tokens,
  )
  tokens_states (braces {from = from} {tokens = ts} {alternatives = alternatives} inside behind to less own more_tokens)
      =
      omega (
        arith,
        size_cons (Alternatives alternatives) ts,
        size_alternatives alternatives,
        alternatives_states own,
        tokens_states more_tokens,
        pieces_append inside (Close to ∷ behind),
      )

  alternatives_states : {depth : ℕ} {ps : List Piece} {alternatives : List (List Token)}
      → AreAlternatives depth ps alternatives → sum_by (λ ts. states_of ts + 1) alternatives ≤ pieces_states ps + 1
  alternatives_states (last {tokens = ts} own) = omega (
    arith,
    sum_by-cons (λ us. states_of us + 1) ts [],
    tokens_states own,
  )
  alternatives_states (more {tokens = ts} {alternatives = others} ps behind own rest) =
      omega (
        arith,
        sum_by-cons (λ us. states_of us + 1) ts others,
        tokens_states own,
        alternatives_states rest,
        pieces_append ps (Comma ∷ behind),
      )

pub glob_states : {characters : List ℕ} {tokens : List Token} → IsGlob characters tokens
    → states_of tokens ≤ length characters
glob_states g = omega (arith, tokens_states g.tree, spelled_states g.spelled)
