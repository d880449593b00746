-- The number of states of each token.
use Rattle.std.proofs.Common.{◌≡◌, ℕ, ◌+◌, List, [], ◌∷◌, map, refl, sym, ap, ◌∙◌, arith}
use Rattle.std.specs.Prelude.{sum}
use Rattle.std.specs.List.{sum_by}
use Rattle.std.proofs.lemmas.List.Sums.{sum-map, sum_by-cons}
use Rattle.deny_globs.specs.declared.token.CharacterClass.{CharacterClass}
use Rattle.deny_globs.specs.declared.token.Token.{Token, fold-roll-Token}
use Rattle.deny_globs.specs.declared.token.Token.TheVariants.{Character, AnyCharacter, OneOf, AnyText, LeadingFolders}
use Rattle.deny_globs.specs.declared.token.Token.TheVariants.{TrailingPath, MiddleFolders, Alternatives}
use Rattle.deny_globs.specs.declared.token.Token.TheVariants.{rolls-Character, rolls-AnyCharacter, rolls-OneOf}
use Rattle.deny_globs.specs.declared.token.Token.TheVariants.{rolls-AnyText, rolls-LeadingFolders, rolls-TrailingPath}
use Rattle.deny_globs.specs.declared.token.Token.TheVariants.{rolls-MiddleFolders, rolls-Alternatives}
use Rattle.deny_globs.specs.declared.token.Token.TheOpen as open_token
use Rattle.deny_globs.specs.private.Sizes.{states_step, states_in, states_of, states_of_all}

pub size_character : (c : ℕ) → states_in (Character c) ≡ 1
size_character c = ap states_in (sym (rolls-Character c)) ∙ fold-roll-Token ℕ states_step (open_token.Character c)

pub size_any_character : states_in AnyCharacter ≡ 1
size_any_character = ap states_in (sym rolls-AnyCharacter) ∙ fold-roll-Token ℕ states_step open_token.AnyCharacter

pub size_class : (class : CharacterClass) → states_in (OneOf class) ≡ 1
size_class class = ap states_in (sym (rolls-OneOf class)) ∙ fold-roll-Token ℕ states_step (open_token.OneOf class)

pub size_any_text : states_in AnyText ≡ 1
size_any_text = ap states_in (sym rolls-AnyText) ∙ fold-roll-Token ℕ states_step open_token.AnyText

pub size_leading : states_in LeadingFolders ≡ 3
size_leading = ap states_in (sym rolls-LeadingFolders) ∙ fold-roll-Token ℕ states_step open_token.LeadingFolders

pub size_trailing : states_in TrailingPath ≡ 2
size_trailing = ap states_in (sym rolls-TrailingPath) ∙ fold-roll-Token ℕ states_step open_token.TrailingPath

pub size_middle : states_in MiddleFolders ≡ 4
size_middle = ap states_in (sym rolls-MiddleFolders) ∙ fold-roll-Token ℕ states_step open_token.MiddleFolders

sizes_mapped : (alternatives : List (List Token))
    → sum_by (λ sizes. sum sizes + 1) (map (map states_in) alternatives)
    ≡ sum_by (λ tokens. states_of tokens + 1) alternatives
sizes_mapped [] = refl
sizes_mapped (tokens ∷ others) = omega (
  arith,
  sum_by-cons (λ sizes. sum sizes + 1) (map states_in tokens) (map (map states_in) others),
  sum_by-cons (λ ts. states_of ts + 1) tokens others,
  sum-map states_in tokens,
  sizes_mapped others,
)

pub size_alternatives : (alternatives : List (List Token))
    → states_in (Alternatives alternatives) ≡ states_of_all alternatives
size_alternatives alternatives =
    ap states_in (sym (rolls-Alternatives alternatives)) ∙
    (fold-roll-Token ℕ states_step (open_token.Alternatives alternatives) ∙ ap (λ n. n + 1) (sizes_mapped alternatives))

pub size_cons : (token : Token) (tokens : List Token) → states_of (token ∷ tokens) ≡ states_in token + states_of tokens
size_cons token tokens = sum_by-cons states_in token tokens

pub size_one : (token : Token) → states_of (token ∷ []) ≡ states_in token
size_one token = omega arith
