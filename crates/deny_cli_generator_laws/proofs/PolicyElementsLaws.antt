-- A list of texts in quotes is an array of the grammar.
use Rattle.std.proofs.Common.{◌≡◌, ◌++◌, ◌+◌, ◌∷◌, [], ℕ, List, true, false, arith, length, refl, subst}
use Rattle.std.proofs.lemmas.Bool.{and_parts}
use Rattle.std.specs.List.{AllByRecursion, list_all}
use Rattle.deny_toml_grammar.specs.declared.parts.Scalar.TheVariants.{Text}
use Rattle.deny_toml_grammar.specs.Expression.{span_of}
use Rattle.deny_toml_grammar.specs.Grammar.{IsElements, IsValue}
use Rattle.deny_toml_grammar.specs.Grammar as grammar
use Rattle.deny_toml_grammar.specs.GrammarStrings.{IsBlank, IsContent}
use Rattle.deny_toml_grammar.specs.GrammarStrings as strings
use Rattle.deny_toml_grammar.specs.Lexical.{is_plain}
use Rattle.deny_cli_generator_laws.proofs.PolicyElements.{after_element, elements_text, in_quotes, text_at, texts_from}

-- each byte of a text stands for itself between quotes
abbrev pub IsPlain : List ℕ → Type 0
IsPlain text = list_all (is_plain 34 false) text ≡ true

-- each byte of these texts stands for itself between quotes
abbrev pub ArePlain : List (List ℕ) → Type 0
ArePlain texts = AllByRecursion IsPlain texts

content-plain : (before : ℕ) (text : List ℕ) → IsPlain text → IsContent 34 false before text text
content-plain before [] plain = strings.end before
content-plain before (c ∷ cs) plain =
    let parts = and_parts (is_plain 34 false c) (list_all (is_plain 34 false) cs) plain in
    strings.plain before c cs cs parts.0 (content-plain 0 cs parts.1)

pub value-text : (depth at : ℕ) (text : List ℕ) → IsPlain text → IsValue depth at (in_quotes text) (text_at at text)
value-text depth at text plain =
    grammar.text depth at (in_quotes text) (Text text) (span_of (at + 1) (length text))
    (strings.one_line (in_quotes text) text (span_of (at + 1) (length text))
    (strings.quoted 34 text text refl (content-plain 0 text plain)))

one_space : IsBlank true (32 ∷ [])
one_space = strings.space 32 [] refl strings.none

-- the elements from one on, which is behind blanks
elements-from : (depth at : ℕ) (blank text : List ℕ) (texts : List (List ℕ)) → IsBlank true blank → IsPlain text
    → ArePlain texts
    → IsElements depth at (blank ++ (in_quotes text ++ after_element texts))
    (texts_from (at + length blank) (text ∷ texts))
elements-from depth at blank text [] is_blank plain all =
    grammar.last_element depth at blank (in_quotes text) [] (text_at (at + length blank) text) is_blank
    (value-text depth (at + length blank) text plain) strings.none
elements-from depth at blank text (next ∷ texts) is_blank plain all =
    let here = at + length blank + length (in_quotes text) in
    let offset : here + 0 + 1 + 1 ≡ here + 2 = omega arith in
    let rest = 32 ∷ (in_quotes next ++ after_element texts) in
    grammar.more_elements depth at blank (in_quotes text) [] rest (text_at (at + length blank) text)
    (texts_from (here + 2) (next ∷ texts)) is_blank (value-text depth (at + length blank) text plain) strings.none
    (subst (λ p. IsElements depth (here + 0 + 1) rest (texts_from p (next ∷ texts))) offset
    (elements-from depth (here + 0 + 1) (32 ∷ []) next texts one_space all.0 all.1))

pub elements-texts : (depth at : ℕ) (texts : List (List ℕ)) → ArePlain texts
    → IsElements depth at (elements_text texts) (texts_from at texts)
elements-texts depth at [] all = grammar.closed depth at [] strings.none
elements-texts depth at (text ∷ texts) all =
    let offset : at + 0 ≡ at = omega arith in
    subst (λ p. IsElements depth at (in_quotes text ++ after_element texts) (texts_from p (text ∷ texts))) offset
    (elements-from depth at [] text texts strings.none all.0 all.1)
