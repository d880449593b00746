-- A list of texts in quotes, with their offsets.
use Rattle.std.specs.Prelude.{◌++◌, ◌+◌, ◌∷◌, [], ℕ, List, length}
use Rattle.deny_toml_grammar.specs.declared.expression.Written.{Written}
use Rattle.deny_toml_grammar.specs.declared.expression.WrittenContent.TheVariants as written
use Rattle.deny_toml_grammar.specs.declared.parts.Scalar.TheVariants.{Text}
use Rattle.deny_toml_grammar.specs.Expression.{span_of, written_with}

-- a text in quotes
abbrev pub in_quotes : List ℕ → List ℕ
in_quotes text = 34 ∷ (text ++ 34 ∷ [])

-- the text behind an element, up to the bracket that closes the list
abbrev pub after_element : List (List ℕ) → List ℕ
after_element [] = 93 ∷ []
after_element (text ∷ texts) = 44 ∷ (32 ∷ (in_quotes text ++ after_element texts))

-- the text of the elements, with the closing bracket
abbrev pub elements_text : List (List ℕ) → List ℕ
elements_text [] = 93 ∷ []
elements_text (text ∷ texts) = in_quotes text ++ after_element texts

-- a text whose quote is at an offset
abbrev pub text_at : ℕ → List ℕ → Written
text_at at text = written_with (span_of (at + 1) (length text)) (written.Scalar (Text text))

-- the elements of a list from an offset on
abbrev pub texts_from : ℕ → List (List ℕ) → List Written
texts_from at [] = []
texts_from at (text ∷ texts) = text_at at text ∷ texts_from (at + length (in_quotes text) + 2) texts
