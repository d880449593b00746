-- Readers of values, in a text of `total` bytes.
use Rattle.std.specs.Prelude.{ℕ, zero, suc, ◌==◌, if◌then◌else◌, List, [], ◌∷◌, ◌++◌, length, drop, Option, Some, None}
use Rattle.std.specs.Prelude.{option_map, Result}
use Rattle.std.specs.Borrow.{Bor}
use Rattle.deny_toml_grammar.specs.declared.read_error.ReadError.{ReadError}
use Rattle.deny_base.specs.declared.span.Spanned.{Spanned}
use Rattle.deny_toml_grammar.specs.declared.parts.Key.{Key}
use Rattle.deny_toml_grammar.specs.declared.parts.Scalar.{Scalar}
use Rattle.deny_toml_grammar.specs.declared.expression.Written.{Written}
use Rattle.deny_toml_grammar.specs.declared.expression.Assignment.{Assignment}
use Rattle.deny_toml_grammar.specs.declared.expression.WrittenContent.{WrittenContent}
use Rattle.deny_toml_grammar.specs.declared.expression.WrittenContent.TheVariants as written
use Rattle.deny_toml_grammar.specs.Expression.{written_with, assignment_with}
use Rattle.deny_toml_grammar.specs.Lexical.{Read, comma, equals, left_bracket, right_bracket, left_brace, right_brace}
use Rattle.deny_toml_grammar.specs.Lexical.{first, skip_spaces, between}
use Rattle.deny_toml_grammar.specs.private.Lexical.{skip_blank}
use Rattle.deny_toml_grammar.specs.private.Reading.{◌>>=◌, read_map, GivesAs}
use Rattle.deny_toml_grammar.specs.Strings.{quoted}
use Rattle.deny_toml_grammar.specs.private.Strings.{starts_string}
use Rattle.deny_toml_grammar.specs.private.Unquoted.{unquoted}
use Rattle.deny_toml_grammar.specs.private.Keys.{key}

abbrev pub quoted_value : Spanned Scalar → Written
quoted_value s = written_with s.span (written.Scalar s.value)

-- the written value that reaches from `text` to the rest
abbrev pub written_from : ℕ → List ℕ → List ℕ → WrittenContent → Written
written_from total text rest content = written_with (between total text rest) content

abbrev pub whole : {A : Type 0} → (A → WrittenContent) → ℕ → List ℕ → A × List ℕ → Written × List ℕ
whole content total text p = (written_from total text p.1 (content p.0), p.1)

-- a value that contains no other values
unfoldable pub scalar : ℕ → List ℕ → Read Written
scalar total text =
    if starts_string text then read_map quoted_value (quoted total text)
    else option_map (whole written.Scalar total text) (unquoted text)

-- the text after an element of an array: past a comma, or at the closing bracket
unfoldable pub after_element : List ℕ → Option (List ℕ)
after_element text =
    let rest = skip_blank text in
    if first rest == comma then Some (drop 1 rest) else if first rest == right_bracket then Some rest else None

module _ (value : List ℕ → Read Written) where
  -- the rest of an array, of fewer than n elements, after those found
  unfoldable pub elements : ℕ → List Written → List ℕ → Read (List Written)
  elements zero found text = None
  elements (suc n) found text =
      let start = skip_blank text in
      if first start == right_bracket then Some (found, drop 1 start)
      else value start >>= (λ v. after_element v.1 >>= elements n (found ++ v.0 ∷ []))

  -- the value of a key, after the key
  unfoldable pub assigned : List Key → List ℕ → Read Assignment
  assigned path text =
      if first text == equals then read_map (assignment_with path) (value (skip_spaces (drop 1 text))) else None

  -- a key and its value
  unfoldable pub assignment : ℕ → List ℕ → Read Assignment
  assignment total text = key total text >>= (λ k. assigned k.0 k.1)

  -- the rest of an inline table that has a key, of at most n keys, after those found
  unfoldable pub members : ℕ → ℕ → List Assignment → List ℕ → Read (List Assignment)
  members zero total found text = None
  members (suc n) total found text = do
    member ← assignment total text
    let rest = skip_spaces member.1
    if first rest == comma then members n total (found ++ member.0 ∷ []) (skip_spaces (drop 1 rest))
        else if first rest == right_brace then Some (found ++ member.0 ∷ [], drop 1 rest)
        else None

  -- an inline table after its brace
  unfoldable pub inline_table : ℕ → List ℕ → Read (List Assignment)
  inline_table total text =
      let start = skip_spaces text in
      if first start == right_brace then Some ([], drop 1 start) else members (suc (length text)) total [] start

-- a value, with arrays and inline tables nested to at most this depth
unfoldable pub value : ℕ → ℕ → List ℕ → Read Written
value zero total text = scalar total text
value (suc depth) total text =
    if first text == left_bracket
    then option_map (whole written.Array total text) (elements (value depth total) (length text) [] (drop 1 text))
    else if first text == left_brace
    then option_map (whole written.InlineTable total text) (inline_table (value depth total) total (drop 1 text))
    else scalar total text

-- The result is the expected rest.
abbrev pub GivesRest : Result (Bor (List ℕ)) ReadError → Option (List ℕ) → Type 0
GivesRest r expected = GivesAs (λ rest. rest.now) r expected
