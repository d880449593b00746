-- Readers of keys.
use Rattle.std.specs.Prelude.{ℕ, zero, suc, ◌==◌, if◌then◌else◌, List, [], ◌∷◌, ◌++◌, drop, Some, None}
use Rattle.deny_base.specs.declared.span.Spanned.{Spanned}
use Rattle.deny_toml_grammar.specs.declared.parts.Key.{Key}
use Rattle.deny_toml_grammar.specs.Expression.{depth_limit}
use Rattle.deny_toml_grammar.specs.Lexical.{Read, dot, first, is_bare, split_while, skip_spaces, between}
use Rattle.deny_toml_grammar.specs.private.Reading.{◌>>=◌, read_map}
use Rattle.deny_toml_grammar.specs.Strings.{one_line}
use Rattle.deny_toml_grammar.specs.private.Strings.{starts_string}

-- the key of a string that was read
abbrev pub quoted_key : Spanned (List ℕ) → Key
quoted_key s = record { name = s.value; span = s.span }

-- a bare part of a key, and the text after it
abbrev pub bare_with : ℕ → List ℕ → List ℕ × List ℕ → Key × List ℕ
bare_with total text parts = (record { name = parts.0; span = between total text parts.1 }, parts.1)

abbrev pub bare_key : ℕ → List ℕ → Key × List ℕ
bare_key total text = bare_with total text (split_while is_bare text)

-- one part of a key, in a text of `total` bytes
unfoldable pub simple_key : ℕ → List ℕ → Read Key
simple_key total text =
    if starts_string text then read_map quoted_key (one_line total text)
    else if is_bare (first text) then Some (bare_key total text)
    else None

-- the rest of a key of at most n parts, after those found, and the spaces after it
unfoldable pub key_after : ℕ → ℕ → List Key → List ℕ → Read (List Key)
key_after zero total found text = None
key_after (suc n) total found text = do
  part ← simple_key total text
  let rest = skip_spaces part.1
  if first rest == dot then key_after n total (found ++ part.0 ∷ []) (skip_spaces (drop 1 rest)) else Some
      (found ++ part.0 ∷ [], rest)

-- a key and the spaces after it
abbrev pub key : ℕ → List ℕ → Read (List Key)
key total text = key_after depth_limit total [] text
