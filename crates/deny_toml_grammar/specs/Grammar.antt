-- The grammar of TOML: which bytes write which expressions, with the span of each key and value.
use Rattle.std.specs.Prelude.{ℕ, suc, ◌+◌, ◌≡◌, true, false, List, [], ◌∷◌, ◌++◌, length}
use Rattle.std.specs.List.{list_all}
use Rattle.deny_base.specs.declared.span.Span.{Span}
use Rattle.deny_toml_grammar.specs.declared.parts.Key.{Key}
use Rattle.deny_toml_grammar.specs.declared.parts.Scalar.{Scalar}
use Rattle.deny_toml_grammar.specs.declared.expression.Written.{Written}
use Rattle.deny_toml_grammar.specs.declared.expression.WrittenContent.TheVariants as written
use Rattle.deny_toml_grammar.specs.declared.expression.Assignment.{Assignment}
use Rattle.deny_toml_grammar.specs.declared.expression.TomlExpression.{TomlExpression}
use Rattle.deny_toml_grammar.specs.declared.expression.TomlExpression.TheVariants as expression
use Rattle.deny_toml_grammar.specs.Expression.{span_of}
use Rattle.deny_toml_grammar.specs.Expression.{written_with, assignment_with, depth_limit, header_with}
use Rattle.deny_toml_grammar.specs.Lexical.{is_bare, is_comment_byte}
use Rattle.deny_toml_grammar.specs.GrammarScalars.{IsScalar}
use Rattle.deny_toml_grammar.specs.GrammarStrings.{AreSpaces, IsNewline, IsBlank, IsOneLine, IsText}

-- one part of a key
pub data IsPart (at : ℕ) : List ℕ → Key → Type 0 where
  bare : (c : ℕ) (cs : List ℕ) → list_all is_bare (c ∷ cs) ≡ true
      → IsPart at (c ∷ cs) (record { name = c ∷ cs; span = span_of at (length (c ∷ cs)) })
  quoted : (cs name : List ℕ) (span : Span) → IsOneLine at cs name span
      → IsPart at cs (record { name = name; span = span })

-- a key of at most this many parts, with dots between them
pub data IsKey : ℕ → ℕ → List ℕ → List Key → Type 0 where
  last : (left at : ℕ) (cs : List ℕ) (part : Key) → IsPart at cs part → IsKey (suc left) at cs (part ∷ [])
  dotted : (left at : ℕ) (cs spaces more rest : List ℕ) (part : Key) (path : List Key) → IsPart at cs part
      → AreSpaces spaces → AreSpaces more
      → IsKey left (at + length cs + length spaces + 1 + length more) rest path
      → IsKey (suc left) at (cs ++ (spaces ++ 46 ∷ (more ++ rest))) (part ∷ path)

mutual
  -- a value at an offset, with arrays and inline tables nested to at most this depth
  pub data IsValue : ℕ → ℕ → List ℕ → Written → Type 0 where
    text : (depth at : ℕ) (cs : List ℕ) (value : Scalar) (span : Span) → IsText at cs value span
        → IsValue depth at cs (written_with span (written.Scalar value))
    token : (depth at : ℕ) (cs : List ℕ) (value : Scalar) → IsScalar cs value
        → IsValue depth at cs (written_with (span_of at (length cs)) (written.Scalar value))
    array : (depth at : ℕ) (cs : List ℕ) (elements : List Written) → IsElements depth (at + 1) cs elements
        → IsValue (suc depth) at (91 ∷ cs) (written_with (span_of at (length (91 ∷ cs))) (written.Array elements))
    inline_table : (depth at : ℕ) (spaces cs : List ℕ) (members : List Assignment) → AreSpaces spaces
        → IsMembers depth (at + 1 + length spaces) cs members
        → IsValue (suc depth) at (123 ∷ (spaces ++ cs)) (written_with (span_of at (length (123 ∷ (spaces ++ cs))))
        (written.InlineTable members))
    empty_table : (depth at : ℕ) (spaces : List ℕ) → AreSpaces spaces
        → IsValue (suc depth) at (123 ∷ (spaces ++ 125 ∷ []))
        (written_with (span_of at (length (123 ∷ (spaces ++ 125 ∷ [])))) (written.InlineTable []))

  -- the elements of an array, from after its opening bracket to its closing one
  pub data IsElements : ℕ → ℕ → List ℕ → List Written → Type 0 where
    closed : (depth at : ℕ) (blank : List ℕ) → IsBlank true blank → IsElements depth at (blank ++ 93 ∷ []) []
    last_element : (depth at : ℕ) (blank cs more : List ℕ) (value : Written) → IsBlank true blank
        → IsValue depth (at + length blank) cs value → IsBlank true more
        → IsElements depth at (blank ++ (cs ++ (more ++ 93 ∷ []))) (value ∷ [])
    more_elements : (depth at : ℕ) (blank cs after rest : List ℕ) (value : Written) (values : List Written)
        → IsBlank true blank
        → IsValue depth (at + length blank) cs value → IsBlank true after
        → IsElements depth (at + length blank + length cs + length after + 1) rest values
        → IsElements depth at (blank ++ (cs ++ (after ++ 44 ∷ rest))) (value ∷ values)

  -- the keys of an inline table that has one, and its closing brace
  pub data IsMembers : ℕ → ℕ → List ℕ → List Assignment → Type 0 where
    last_member : (depth at : ℕ) (cs spaces : List ℕ) (member : Assignment) → IsAssignment depth at cs member
        → AreSpaces spaces
        → IsMembers depth at (cs ++ (spaces ++ 125 ∷ [])) (member ∷ [])
    more_members : (depth at : ℕ) (cs spaces after rest : List ℕ) (member : Assignment) (members : List Assignment)
        → IsAssignment depth at cs member
        → AreSpaces spaces → AreSpaces after → IsMembers depth (at + length cs + length spaces + 1 + length after) rest
        members
        → IsMembers depth at (cs ++ (spaces ++ 44 ∷ (after ++ rest))) (member ∷ members)

  -- a key and its value
  pub data IsAssignment : ℕ → ℕ → List ℕ → Assignment → Type 0 where
    assigned : (depth at : ℕ) (key spaces after cs : List ℕ) (path : List Key) (value : Written)
        → IsKey depth_limit at key path → AreSpaces spaces
        → AreSpaces after → IsValue depth (at + length key + length spaces + 1 + length after) cs value
        → IsAssignment depth at (key ++ (spaces ++ 61 ∷ (after ++ cs))) (assignment_with path value)

-- a header, or a key and its value
pub data IsExpression (at : ℕ) : List ℕ → TomlExpression → Type 0 where
  table : (spaces cs after : List ℕ) (path : List Key) → AreSpaces spaces
      → IsKey depth_limit (at + 1 + length spaces) cs path → AreSpaces after
      → IsExpression at (91 ∷ (spaces ++ (cs ++ (after ++ 93 ∷ [])))) (expression.Header (header_with false path))
  array_of_tables : (spaces cs after : List ℕ) (path : List Key) → AreSpaces spaces
      → IsKey depth_limit (at + 2 + length spaces) cs path → AreSpaces after
      → IsExpression at (91 ∷ (91 ∷ (spaces ++ (cs ++ (after ++ 93 ∷ (93 ∷ []))))))
      (expression.Header (header_with true path))
  assignment : (cs : List ℕ) (a : Assignment) → IsAssignment depth_limit at cs a
      → IsExpression at cs (expression.Assignment a)

-- nothing, or a comment
pub data IsComment : List ℕ → Type 0 where
  none : IsComment []
  comment : (body : List ℕ) → list_all is_comment_byte body ≡ true → IsComment (35 ∷ body)

-- a line without its line end, and its expressions, of which there is at most one
pub data IsLine (at : ℕ) : List ℕ → List TomlExpression → Type 0 where
  blank : (spaces comment : List ℕ) → AreSpaces spaces → IsComment comment → IsLine at (spaces ++ comment) []
  says : (spaces cs after comment : List ℕ) (e : TomlExpression) → AreSpaces spaces
      → IsExpression (at + length spaces) cs e
      → AreSpaces after
      → IsComment comment → IsLine at (spaces ++ (cs ++ (after ++ comment))) (e ∷ [])

-- lines with line ends between them
pub data AreLines : ℕ → List ℕ → List TomlExpression → Type 0 where
  last : (at : ℕ) (cs : List ℕ) (es : List TomlExpression) → IsLine at cs es → AreLines at cs es
  more : (at : ℕ) (cs end rest : List ℕ) (es fs : List TomlExpression) → IsLine at cs es → IsNewline end
      → AreLines (at + length cs + length end) rest fs
      → AreLines at (cs ++ (end ++ rest)) (es ++ fs)

-- The text writes these expressions.
abbrev pub IsDocument : List ℕ → List TomlExpression → Type 0
IsDocument cs es = AreLines 0 cs es
