-- Classes of bytes, and the text after blanks.
use Rattle.std.specs.Prelude.{ℕ, Bool, true, false, ◌==◌, List, ⊤, ◌<◌}
use Rattle.std.specs.Char.{is_ascii_digit}
use Rattle.deny_toml_grammar.specs.declared.lexical.ByteClass.{ByteClass}
use Rattle.deny_toml_grammar.specs.declared.lexical.ByteClass.TheVariants.{Space, Bare, Token, Digit, Grouped}
use Rattle.deny_toml_grammar.specs.declared.lexical.ByteClass.TheVariants.{Byte, Plain}
use Rattle.deny_toml_grammar.specs.Lexical.{is_space, is_bare, is_token_byte, is_grouped, is_plain, skip_from}

-- the test for the bytes of a class
abbrev pub class_test : ByteClass → ℕ → Bool
class_test Space = is_space
class_test Bare = is_bare
class_test Token = is_token_byte
class_test Digit = is_ascii_digit
class_test Grouped = is_grouped
class_test (Byte b) = λ c. c == b
class_test (Plain delimiter multi) = is_plain delimiter multi

-- a run of the class ends at a character boundary
abbrev pub EndsAtBoundary : ByteClass → Type 0
EndsAtBoundary (Byte b) = b < 128
EndsAtBoundary (Plain delimiter multi) = delimiter < 128
EndsAtBoundary _ = ⊤

-- the text after spaces, tabs, line ends and comments
abbrev pub skip_blank : List ℕ → List ℕ
skip_blank text = skip_from true false text
