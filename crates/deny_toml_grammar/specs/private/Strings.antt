-- The results of the steps of the readers of strings.
use Rattle.std.specs.Prelude.{ℕ, ◌^◌, string_bytes, String, Result, Bool, ◌&&◌, ◌||◌, ◌==◌, nat_lt, if◌then◌else◌, List}
use Rattle.std.specs.Prelude.{Option, Some, None}
use Rattle.std.specs.List.{list_all}
use Rattle.std.specs.Char.{is_digit}
use Rattle.std.specs.Str.Parse.{digits_value}
use Rattle.std.specs.Borrow.{Bor}
use Rattle.std.specs.declared.alloc.Global.{Global}
use Rattle.deny_toml_grammar.specs.declared.read_error.ReadError.{ReadError}
use Rattle.deny_toml_grammar.specs.Lexical.{Read, quote, apostrophe, first}
use Rattle.deny_toml_grammar.specs.private.Reading.{GivesAs}

-- the text begins with the delimiter of a string
abbrev pub starts_string : List ℕ → Bool
starts_string text = first text == quote || first text == apostrophe

-- the number that hex digits write, if it fits an `i64`
abbrev pub hex_value : List ℕ → Option ℕ
hex_value digits =
    if list_all (λ c. is_digit c 16) digits && nat_lt (digits_value 16 digits) (2 ^ 63) then Some
    (digits_value 16 digits) else None

-- The result is the expected bytes of a string, and the expected rest.
abbrev pub ReadsBytes : Result (String Global × Bor (List ℕ)) ReadError → Read (List ℕ) → Type 0
ReadsBytes r expected = GivesAs (λ p. (string_bytes p.0, p.1.now)) r expected
