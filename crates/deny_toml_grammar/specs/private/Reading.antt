-- The result of a reader, compared with the reading that is expected.
use Rattle.std.specs.Prelude.{◌≡◌, ℕ, ◌<◌, Bool, List, [], ◌++◌, length, String, string_bytes, Option, Some, None}
use Rattle.std.specs.Prelude.{is_some, unwrap_or, Result, IfOk, option_map, option_and_then}
use Rattle.std.specs.Borrow.{Bor}
use Rattle.std.specs.declared.alloc.Global.{Global}
use Rattle.deny_base_lists.specs.Reader.{Gives}
use Rattle.deny_toml_grammar.specs.declared.read_error.ReadError.{ReadError}
use Rattle.deny_toml_grammar.specs.declared.read_error.ReadError.TheVariants.{Memory}
use Rattle.deny_toml_grammar.specs.Lexical.{Read}

infixl 10 ◌>>=◌
abbrev pub ◌>>=◌ : {A B : Type 0} → Option A → (A → Option B) → Option B
o >>= f = option_and_then f o

-- a reading whose value is mapped by f
abbrev pub read_map : {A B : Type 0} → (A → B) → Read A → Read B
read_map f r = option_map (λ p. (f p.0, p.1)) r

-- The value that was read, as `seen` shows it, is the expected one, and a reader fails where none is expected. Running
-- out of memory says nothing of the text.
abbrev pub GivesAs : {A B : Type 0} → (A → B) → Result A ReadError → Option B → Type 0
GivesAs seen r expected = Gives Memory (λ a. expected ≡ Some (seen a)) (λ _. expected ≡ None) r

-- The result is the expected value and rest.
abbrev pub Reads : {A : Type 0} → Result (A × Bor (List ℕ)) ReadError → Read A → Type 0
Reads r expected = GivesAs (λ p. (p.0, p.1.now)) r expected

-- The rest is shorter than the text.
abbrev pub Shortens : {A : Type 0} → List ℕ → Result (A × Bor (List ℕ)) ReadError → Type 0
Shortens text r = IfOk r (λ p. length p.1.now < length text)

-- the bytes of a piece of a string, none at the end of the string
abbrev pub piece_bytes : Option (List ℕ) → List ℕ
piece_bytes piece = unwrap_or piece []

-- a piece of a string was read and appended to `old`
abbrev pub ReadsPiece : String Global → String Global → Result (Bool × Bor (List ℕ)) ReadError → Read (Option (List ℕ))
    → Type 0
ReadsPiece old new r expected =
    Gives Memory
    (λ p. (piece : Option (List ℕ)) × (expected ≡ Some (piece, p.1.now)) × (p.0 ≡ is_some piece)
    × (string_bytes new ≡ string_bytes old ++ piece_bytes piece))
    (λ _. expected ≡ None) r
