-- The pieces of a version's text.
use Rattle.std.specs.Prelude.{ℕ, List, [], ◌∷◌, Option, Some, None}
use Rattle.form_urlencoded.specs.Form.{split}

-- the pieces of a text that was cut at its first dot
abbrev pub pieces_of : List ℕ → Option (List ℕ) → List (List ℕ)
pieces_of piece None = piece ∷ []
pieces_of piece (Some rest) = piece ∷ split 46 rest
