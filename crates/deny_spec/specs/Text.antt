-- Texts as contracts see them: lists of bytes.
use Rattle.std.specs.Prelude.{ℕ, List, Bool, nat_eq}
use Rattle.std.specs.Cmp.Lexicographic.{pointwise}

-- whether two texts are equal byte for byte
abbrev pub same_text : List ℕ → List ℕ → Bool
same_text = pointwise nat_eq
