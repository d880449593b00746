-- The special characters of a pattern.
use Rattle.std.specs.Prelude.{ℕ, List, [], ◌∷◌, Bool, false, ◌==◌, ◌&&◌, ◌||◌, not}

abbrev pub slash : ℕ
slash = 47

abbrev pub star : ℕ
star = 42

abbrev pub dot : ℕ
dot = 46

abbrev pub question_mark : ℕ
question_mark = 63

abbrev pub backslash : ℕ
backslash = 92

abbrev pub open_bracket : ℕ
open_bracket = 91

abbrev pub close_bracket : ℕ
close_bracket = 93

abbrev pub dash : ℕ
dash = 45

abbrev pub comma : ℕ
comma = 44

abbrev pub open_brace : ℕ
open_brace = 123

abbrev pub close_brace : ℕ
close_brace = 125

-- `!` or `^`, which negates a class
abbrev pub is_mark : ℕ → Bool
is_mark c = (c == 33) || (c == 94)

-- a character that stands for itself everywhere, except that `/` begins some pieces
abbrev pub is_plain : ℕ → Bool
is_plain c = not (c == question_mark) &&
    (not (c == star) && (not (c == backslash) &&
    (not (c == open_bracket) && (not (c == comma) && (not (c == open_brace) && not (c == close_brace))))))

-- the characters begin with this one
abbrev pub begins : ℕ → List ℕ → Bool
begins c [] = false
begins c (d ∷ ds) = d == c

-- the characters begin with a mark that negates
abbrev pub begins_mark : List ℕ → Bool
begins_mark [] = false
begins_mark (c ∷ cs) = is_mark c
